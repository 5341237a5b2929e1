-- The answers of calls on a fresh case, one after the other, by the calls' own definitions.
use Rattle.std.specs.Prelude.{◌≡◌, Bool, List, [], ◌∷◌}
use Rattle.history.specs.Answers.{Said}
use Rattle.history.specs.Calls.{Request}
use Rattle.history.specs.Performing.{answered, after}
use Rattle.judge.specs.Cases.{Contents, fresh}
use Rattle.price.specs.Pairs.{Pair}

module _ (le : Pair → Pair → Bool) (unit : Pair) where
  abbrev pub answers_from : Contents → List Request → List Said
  answers_from c [] = []
  answers_from c (q ∷ calls) = answered le unit c q ∷ answers_from (after le unit c q) calls

-- calls under a tariff, and what they should be answered
pub record Trial : Type 0 where
  pub le : Pair → Pair → Bool
  pub unit : Pair
  pub calls : List Request
  pub answers : List Said

abbrev pub IsAnswered : Trial → Type 0
IsAnswered t = answers_from t.le t.unit fresh t.calls ≡ t.answers
