-- What an accepted tree proves.
use Rattle.std.proofs.Common.{◌≡◌, Bool, List, ℤ, pos, Ok}
use Rattle.std.specs.List.{All}
use Rattle.price.specs.Laws.{Laws}
use Rattle.price.specs.Pairs.{Pair}
use Rattle.price.specs.declared.senses.Sense.{Sense}
use Rattle.certificate.specs.TreeJudged.{InRange, TreeJudged, Passes, too_many_edges, too_many_rows, price_range, of_list, not_one_tree, out_of_range, leaf_fails, proved, sign, allowance, bound}
use Rattle.certificate.specs.Lines.{leaves, case_lines}
use Rattle.certificate.specs.Soundness.{PriceProved, VoidProved}
use Rattle.certificate.specs.Tasks.{Task, Answer}
use Rattle.certificate.specs.Trees.{Tree}
use Rattle.certificate.proofs.RunsBounded.{none_dearer, no_run}

module _ (le : Pair → Pair → Bool) (unit : Pair) (task : Task) (sense : Sense) (c : Pair) (top : ℤ) (xs : List ℤ) where
  -- an answer that accepts proves what a tree whose leaves all pass proves
  accepted : {P : Type 0} {a : Answer} → ((t : Tree) → InRange task top t → All (λ x. Passes le unit task sense c x.0 x.1) (leaves (case_lines task) t) → P) →
      TreeJudged le unit task sense c top xs a → a ≡ Ok tt → P
  accepted proves (too_many_edges e h) q = cc
  accepted proves (too_many_rows e h k) q = cc
  accepted proves (price_range e h k f) q = cc
  accepted proves (of_list h k f (not_one_tree e n)) q = cc
  accepted proves (of_list h k f (out_of_range t s place e n)) q = cc
  accepted proves (of_list h k f (leaf_fails t s r ps rest lines l e ok (sign row n g))) q = cc
  accepted proves (of_list h k f (leaf_fails t s r ps rest lines l e ok (allowance edge n u g))) q = cc
  accepted proves (of_list h k f (leaf_fails t s r ps rest lines l e ok (bound n u v g))) q = cc
  accepted proves (of_list h k f (proved e t s r ok)) q = proves t r ok

  pub price_sound : Laws le unit → (a : Answer) → TreeJudged le unit task sense c top xs a → PriceProved le task sense c a
  price_sound laws a j q two = accepted (λ t r ok. none_dearer laws task sense c t ok two) j q

-- D is 0 in every leaf
pub void_sound : (le : Pair → Pair → Bool) (unit : Pair) (task : Task) (sense : Sense) (c : Pair) (xs : List ℤ) → Laws le unit → (a : Answer) → TreeJudged le unit task sense c (pos 0) xs a → VoidProved task a
void_sound le unit task sense c xs laws a j q two = accepted le unit task sense c (pos 0) xs (λ t r ok. no_run laws task sense c t ok two r) j q
