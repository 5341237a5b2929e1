-- The first that fails of two lists, one behind the other.
use Rattle.std.proofs.Common.{◌≡◌, ℕ, suc, ◌+◌, Bool, true, false, List, [], ◌∷◌, ◌++◌, length, Ok, Err, sym, refl, ap, ◌∙◌, arith}
use Rattle.price.specs.Questions.{ask}
use Rattle.certificate.specs.declared.faults.TreeFault.{TreeFault}
use Rattle.certificate.specs.Tasks.{Answer}
use Rattle.certificate.specs.Verdicts.{first_failing, before}

ask_before : (b : Bool) (refusal : TreeFault) (a rest : Answer) → ask b refusal (before a rest) ≡ before (ask b refusal a) rest
ask_before true refusal a rest = refl
ask_before false refusal a rest = refl

-- an answer that is the first, if that refuses, or else the second
pub record FirstOf (all first rest : Answer) : Type 0 where
  pub refused : {e : TreeFault} → ◌≡◌ {A = Answer} (Err e) first → ◌≡◌ {A = Answer} (Err e) all
  pub passed : ◌≡◌ {A = Answer} (Ok tt) first → all ≡ rest

pub first_of : (all first rest : Answer) → all ≡ before first rest → FirstOf all first rest
first_of all first rest e = record { refused = λ h. ap (λ a. before a rest) h ∙ sym e; passed = λ h. e ∙ sym (ap (λ a. before a rest) h) }

module _ {A : Type 0} (ok : ℕ → A → Bool) (refusal : ℕ → TreeFault) where
  pub first_append : (n : ℕ) (xs ys : List A) → first_failing ok refusal n (xs ++ ys) ≡ before (first_failing ok refusal n xs) (first_failing ok refusal (n + length xs) ys)
  first_append n [] ys = let e : n ≡ n + 0 = omega arith in ap (λ (k : ℕ). first_failing ok refusal k ys) e
  first_append n (x ∷ xs) ys =
      let e : n + 1 + length xs ≡ n + suc (length xs) = omega arith in
      ap (ask (ok n x) (refusal n)) (first_append (n + 1) xs ys ∙ ap (λ (k : ℕ). before (first_failing ok refusal (n + 1) xs) (first_failing ok refusal k ys)) e)
      ∙ ask_before (ok n x) (refusal n) (first_failing ok refusal (n + 1) xs) (first_failing ok refusal (n + suc (length xs)) ys)
