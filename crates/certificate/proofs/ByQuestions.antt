-- What holds of the answer to questions in order, from what holds of each of its cases.
use Rattle.std.proofs.Common.{◌≡◌, ℕ, zero, suc, ◌+◌, ◌<◌, Bool, true, false, List, [], ◌∷◌, length, get_or, Err, sym, refl, ap, ◌∙◌, subst, arith}
use Rattle.std.specs.Bool.{IsTrue}
use Rattle.std.proofs.lemmas.Bool.{false≢true}
use Rattle.price.specs.Questions.{ask}
use Rattle.task.specs.Sound.{LowestFailing}
use Rattle.certificate.specs.declared.faults.TreeFault.{TreeFault}
use Rattle.certificate.specs.Tasks.{Answer}
use Rattle.certificate.specs.TreeJudged.{EachPasses, FirstFailing}
use Rattle.certificate.specs.Verdicts.{before, first_failing}

pub by_ask : (P : Answer → Type 0) {b : Bool} {fault : TreeFault} {rest : Answer} → (b ≡ false → P (Err fault)) → (b ≡ true → P rest) → P (ask b fault rest)
by_ask P {b = true} failing passing = passing refl
by_ask P {b = false} failing passing = failing refl

module _ (P : Answer → Type 0) {A : Type 0} (ok : ℕ → A → Bool) (fault : ℕ → TreeFault) (d : A) where
  -- element i of a list that is numbered from n
  abbrev PassesFrom : ℕ → List A → ℕ → Type 0
  PassesFrom n xs i = (j : ℕ) → j ≡ n + i → IsTrue (ok j (get_or xs i d))

  further : (n m : ℕ) (x : A) (xs : List A) → ok n x ≡ true → ((i : ℕ) → i < m → PassesFrom (n + 1) xs i) → (i : ℕ) → i < suc m → PassesFrom n (x ∷ xs) i
  further n m x xs here all zero h j e = let same : j ≡ n = omega arith in ap (λ (k : ℕ). ok k x) same ∙ here
  further n m x xs here all (suc i) h j e = all i (omega arith) j (omega arith)

  by_first_from : (n : ℕ) (xs : List A) {rest : Answer} → ((k m : ℕ) → m ≡ n + k → LowestFailing (λ i. i < length xs) (PassesFrom n xs) k → P (Err (fault m))) →
      (((i : ℕ) → i < length xs → PassesFrom n xs i) → P rest) → P (before (first_failing ok fault n xs) rest)
  by_first_from n [] failing passing = passing (λ i h. absurd (omega arith))
  by_first_from n (x ∷ xs) {rest} failing passing = by_ask (λ a. P (before a rest))
      (λ here. failing 0 n (omega arith) (record { place = omega arith; fails = λ h. false≢true (sym here ∙ h n (omega arith)); lowest = λ y h. absurd (omega arith) }))
      (λ here. by_first_from (n + 1) xs
      (λ k m e f. failing (suc k) m (omega arith) (record { place = omega (arith, f.place); fails = λ h. f.fails (λ j e. h j (omega arith)); lowest = further n k x xs here f.lowest }))
      (λ all. passing (further n (length xs) x xs here all)))

  -- the first that fails, or all pass
  pub by_first : (xs : List A) {rest : Answer} → ((k : ℕ) → FirstFailing ok d xs k → P (Err (fault k))) → (EachPasses ok d xs → P rest) → P (before (first_failing ok fault 0 xs) rest)
  by_first xs failing passing = by_first_from 0 xs
      (λ k m e f.
      let at : k ≡ m = omega arith in
      let g = subst (LowestFailing (λ i. i < length xs) (PassesFrom 0 xs)) at f in
      failing m (record { place = g.place; fails = λ h. g.fails (λ j q. let same : j ≡ m = omega arith in ap (λ (i : ℕ). ok i (get_or xs m d)) same ∙ h); lowest = λ y h. g.lowest y h y (omega arith) }))
      (λ all. passing (λ i h. all i h i (omega arith)))
