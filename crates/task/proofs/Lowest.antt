-- The lowest number that passes a test, and the only one: what the tests tell, and what searches answer.
use Rattle.std.proofs.Common.{◌≡◌, ℕ, zero, suc, ◌+◌, ◌<◌, ◌≤◌, Bool, true, false, not, ◌&&◌, ltb, List, length, get_or, Some, None, Option, sym, ap, ◌∙◌, zero-add, arith}
use Rattle.std.specs.Bool.{Decides}
use Rattle.std.specs.List.{position, enumerate_from}
use Rattle.std.proofs.lemmas.Bool.{both_ways, not_from_true, not_from_false, cond_both, ltb-true, ltb-false, and_parts}
use Rattle.std.proofs.lemmas.Bool.Decides.{nat_tests}
use Rattle.std.proofs.lemmas.List.FromFn.{length-enumerate_from, get_or-enumerate_from}
use Rattle.std.proofs.lemmas.List.Sums.{position_or_len_is}
use Rattle.task.specs.Lowest.{lowest, below, first, sole, FirstFrom}
use Rattle.task.specs.Sound.{LowestFailing}

-- what holds of 0 where it passes, and otherwise of one more than the lowest of the rest, holds of the lowest
by_zero : (p : ℕ → Bool) (n : ℕ) (P : ℕ → Type 0) → (p zero ≡ true → P zero) → (p zero ≡ false → P (suc (lowest (λ i. p (suc i)) n))) → P (lowest p (suc n))
by_zero p n P here later = cond_both (p zero) zero (suc (lowest (λ i. p (suc i)) n)) P here later

pub lowest_passes : (p : ℕ → Bool) (n : ℕ) → lowest p n < n → p (lowest p n) ≡ true
lowest_passes p zero h = absurd (omega arith)
lowest_passes p (suc n) h = by_zero p n (λ x. x < suc n → p x ≡ true) (λ q low. q) (λ q low. lowest_passes (λ i. p (suc i)) n (omega arith)) h

pub lowest_misses : (p : ℕ → Bool) (n y : ℕ) → y < lowest p n → p y ≡ false
lowest_misses p zero y h = absurd (omega arith)
lowest_misses p (suc n) zero h = by_zero p n (λ x. zero < x → p zero ≡ false) (λ q low. absurd (omega arith)) (λ q low. q) h
lowest_misses p (suc n) (suc y) h =
    by_zero p n (λ x. suc y < x → p (suc y) ≡ false) (λ q low. absurd (omega arith)) (λ q low. lowest_misses (λ i. p (suc i)) n y (omega arith)) h

pub lowest_most : (p : ℕ → Bool) (n : ℕ) → lowest p n ≤ n
lowest_most p zero = omega arith
lowest_most p (suc n) = by_zero p n (λ x. x ≤ suc n) (λ q. omega arith) (λ q. omega (arith, lowest_most (λ i. p (suc i)) n))

pub lowest_le : (p : ℕ → Bool) (n y : ℕ) → p y ≡ true → lowest p n ≤ y
lowest_le p n y t = grind (arith, lowest_misses p n y)

-- what a search that stops at the first answers
pub lowest_is : (p : ℕ → Bool) (n x : ℕ) → x < n → p x ≡ true → ((y : ℕ) → y < x → p y ≡ false) → lowest p n ≡ x
lowest_is p n x low t miss = grind (arith, lowest_le p n x t, miss (lowest p n), lowest_passes p n)

pub lowest_none : (p : ℕ → Bool) (n : ℕ) → ((y : ℕ) → y < n → p y ≡ false) → n ≤ lowest p n
lowest_none p n miss = grind (arith, miss (lowest p n), lowest_passes p n)

-- ---- the first

first_found : (p : ℕ → Bool) (n x : ℕ) → x < n → p x ≡ true → ((y : ℕ) → y < x → p y ≡ false) → Some x ≡ first p n
first_found p n x low met miss = grind (arith, nat_tests, lowest_is p n x low met miss)

first_none : (p : ℕ → Bool) (n : ℕ) → ((y : ℕ) → y < n → p y ≡ false) → None ≡ first p n
first_none p n miss = grind (arith, nat_tests, lowest_none p n miss)

-- a question of each place, where the test passes at those that fail it: the answer names the lowest, or all hold
module _ (Says : Option ℕ → Type 0) (Place Holds : ℕ → Type 0) (bad : ℕ → Bool) (n : ℕ) (inside : (y : ℕ) → Place y → y < n) (place : (y : ℕ) → y < n → Place y)
    (tells : (y : ℕ) → y < n → Decides (not (bad y)) (Holds y)) (fails : (x : ℕ) → LowestFailing Place Holds x → Says (Some x)) (holds : ((y : ℕ) → Place y → Holds y) → Says None) where
  good : (y : ℕ) → y < n → y < lowest bad n → Holds y
  good y low before = (tells y low).0 (not_from_false (bad y) (lowest_misses bad n y before))

  pub first_says : Says (first bad n)
  first_says = cond_both (ltb (lowest bad n) n) (Some (lowest bad n)) None Says
      (λ h.
      let low = ltb-true (lowest bad n) n h in
      fails (lowest bad n) (record {
        place = place (lowest bad n) low;
        fails = λ is. both_ways _ (not_from_true _ (lowest_passes bad n low)) ((tells (lowest bad n) low).1 is);
        lowest = λ y before. good y (omega arith) before;
      }))
      (λ h. holds (λ y at. good y (inside y at) (omega (arith, ltb-false (lowest bad n) n h, inside y at))))

-- ---- the only one

-- what the answer says: this number alone passes; or no number does so alone
abbrev pub Sole : (ℕ → Bool) → ℕ → Option ℕ → Type 0
Sole p n (Some s) = (s < n) × (p s ≡ true) × ((v : ℕ) → v < n → p v ≡ true → v ≡ s)
Sole p n None = (s : ℕ) → s < n → p s ≡ true → ((v : ℕ) → v < n → p v ≡ true → v ≡ s) → ⊥

module _ (p : ℕ → Bool) (n : ℕ) where
  -- v passes, above the lowest that does
  abbrev second : ℕ → Bool
  second v = p v && ltb (lowest p n) v

  -- the lowest passes alone where no other passes above it
  sole_first : ((v : ℕ) → v < n → p v ≡ true → v ≤ lowest p n) → sole p n ≡ first p n
  sole_first all = grind (arith, nat_tests, all (lowest second n), lowest_passes second n)

  pub sole_says : Sole p n (sole p n)
  sole_says = cond_both (ltb (lowest second n) n) None (first p n) (Sole p n)
      (λ h s low met all.
      let v = lowest second n in
      let in' : v < n = ltb-true v n h in
      let parts = and_parts (p v) (ltb (lowest p n) v) (lowest_passes second n in') in
      let lt : lowest p n < v = ltb-true (lowest p n) v parts.1 in
      omega (arith, all v in' parts.0, all (lowest p n) (omega arith) (lowest_passes p n (omega arith))))
      (λ h. cond_both (ltb (lowest p n) n) (Some (lowest p n)) None (Sole p n)
      (λ low. (ltb-true (lowest p n) n low, lowest_passes p n (ltb-true (lowest p n) n low), λ v in' met. grind (arith, nat_tests, lowest_le p n v met, lowest_misses second n v)))
      (λ none s low met all. omega (arith, ltb-false (lowest p n) n none, lowest_le p n s met)))

-- ---- `find` over a range of numbers, and over what is left of it

module _ (p : ℕ → Bool) (n m : ℕ) (e : m ≡ n) where
  pub found_first : (r : Option ℕ) → FirstFrom p 0 m r → r ≡ first p n
  found_first None none = first_none p n (λ k low. none k (omega arith) (omega arith))
  found_first (Some x) found = first_found p n x (omega (arith, found.1)) found.2 (λ k low. found.3 k (omega arith) low)

module _ (p : ℕ → Bool) (n : ℕ) where
  pub found_none : FirstFrom p 0 n None → None ≡ sole p n
  found_none none = let all = first_none p n (λ v low. none v (omega arith) low) in rw (sole_first p n (λ v low met. absurd (both_ways (p v) (none v (omega arith) low) met))) all

  module _ (s : ℕ) (found : FirstFrom p 0 n (Some s)) where
    pub found_one : FirstFrom p (s + 1) n None → Some s ≡ sole p n
    found_one none =
        let miss : (v : ℕ) → v < s → p v ≡ false = λ v low. found.3 v (omega arith) low in
        rw (sole_first p n (λ v low met. grind (arith, lowest_is p n s found.1 found.2 miss, none v))) (first_found p n s found.1 found.2 miss)

    pub found_two : (v : ℕ) → FirstFrom p (s + 1) n (Some v) → None ≡ sole p n
    found_two v more = grind (arith, nat_tests, more, lowest_le (second p n) n v, lowest_le p n s found.2)

-- ---- `position` over a list, and over its elements with their numbers

pub position_first : {X : Type 0} (p : X → Bool) (q : ℕ → Bool) (xs : List X) (d : X) → ((i : ℕ) → i < length xs → q i ≡ p (get_or xs i d)) → position p xs ≡ first q (length xs)
position_first p q xs d same =
    let n = length xs in
    ap (below n) (position_or_len_is p xs (lowest q n) d (lowest_most q n)
    (λ k low. sym (same k (omega (arith, lowest_most q n))) ∙ lowest_misses q n k low) (λ low. sym (same (lowest q n) low) ∙ lowest_passes q n low))

pub position_numbered : {X : Type 0} (p : ℕ → X → Bool) (xs : List X) (d : X) →
    position (λ (s : ℕ × X). p s.0 s.1) (enumerate_from 0 xs) ≡ first (λ i. p i (get_or xs i d)) (length xs)
position_numbered {X} p xs d =
    position_first (λ (s : ℕ × X). p s.0 s.1) (λ i. p i (get_or xs i d)) (enumerate_from 0 xs) (0, d) (λ i low.
    sym (ap (λ (s : ℕ × X). p s.0 s.1) (get_or-enumerate_from 0 xs i (0, d) (omega (arith, length-enumerate_from 0 xs))) ∙ ap (λ j. p j (get_or xs i d)) (zero-add i)))
    ∙ ap (first (λ i. p i (get_or xs i d))) (length-enumerate_from 0 xs)
