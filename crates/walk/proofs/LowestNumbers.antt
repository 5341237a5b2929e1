-- The lowest number that passes a test: what it is, and that there is only one.
use Rattle.std.proofs.Common.{◌≡◌, ℕ, ◌+◌, ◌<◌, ◌≤◌, Bool, true, false, cond, ⊎_elim, arith}
use Rattle.std.proofs.lemmas.Bool.{both_ways, cases_lt, cases_eq}
use Rattle.task.specs.Lowest.{lowest}
use Rattle.task.proofs.Lowest.{lowest_passes, lowest_misses, lowest_is, lowest_none, lowest_most}
use Rattle.walk.specs.Fewest.{Lowest}

pub only_lowest : (P : ℕ → Type 0) (x y : ℕ) → Lowest P x → Lowest P y → x ≡ y
only_lowest P x y a b = grind (arith, a.is, b.is, a.lowest y, b.lowest x)

module _ (p : ℕ → Bool) (n : ℕ) where
  -- the lowest that passes is the lowest of which holds what the test tells
  pub lowest_says : (P : ℕ → Type 0) → ((x : ℕ) → x < n → p x ≡ true → P x) → ((x : ℕ) → P x → p x ≡ true) → lowest p n < n → Lowest P (lowest p n)
  lowest_says P is has low = record {
    is = is (lowest p n) low (lowest_passes p n low);
    lowest = λ y h q. both_ways (p y) (lowest_misses p n y h) (has y q);
  }

  -- of the numbers from x on, r is the lowest that passes, or n
  pub record LowestFrom (x r : ℕ) : Type 0 where
    pub most : r ≤ n
    pub met : r < n → p r ≡ true
    pub misses : (y : ℕ) → x ≤ y → y < r → p y ≡ false

  -- one number further down
  pub from_next : (x m r s : ℕ) → s ≡ cond (p x) x r → x < n → m ≤ x + 1 → LowestFrom m r → LowestFrom x s
  from_next x m r s is low next f = record { most = grind (arith, f.most); met = λ h. grind (arith, f.met); misses = λ y a b. grind (arith, f.misses y, cases_eq y x) }

  pub from_all : (x r : ℕ) → x ≤ 0 → LowestFrom x r → r ≡ lowest p n
  from_all x r done f = ⊎_elim
      (λ (some : r < n). omega (arith, lowest_is p n r some (f.met some) (λ y h. f.misses y (omega arith) h)))
      (λ (none : n ≤ r). omega (arith, f.most, lowest_most p n, lowest_none p n (λ y h. f.misses y (omega arith) (omega arith))))
      (cases_lt r n)
