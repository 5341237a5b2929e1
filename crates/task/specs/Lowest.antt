-- The lowest number that passes a test, and the only one. To compute with.
use Rattle.std.specs.Prelude.{ℕ, zero, suc, ◌<◌, ◌≤◌, Bool, cond, IsTrue, IsFalse, ◌&&◌, Some, None, Option, MatchOption, nat_lt}

abbrev pub one_if : Bool → ℕ
one_if b = cond b 1 0

-- the lowest number below n that passes the test, or n
abbrev pub lowest : (ℕ → Bool) → ℕ → ℕ
lowest p zero = zero
lowest p (suc n) = cond (p zero) zero (suc (lowest (λ i. p (suc i)) n))

abbrev pub below : ℕ → ℕ → Option ℕ
below n x = cond (nat_lt x n) (Some x) None

-- the lowest number below n that passes the test
abbrev pub first : (ℕ → Bool) → ℕ → Option ℕ
first p n = below n (lowest p n)

-- the number below n that passes the test, if there is just one
abbrev pub sole : (ℕ → Bool) → ℕ → Option ℕ
sole p n = cond (nat_lt (lowest (λ v. p v && nat_lt (lowest p n) v) n) n) None (first p n)

-- the lowest number from a up to b that passes the test
abbrev pub FirstFrom : (ℕ → Bool) → ℕ → ℕ → Option ℕ → Type 0
FirstFrom p a b found = MatchOption found ((v : ℕ) → a ≤ v → v < b → IsFalse (p v)) (λ x. (a ≤ x) × (x < b) × IsTrue (p x) × ((v : ℕ) → a ≤ v → v < x → IsFalse (p v)))
