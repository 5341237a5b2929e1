-- Sums and multiples of pairs, part by part.
use Rattle.std.proofs.Common.{◌≡◌, ℕ, suc, ℤ, pos, ◌+ℤ◌, arith}
use Rattle.std.proofs.lemmas.Int.{ints}
use Rattle.price.specs.Pairs.{Pair, zero, ◌⊕◌, ◌⊖◌, times}
use Rattle.price.specs.Integers.{*ℤ-+ℤ, +ℤ-*ℤ}

pub parts : {a b : Pair} → a.0 ≡ b.0 → a.1 ≡ b.1 → a ≡ b
parts p q = λ i. (p i, q i)

pub ⊕-assoc : (a b c : Pair) → (a ⊕ b) ⊕ c ≡ a ⊕ (b ⊕ c)
⊕-assoc a b c = parts (omega (arith, ints)) (omega (arith, ints))

pub ⊕-zero : (a : Pair) → a ⊕ zero ≡ a
⊕-zero a = parts (omega (arith, ints)) (omega (arith, ints))

pub zero-⊕ : (a : Pair) → zero ⊕ a ≡ a
zero-⊕ a = parts (omega (arith, ints)) (omega (arith, ints))

-- two sums, added crosswise
pub ⊕-cross : (a b c d : Pair) → (a ⊕ b) ⊕ (c ⊕ d) ≡ (a ⊕ c) ⊕ (b ⊕ d)
⊕-cross a b c d = parts (omega (arith, ints)) (omega (arith, ints))

pub ⊕-⊖ : (a b : Pair) → (a ⊕ b) ⊕ (zero ⊖ b) ≡ a
⊕-⊖ a b = parts (omega (arith, ints)) (omega (arith, ints))

pub no_times : (a : Pair) → times (pos 0) a ≡ zero
no_times a = parts (omega (arith, ints)) (omega (arith, ints))

pub times_zero : (n : ℤ) → times n zero ≡ zero
times_zero n = parts (omega (arith, ints)) (omega (arith, ints))

pub one_times : (a : Pair) → times (pos 1) a ≡ a
one_times a = parts (omega (arith, ints)) (omega (arith, ints))

pub suc_times : (n : ℕ) (a : Pair) → times (pos (suc n)) a ≡ times (pos n) a ⊕ a
suc_times n a = parts (omega (arith, ints)) (omega (arith, ints))

pub times-⊕ : (n : ℤ) (a b : Pair) → times n (a ⊕ b) ≡ times n a ⊕ times n b
times-⊕ n a b = parts (*ℤ-+ℤ n a.0 b.0) (*ℤ-+ℤ n a.1 b.1)

pub +-times : (m n : ℤ) (a : Pair) → times (m +ℤ n) a ≡ times m a ⊕ times n a
+-times m n a = parts (+ℤ-*ℤ m n a.0) (+ℤ-*ℤ m n a.1)
