-- Pairs of whole numbers (cycles, reads), added and multiplied part by part.
use Rattle.std.specs.Prelude.{ℕ, zero as none, suc, ℤ, pos, ◌+ℤ◌, ◌-ℤ◌, ◌*ℤ◌, neg_ℤ}

abbrev pub Pair : Type 0
Pair = ℤ × ℤ

abbrev pub zero : Pair
zero = (pos 0, pos 0)

infixl 6 ◌⊕◌ ◌⊖◌
abbrev pub ◌⊕◌ : Pair → Pair → Pair
a ⊕ b = (a.0 +ℤ b.0, a.1 +ℤ b.1)

abbrev pub ◌⊖◌ : Pair → Pair → Pair
a ⊖ b = (a.0 -ℤ b.0, a.1 -ℤ b.1)

abbrev pub times : ℤ → Pair → Pair
times n a = (n *ℤ a.0, n *ℤ a.1)

abbrev pub neg : Pair → Pair
neg a = (neg_ℤ a.0, neg_ℤ a.1)

-- the sum of f over the places below n
abbrev pub sum : (ℕ → Pair) → ℕ → Pair
sum f none = zero
sum f (suc n) = sum f n ⊕ f n
