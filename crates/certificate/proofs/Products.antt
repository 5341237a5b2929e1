-- The range of a product of two whole numbers.
use Rattle.std.proofs.Common.{ℕ, ◌*◌, ◌≤◌, ℤ, nat_abs, ◌*ℤ◌, mul-le-mul, arith}
use Rattle.std.proofs.lemmas.Int.{ints, unsigned_abs-mul}
use Rattle.price.specs.Ranges.{Within}

pub product_within : (a b : ℤ) (h k : ℕ) → Within h a → Within k b → Within (h * k) (a *ℤ b)
product_within a b h k f g =
    let p : nat_abs a ≤ h = omega (arith, ints) in
    let q : nat_abs b ≤ k = omega (arith, ints) in
    omega (arith, ints, unsigned_abs-mul a b, mul-le-mul p q)
