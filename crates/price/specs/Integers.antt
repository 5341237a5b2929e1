-- Products of whole numbers, which `omega` takes for unknowns: each law hands it the facts already multiplied.
use Rattle.std.specs.Prelude.{◌≡◌, ℕ, ◌+◌, ◌*◌, ◌≤◌, ℤ, pos, ◌+ℤ◌, ◌*ℤ◌, neg_ℤ}
use Rattle.std.proofs.Common.{mul-le-mul_left, mul-le-mul_right, arith, ap}
use borrow.Author.Differences.{up, down, sum_is_lem, neg_is, product_is}
use Rattle.std.proofs.lemmas.Int.{ints}
use Rattle.price.specs.Ranges.{Within}

pub *ℤ-+ℤ : (a x y : ℤ) → a *ℤ (x +ℤ y) ≡ a *ℤ x +ℤ a *ℤ y
*ℤ-+ℤ a x y = omega (arith, ints, ap (λ n. up a * n) (sum_is_lem x y), ap (λ n. down a * n) (sum_is_lem x y))

pub +ℤ-*ℤ : (x y a : ℤ) → (x +ℤ y) *ℤ a ≡ x *ℤ a +ℤ y *ℤ a
+ℤ-*ℤ x y a = omega (arith, ints, ap (λ n. n * up a) (sum_is_lem x y), ap (λ n. n * down a) (sum_is_lem x y))

pub *ℤ-assoc : (a b c : ℤ) → a *ℤ (b *ℤ c) ≡ (a *ℤ b) *ℤ c
*ℤ-assoc a b c =
    let inner = product_is b c in
    let outer = product_is a b in
    omega (
      arith,
      ints,
      ap (λ n. up a * n) inner.0,
      ap (λ n. down a * n) inner.0,
      ap (λ n. up a * n) inner.1,
      ap (λ n. down a * n) inner.1,
      ap (λ n. n * up c) outer.0,
      ap (λ n. n * down c) outer.0,
      ap (λ n. n * up c) outer.1,
      ap (λ n. n * down c) outer.1,
    )

pub negℤ-*ℤ : (n z : ℤ) → neg_ℤ n *ℤ z ≡ neg_ℤ (n *ℤ z)
negℤ-*ℤ n z =
    let e = neg_is n in
    omega (arith, ints, ap (λ m. m * up z) e.0, ap (λ m. m * down z) e.0, ap (λ m. m * up z) e.1, ap (λ m. m * down z) e.1)

-- a bound times a natural number
pub scaled : (w m h : ℕ) (z : ℤ) → w ≤ m → Within h z → Within (m * h) (pos w *ℤ z)
scaled w m h z le fits =
    let low : down z ≤ up z + h = omega (arith, ints) in
    let high : up z ≤ down z + h = omega (arith, ints) in
    omega (arith, ints, mul-le-mul_right h le, mul-le-mul_left w low, mul-le-mul_left w high)
