-- The parts of a price are short.
use Rattle.std.proofs.Common.{◌≡◌, ℕ, ◌+◌, ◌^◌, ◌≤◌, List, ◌∷◌, ◌++◌, length, ℤ, pos, negsuc, ap, arith, length-append}
use lib.Signed.{mag}
use Rattle.std.specs.Fmt.{signed_decimal}
use Rattle.std.proofs.lemmas.Fmt.{length_signed_le}
use Rattle.std.proofs.lemmas.Int.{ints}
use Rattle.price.specs.Ranges.{Part}

price_size : (z : ℤ) → Part z → mag z ≤ 2 ^ 52
price_size (pos n) h = omega (arith, ints, h.1)
price_size (negsuc n) h = omega (arith, ints, h.0)

-- one more part takes a blank, a sign and at most 16 digits
pub part_fits : (front new : List ℕ) (z : ℤ) → Part z → new ≡ front ++ (32 ∷ signed_decimal z) → length new ≤ length front + 18
part_fits front new z h pushed =
    let size = price_size z h in
    let short : length (signed_decimal z) ≤ 17 = length_signed_le 16 z (omega arith) (omega arith) in
    omega (arith, ap length pushed, length-append front (32 ∷ signed_decimal z))
