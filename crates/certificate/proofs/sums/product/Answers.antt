use Rattle.std.proofs.Common.{◌*ℤ◌, refl, arith, w64, SFits}
use Rattle.std.proofs.lemmas.Int.{ints, to_z-of_z}
use Rattle.certificate.proofs.Products.{product_within}
use Rattle.certificate.proofs.sums.product.Goals as goal

pub returns : goal.returns
returns c =
    let s = product_within c.args.entry c.args.part 1048577 67108864 c.requires.0 c.requires.1 in
    let a = c.ranges.entry in
    let b = c.ranges.part in
    let p : SFits w64 (c.args.entry *ℤ c.args.part) = omega (arith, ints, s) in
    simp to_z-of_z (record { value = refl; small = s })
