use Rattle.std.proofs.Common.{◌+ℤ◌, ap, arith, w64, SFits}
use Rattle.std.proofs.lemmas.Int.{ints, to_z-of_z}
use Rattle.certificate.proofs.sums.part_more.Goals as goal

pub returns : goal.returns
returns c =
    let r = c.requires in
    let p = c.product.ensures.small in
    let f : SFits w64 c.args.sum = omega (arith, ints, r) in
    let e : SFits w64 c.args.entry = omega (arith, ints, r) in
    let t : SFits w64 c.args.part = omega (arith, ints, r) in
    let g : SFits w64 c.product.result = omega (arith, ints, p) in
    let s : SFits w64 (c.args.sum +ℤ c.product.result) = omega (arith, ints, r, p) in
    simp to_z-of_z (record { value = ap (λ z. c.args.sum +ℤ z) (simp to_z-of_z at c.product.ensures.value); small = λ n h. (omega (arith, ints, h, p), omega (arith, ints, h, p)) })
