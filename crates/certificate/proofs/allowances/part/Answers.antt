use Rattle.std.proofs.Common.{◌-ℤ◌, ◌+ℤ◌, refl, arith, w64, SFits}
use Rattle.std.proofs.lemmas.Int.{ints, to_z-of_z}
use Rattle.certificate.proofs.allowances.part.Goals as goal

pub returns : goal.returns
returns c =
    let r = c.requires in
    let f : SFits w64 c.args.before = omega (arith, ints, r) in
    let g : SFits w64 c.args.after = omega (arith, ints, r) in
    let h : SFits w64 c.args.charge = omega (arith, ints, r) in
    let d : SFits w64 (c.args.before -ℤ c.args.after) = omega (arith, ints, r) in
    let s : SFits w64 (c.args.before -ℤ c.args.after +ℤ c.args.charge) = omega (arith, ints, r) in
    simp to_z-of_z (record { value = refl; small = omega (arith, ints, r) })
