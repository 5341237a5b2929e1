use Rattle.std.proofs.Common.{w64, SFits, rules}
use Rattle.std.proofs.lemmas.Int.{to_z-of_z}
use Rattle.certificate.proofs.sums.charge_more.Goals as goal

pub returns-clause-small : goal.returns-clause-small
returns-clause-small c n h =
    let f : SFits w64 c.part_more-cycles.result = search rules in
    let g : SFits w64 c.part_more-reads.result = search rules in
    let a : SFits w64 c.args.sum.0 = search rules in
    let b : SFits w64 c.args.sum.1 = search rules in
    let cycles = simp to_z-of_z at c.part_more-cycles.ensures.small in
    let reads = simp to_z-of_z at c.part_more-reads.ensures.small in
    simp to_z-of_z (cycles n h.0, reads n h.1)
