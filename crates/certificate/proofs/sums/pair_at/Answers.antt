use Rattle.std.proofs.Common.{sym, ◌∙◌, w32, w64, SFits, rules}
use Rattle.price.proofs.PairSums.{parts}
use Rattle.std.proofs.lemmas.Int.{to_z-of_z}
use Rattle.certificate.proofs.Charges.{pairs_at}
use Rattle.certificate.proofs.sums.pair_at.Goals as goal

pub returns-clause-value : goal.returns-clause-value
returns-clause-value c =
    let f : SFits w32 c.number-first.result = search rules in
    let g : SFits w32 c.number-second.result = search rules in
    let h : SFits w64 c.from.result = search rules in
    let k : SFits w64 c.from-2.result = search rules in
    let first = (simp to_z-of_z at c.from.ensures) ∙ c.number-first.ensures in
    let second = (simp to_z-of_z at c.from-2.ensures) ∙ c.number-second.ensures in
    simp to_z-of_z (parts first second ∙ sym (pairs_at c.args.list.now c.args.i))
