use Rattle.std.proofs.Common.{sym, ap, ◌∙◌, w64, SFits, arith, rules}
use Rattle.std.proofs.lemmas.Int.{to_z-of_z}
use Rattle.certificate.specs.Columns.{entries, row_entry}
use Rattle.certificate.specs.Held.{leaf_held}
use Rattle.certificate.proofs.Entries.{entry_of_row, charged_more}
use Rattle.certificate.proofs.leaf.Leaf.charge_of_task.Goals as goal

pub loop-i-preserved : goal.loop-i-preserved
loop-i-preserved c =
    let rows = c.args.self.now.claim.task.now.rows.now in
    let path = c.args.self.now.path.now in
    let e : SFits w64 c.row_entry.result = search rules in
    let more = simp to_z-of_z at c.charge_more-sum.ensures.value in
    let entry = c.row_entry.ensures.value ∙ ap (row_entry c.args.column) c.row-item.is ∙ sym (entry_of_row c.args.column rows path c.loop-i.i c.row-item.result (omega arith)) in (
      more ∙ charged_more (entries c.args.column rows path) (leaf_held c.args.self.now).multipliers c.loop-i.i c.loop-i.sum c.multiplier.result c.row_entry.result c.loop-i.invariant.0 entry c.multiplier.ensures.value,
      c.charge_more-sum.ensures.small c.loop-i.i c.loop-i.invariant.1,
    )
