use Rattle.std.proofs.Common.{◌≡◌, ◌+◌, length, sym, ap, ◌∙◌, w64, SFits, arith, rules}
use Rattle.std.proofs.lemmas.Int.{to_z-of_z}
use Rattle.certificate.specs.Columns.{entries, branch_entry}
use Rattle.certificate.specs.Held.{leaf_held}
use Rattle.certificate.specs.Splits.{branch_of}
use Rattle.certificate.proofs.Entries.{entry_of_branch, charged_more}
use Rattle.certificate.proofs.leaf.Leaf.charge.Goals as goal

pub loop-i-preserved : goal.loop-i-preserved
loop-i-preserved c =
    let rows = c.args.self.now.claim.task.now.rows.now in
    let path = c.args.self.now.path.now in
    let i = length rows + c.loop-i.i in
    let next : length rows + (c.loop-i.i + 1) ≡ i + 1 = omega arith in
    let e : SFits w64 c.entry.result = search rules in
    let more = simp to_z-of_z at c.charge_more-sum.ensures.value in
    let entry = c.entry.ensures.value ∙ ap (λ t. branch_entry c.args.column (branch_of t)) c.branch-item.is ∙ sym (entry_of_branch c.args.column rows path c.loop-i.i c.branch-item.result (omega arith)) in
    rw next (
      more ∙ charged_more (entries c.args.column rows path) (leaf_held c.args.self.now).multipliers i c.loop-i.sum c.multiplier.result c.entry.result c.loop-i.invariant.0 entry c.multiplier.ensures.value,
      c.charge_more-sum.ensures.small i c.loop-i.invariant.1,
    )
