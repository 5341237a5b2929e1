use Rattle.std.proofs.Common.{sym, ◌∙◌}
use Rattle.certificate.proofs.Levels.{limit_levels}
use Rattle.certificate.proofs.leaf.Leaf.bound.Goals as goal

pub returns : goal.returns
returns c =
    let leaf = c.args.self.now in
    c.level.ensures ∙ sym (limit_levels leaf.claim.task.now.edges.now leaf leaf.claim.task.now.rows.now leaf.path.now leaf.claim.task.now.start leaf.claim.task.now.end)
