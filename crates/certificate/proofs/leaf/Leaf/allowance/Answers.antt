use Rattle.std.proofs.Common.{get_or, sym, ap, ◌∙◌}
use Rattle.std.proofs.lemmas.List.{get_or_default}
use Rattle.task.specs.Graph.{no_edge}
use Rattle.certificate.specs.Held.{leaf_held, lines_of}
use Rattle.certificate.specs.Lines.{allowance}
use Rattle.certificate.proofs.Levels.{edge_levels}
use Rattle.certificate.proofs.leaf.Leaf.allowance.Goals as goal

pub returns : goal.returns
returns c =
    let leaf = c.args.self.now in
    let es = leaf.claim.task.now.edges.now in
    let e = get_or es c.args.i c.index-self-i.result in
    let read = get_or_default es c.args.i c.index-self-i.result no_edge c.requires in
    c.level.ensures ∙ sym (edge_levels es leaf leaf.claim.task.now.rows.now leaf.path.now e.tail e.head c.args.i e.block (sym (ap (λ d. d.block) read)))
    ∙ ap (allowance (lines_of leaf) (leaf_held leaf) c.args.i) read
