use Rattle.std.proofs.Common.{sym, ap, ◌∙◌, map, arith, ltb-true}
use Rattle.certificate.specs.Splits.{branch_of, path_line}
use Rattle.certificate.proofs.RelationsOfRows.{relation_in, relation_past}
use Rattle.certificate.proofs.leaf.Leaf.relation.Goals as goal

pub returns-in-Some : goal.returns-in-Some
returns-in-Some c =
    let found = c.in-Some.ensures.lookup in
    let task = c.args.self.now.claim.task.now in
    c.relation.ensures ∙ ap (λ r. r.relation) found.1
    ∙ sym (relation_in task.edges.now task.rows.now (map path_line (map branch_of c.args.self.now.path.now)) c.args.row c.in-Some.row.now (ltb-true _ _ (sym found.0)))

pub returns-in-None : goal.returns-in-None
returns-in-None c =
    let task = c.args.self.now.claim.task.now in
    let past = c.in-None.ensures.lookup in
    sym (relation_past task.edges.now task.rows.now c.args.self.now.path.now c.args.row (omega (arith, past)))
