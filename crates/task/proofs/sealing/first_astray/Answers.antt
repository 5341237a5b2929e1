use Rattle.std.proofs.Common.{◌≡◌, true, false, rules, tests}
use Rattle.std.proofs.lemmas.Iterator.{first_from_Range}
use Rattle.task.specs.EndsAnswer.{astray}
use Rattle.task.specs.Sides.{node_count}
use Rattle.task.proofs.Lowest.{found_first}
use Rattle.task.proofs.sealing.first_astray.Goals as goal

pub returns : goal.returns
returns c =
    let es = c.args.edges.now in
    let off = astray es c.args.start c.args.end in
    found_first off (node_count es) c.nodes.result c.nodes.ensures.count c.find.result
    (first_from_Range _ _ _ _ (λ v. off v ≡ true) (λ v. off v ≡ false) c.find.ensures.ran
    (λ x q k. search (rules, tests, c.joined_to-from_start.ensures x, c.joined_to-to_end.ensures x))
    (λ x q k. search (rules, tests, c.joined_to-from_start.ensures x, c.joined_to-to_end.ensures x)))
