use Rattle.std.proofs.Common.{◌≡◌, true, false, rules, tests}
use Rattle.std.proofs.lemmas.Iterator.{first_from_Range}
use Rattle.task.specs.Sides.{node_count}
use Rattle.task.specs.TurnsAnswer.{unbalanced}
use Rattle.task.proofs.Lowest.{found_first}
use Rattle.task.proofs.tasks.Flow.first_unbalanced.Goals as goal

pub returns : goal.returns
returns c =
    let es = c.args.self.edges.now in
    let off = unbalanced es c.args.start c.args.end c.args.self.turns.now in
    found_first off (node_count es) c.nodes.result c.nodes.ensures.count c.find.result
    (first_from_Range _ _ _ _ (λ v. off v ≡ true) (λ v. off v ≡ false) c.find.ensures.ran (λ x q k. search (rules, tests)) (λ x q k. search (rules, tests)))
