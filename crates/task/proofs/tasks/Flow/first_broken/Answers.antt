use Rattle.std.proofs.Common.{◌≡◌, true, false, length, refl, rules, tests}
use Rattle.std.proofs.lemmas.Iterator.{first_from_Range}
use Rattle.task.specs.TurnsAnswer.{broken}
use Rattle.task.proofs.Lowest.{found_first}
use Rattle.task.proofs.tasks.Flow.first_broken.Goals as goal

pub returns : goal.returns
returns c =
    let rows = c.args.rows.now in
    let off = broken c.args.self.edges.now rows c.args.self.turns.now in
    found_first off (length rows) (length rows) refl c.find.result
    (first_from_Range _ _ _ _ (λ i. off i ≡ true) (λ i. off i ≡ false) c.find.ensures.ran (λ x q k. search (rules, tests)) (λ x q k. search (rules, tests)))
