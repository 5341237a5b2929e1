use Rattle.std.proofs.Common.{◌≡◌, true, false, rules, tests}
use Rattle.std.proofs.lemmas.Iterator.{first_from_Range}
use Rattle.task.specs.Sides.{untouched}
use Rattle.task.proofs.sealing.first_free.Goals as goal

pub returns : goal.returns
returns c =
    let free = untouched c.args.side c.args.edges.now in
    first_from_Range _ _ _ c.find.result (λ v. free v ≡ true) (λ v. free v ≡ false) c.find.ensures.ran (λ x q k. search (rules, tests)) (λ x q k. search (rules, tests))
