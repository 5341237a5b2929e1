use Rattle.std.proofs.Common.{◌≡◌, Some, ◌∙◌, rules, arith}
use Rattle.task.specs.Sides.{untouched}
use Rattle.task.proofs.Lowest.{found_none, found_one, found_two}
use Rattle.task.proofs.sealing.only_free.Goals as goal

pub returns-in_err-only : goal.returns-in_err-only
returns-in_err-only c = rw (← c.nodes-count.ensures.count) (search (rules, found_none (untouched c.args.side c.args.edges.now) c.nodes-count.result))

pub returns-in-Some : goal.returns-in-Some
returns-in-Some c =
    rw (← c.nodes-count.ensures.count)
    (found_two (untouched c.args.side c.args.edges.now) c.nodes-count.result c.in_ok-only.only c.in_ok-only.ensures c.in-Some.field-0 c.in-Some.ensures)

pub returns-in-None : goal.returns-in-None
returns-in-None c =
    let same : c.at.result ≡ Some c.in_ok-only.only = c.at.ensures (omega (arith, c.nodes-count.ensures.few, c.in_ok-only.ensures)) in
    same ∙ rw (← c.nodes-count.ensures.count) (found_one (untouched c.args.side c.args.edges.now) c.nodes-count.result c.in_ok-only.only c.in_ok-only.ensures c.in-None.ensures)
