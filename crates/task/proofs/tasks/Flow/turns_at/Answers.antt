use Rattle.std.proofs.Common.{◌==◌, pos, ap, ◌∙◌, arith}
use Rattle.std.proofs.lemmas.Int.{ints}
use Rattle.std.proofs.lemmas.Bool.Decides.{nat_tests}
use Rattle.task.specs.declared.edges.Edge.{Edge}
use Rattle.task.specs.Lowest.{one_if}
use Rattle.task.specs.Sides.{end_at}
use Rattle.task.proofs.ByPlaces.{turns_weighed}
use Rattle.task.proofs.EdgeSums.{edge_read, weighed_next, weighed_done}
use Rattle.task.proofs.tasks.Flow.turns_at.Goals as goal

pub loop-x-preserved : goal.loop-x-preserved
loop-x-preserved c =
    let read = edge_read c.args.self.edges.now c.loop-x.x c.edge-item.result c.edge-item.is (omega arith) in
    let at = c.node.ensures ∙ ap (end_at c.args.side) read in
    let more = weighed_next (λ e. pos (one_if (end_at c.args.side e == c.args.node))) c.args.self.edges.now c.args.self.turns.now c.loop-x.x (omega arith) in
    grind (arith, ints, nat_tests, at, more)

pub returns : goal.returns
returns c =
    let has = λ (e : Edge). end_at c.args.side e == c.args.node in
    let done = weighed_done (λ e. pos (one_if (has e))) c.args.self.edges.now c.args.self.turns.now c.loop-x.x (omega arith) in
    grind (arith, ints, done, turns_weighed has c.args.self.edges.now c.args.self.turns.now)
