use Rattle.std.proofs.Common.{◌-◌, arith, false}
use Rattle.task.proofs.Marks.{pass_marks}
use Rattle.task.proofs.tasks.Flow.spread.Goals as goal

pub loop-x-preserved-in-Some : goal.loop-x-preserved-in-Some
loop-x-preserved-in-Some c =
    pass_marks c.args.self.edges.now c.args.self.turns.now c.args.side c.args.marks.now c.loop-x.marks c.loop-x.settled c.loop-x.x (c.loop-x.x - 1) c.loop-x.invariant
    c.in-Some.from (c.loop-x.x - 1) false (λ e. cc) (omega arith) c.in-Some.ensures
