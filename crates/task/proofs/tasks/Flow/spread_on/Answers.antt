use Rattle.std.proofs.Common.{true, length, arith}
use Rattle.task.proofs.Marks.{pass_marks}
use Rattle.task.proofs.tasks.Flow.spread_on.Goals as goal
use Rattle.task.proofs.tasks.Flow.spread_on.Goals.{in-Some, in_default}

pub loop-x-preserved : goal.loop-x-preserved
loop-x-preserved c = elim c.match-to_mark.branch [
  | in-Some w ↦ rw w.marks-is (
      pass_marks c.args.self.edges.now c.args.self.turns.now c.args.side c.args.marks.now c.loop-x.marks true (length c.args.self.edges.now) c.loop-x.x c.loop-x.invariant
      w.in-Some.from (length c.args.self.edges.now) true (λ e. omega arith) (omega arith) w.in-Some.ensures
      )
  | in_default w ↦ rw w.marks-is c.loop-x.invariant
]
