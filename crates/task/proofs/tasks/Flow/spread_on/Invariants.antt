-- Every mark so far is right.
use Rattle.std.proofs.Common.{true, length}
use Rattle.task.specs.Spreading.{Pass}
use Rattle.task.proofs.tasks.Flow.spread_on.Given as goal

abbrev pub invariant-loop-x : goal.invariant-loop-x
invariant-loop-x l = Pass l.self.edges.now l.self.turns.now l.side l.initial.marks l.marks true (length l.self.edges.now)
