-- The pass has come to this edge.
use Rattle.task.specs.Spreading.{Pass}
use Rattle.task.proofs.tasks.Flow.spread.Given as goal

abbrev pub invariant-loop-x : goal.invariant-loop-x
invariant-loop-x l = Pass l.self.edges.now l.self.turns.now l.side l.initial.marks l.marks l.settled l.x
