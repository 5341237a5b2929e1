-- Every mark is right; each pass but the last leaves fewer nodes without one.
use Rattle.std.proofs.Common.{◌+◌, not}
use Rattle.task.specs.Lowest.{one_if}
use Rattle.task.specs.Spreading.{unmarked}
use Rattle.task.proofs.Marks.{Marked}
use Rattle.task.proofs.tasks.Flow.joined_to.Given as goal

abbrev pub invariant-loop-settled : goal.invariant-loop-settled
invariant-loop-settled l = Marked l.self.edges.now l.self.turns.now l.side l.fn.goal l.marks l.settled

abbrev pub decreases-loop-settled : goal.decreases-loop-settled
decreases-loop-settled l = unmarked l.marks + one_if (not l.settled)
