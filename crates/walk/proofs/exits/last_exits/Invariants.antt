-- The exits by the edges from this one on.
use Rattle.walk.proofs.ExitTables.{ExitsFrom}
use Rattle.walk.proofs.exits.last_exits.Given as goal

abbrev pub invariant-loop-x : goal.invariant-loop-x
invariant-loop-x l = ExitsFrom l.flow.edges.now l.flow.turns.now l.fn.end l.exits l.x
