-- The pass has come to this edge.
use Rattle.walk.specs.Tables.{DistancePass}
use Rattle.walk.proofs.exits.Distances.shorten.Given as goal

abbrev pub invariant-loop-x : goal.invariant-loop-x
invariant-loop-x l = DistancePass l.flow.edges.now l.flow.turns.now l.initial.self.far l.self.far l.settled l.x
