-- No distance is too low; each pass but the last makes their sum less.
use Rattle.std.proofs.Common.{sum}
use Rattle.walk.proofs.DistancePasses.{Nearing}
use Rattle.walk.proofs.exits.Distances.to_end.Given as goal

abbrev pub invariant-loop : goal.invariant-loop
invariant-loop l = Nearing l.flow.edges.now l.flow.turns.now l.fn.end l.table.far

abbrev pub decreases-loop : goal.decreases-loop
decreases-loop l = sum l.table.far
