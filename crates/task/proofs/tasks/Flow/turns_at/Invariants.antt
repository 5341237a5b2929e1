-- What is added up, and what is still to come.
use Rattle.std.proofs.Common.{◌≡◌, ◌*◌, ◌^◌, ◌≤◌, ◌==◌, drop, pos, ◌+ℤ◌}
use Rattle.task.specs.Lowest.{one_if}
use Rattle.task.specs.Sides.{end_at}
use Rattle.task.proofs.EdgeSums.{weighed}
use Rattle.task.proofs.tasks.Flow.turns_at.Given as goal

abbrev pub invariant-loop-x : goal.invariant-loop-x
invariant-loop-x l =
    let sum = weighed (λ e. pos (one_if (end_at l.side e == l.node))) in
    (pos l.sum +ℤ sum (drop l.x l.self.edges.now) (drop l.x l.self.turns.now) ≡ sum l.self.edges.now l.self.turns.now) × (l.sum ≤ 2 ^ 32 * l.x)
