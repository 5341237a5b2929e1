-- What is added up, and what is still to come; each edge adds at most 2^63.
use Rattle.std.proofs.Common.{◌≡◌, ◌*◌, ◌^◌, drop, ◌+ℤ◌}
use Rattle.price.specs.Ranges.{Within}
use Rattle.task.specs.Rows.{coefficient}
use Rattle.task.proofs.EdgeSums.{weighed}
use Rattle.task.proofs.tasks.Flow.row_sum.Given as goal

abbrev pub invariant-loop-x : goal.invariant-loop-x
invariant-loop-x l =
    let sum = weighed (λ e. coefficient l.row e.block) in
    (l.sum +ℤ sum (drop l.x l.self.edges.now) (drop l.x l.self.turns.now) ≡ sum l.self.edges.now l.self.turns.now) × Within (2 ^ 63 * l.x) l.sum
