-- The sum so far is that of all rows of the task and of the rows of the path passed.
use Rattle.std.proofs.Common.{◌≡◌, ◌+◌, ◌*◌, length}
use Rattle.price.specs.Pairs.{Pair}
use Rattle.price.specs.Ranges.{Both}
use Rattle.certificate.specs.Columns.{entries, charged}
use Rattle.certificate.specs.Held.{leaf_held}
use Rattle.certificate.proofs.leaf.Leaf.charge.Given as goal

abbrev pub invariant-loop-i : goal.invariant-loop-i
invariant-loop-i l =
    (◌≡◌ {A = Pair} l.sum (charged (entries l.column l.self.claim.task.now.rows.now l.self.path.now) (leaf_held l.self).multipliers (length l.self.claim.task.now.rows.now + l.i)))
    × Both (70368811286528 * (length l.self.claim.task.now.rows.now + l.i)) l.sum
