-- The sum so far is that of the rows passed, each at most 2^20 + 1 times 2^26.
use Rattle.std.proofs.Common.{◌≡◌, ◌*◌}
use Rattle.price.specs.Pairs.{Pair}
use Rattle.price.specs.Ranges.{Both}
use Rattle.certificate.specs.Columns.{entries, charged}
use Rattle.certificate.specs.Held.{leaf_held}
use Rattle.certificate.proofs.leaf.Leaf.charge_of_task.Given as goal

abbrev pub invariant-loop-i : goal.invariant-loop-i
invariant-loop-i l =
    (◌≡◌ {A = Pair} l.sum (charged (entries l.column l.self.claim.task.now.rows.now l.self.path.now) (leaf_held l.self).multipliers l.i))
    × Both (70368811286528 * l.i) l.sum
