-- The answer of the whole list is that of what is ahead.
use Rattle.std.proofs.Common.{List, length}
use Rattle.certificate.specs.Ahead.{Ahead}
use Rattle.certificate.specs.RangeTests.{tests}
use Rattle.certificate.specs.Trees.{Spells, Tree, TreeRecord}
use Rattle.certificate.specs.Verdicts.{range_answer}
use Rattle.certificate.proofs.RangeAnswers.{Asking}
use Rattle.certificate.proofs.ranges.ask_ranges.Given as goal

abbrev pub invariant-loop-record : goal.invariant-loop-record
invariant-loop-record l =
    (t : Tree) → Spells l.fn.shape.nodes l.fn.shape.rows l.list t →
    (rs : List TreeRecord) × (Ahead l.records rs × Asking l.limits.edges l.limits.top (range_answer 0 (tests l.limits.edges l.limits.top t)) l.records rs)

abbrev pub decreases-loop-record : goal.decreases-loop-record
decreases-loop-record l = length l.records.rest.now
