-- The answer of the tree is that of what is ahead.
use Rattle.std.proofs.Common.{List, length}
use Rattle.std.specs.List.{All}
use Rattle.certificate.specs.Ahead.{Ahead, records}
use Rattle.certificate.specs.Ready.{Bounded}
use Rattle.certificate.specs.Tasks.{task_of}
use Rattle.certificate.specs.Trees.{Spells, Tree, TreeRecord}
use Rattle.certificate.specs.Verdicts.{tree_answer}
use Rattle.certificate.proofs.LeafAnswers.{Judging}
use Rattle.certificate.proofs.walking.judge_list.Given as goal

abbrev pub invariant-loop-record : goal.invariant-loop-record
invariant-loop-record g l =
    let le = g.T.Tariff.le l.tariff in
    let unit = g.T.Tariff.unit l.tariff in
    let task = task_of l.claim.task.now in
    (t : Tree) → Spells l.fn.shape.nodes l.fn.shape.rows l.list t → All Bounded (records t) →
    (rs : List TreeRecord) × (Ahead l.records rs × Judging le unit task l.claim.sense l.claim.price.now (tree_answer le unit task l.claim.sense l.claim.price.now t) l.records rs)

abbrev pub decreases-loop-record : goal.decreases-loop-record
decreases-loop-record g l = length l.records.rest.now
