use Rattle.std.proofs.Common.{sym, ap, ◌∙◌}
use Rattle.std.proofs.lemmas.List.Elements.{All-head, All-tail}
use Rattle.certificate.specs.Ahead.{records}
use Rattle.certificate.specs.Ready.{Bounded}
use Rattle.certificate.specs.Tasks.{task_of}
use Rattle.certificate.specs.Verdicts.{leaves_answer}
use Rattle.certificate.proofs.FrontRecords.{in_front}
use Rattle.certificate.proofs.LeafAnswers.{left, left_all, first_judged}
use Rattle.certificate.proofs.walking.judge_list.Goals as goal

pub loop-record-init : goal.loop-record-init
loop-record-init g c t s b =
    let le = g.T.Tariff.le c.args.tariff.now in
    let unit = g.T.Tariff.unit c.args.tariff.now in
    let task = task_of c.args.claim.task.now in
    let start = c.new-records.ensures in
    (records t, (start.ahead t s, record { bounded = b; same = sym ((λ i. leaves_answer le unit task c.args.claim.sense c.args.claim.price.now (start.first.1 i) (left task (start.first.0 i) (records t))) ∙ ap (leaves_answer le unit task c.args.claim.sense c.args.claim.price.now 0) (left_all task t)) }))

pub judge_record-requires : goal.judge_record-requires
judge_record-requires g c =
    let j = c.requires.1 in
    let w = in_front (c.loop-record.invariant j.0 j.1 j.2) c.in-Some.ensures in
    All-head Bounded _ w.0 w.2.bounded

pub pass-requires : goal.pass-requires
pass-requires g c =
    let j = c.requires.1 in
    let w = in_front (c.loop-record.invariant j.0 j.1 j.2) c.in-Some.ensures in
    (w.0, w.1, w.3, All-head Bounded _ w.0 w.2.bounded)

pub loop-record-preserved : goal.loop-record-preserved
loop-record-preserved g c t s b =
    let w = in_front (c.loop-record.invariant t s b) c.in-Some.ensures in
    let rest = (first_judged w.2 c.path.ensures c.leaves.ensures).passed c.in_ok-judge_record.ensures in
    (w.0, ((c.pass.ensures.ahead w.0 w.1 w.3).0, record { bounded = All-tail Bounded _ w.0 w.2.bounded; same = rw (c.pass.ensures.path, c.pass.ensures.leaves) rest }))
