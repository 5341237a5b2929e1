use Rattle.std.proofs.Common.{Err, sym, ap, ◌∙◌}
use Rattle.std.proofs.lemmas.Result.{err_from_is_err_and}
use Rattle.certificate.specs.Ahead.{records}
use Rattle.certificate.specs.Verdicts.{range_answer}
use Rattle.certificate.proofs.RecordsBounded.{record_bounded}
use Rattle.certificate.proofs.FrontRecords.{in_front}
use Rattle.certificate.proofs.RangeAnswers.{first_asked}
use Rattle.certificate.proofs.TreeRecords.{tests_tree}
use Rattle.certificate.proofs.ranges.ask_ranges.Goals as goal

pub loop-record-init : goal.loop-record-init
loop-record-init c t s =
    let start = c.new-records.ensures in
    (records t, (start.ahead t s, record { same = λ i. range_answer (sym start.first.2 i) (sym (tests_tree c.args.limits.edges c.args.limits.top t) i) }))

pub returns-in_err-ask_record : goal.returns-in_err-ask_record
returns-in_err-ask_record c t s =
    let w = in_front (c.loop-record.invariant t s) c.in-Some.ensures in
    let p = err_from_is_err_and c.from_residual.result c.from_residual.ensures.1 in
    p.1 ∙ ap Err p.2 ∙ (first_asked w.2 c.place.ensures).refused c.in_err-ask_record.ensures

pub pass-requires : goal.pass-requires
pass-requires c =
    let w = in_front (c.loop-record.invariant c.requires.1.0 c.requires.1.1) c.in-Some.ensures in
    (w.0, w.1, w.3, record_bounded c.args.limits.edges c.args.limits.top c.args.limits.few c.place.result _ (sym c.in_ok-ask_record.ensures))

pub loop-record-preserved : goal.loop-record-preserved
loop-record-preserved c t s =
    let w = in_front (c.loop-record.invariant t s) c.in-Some.ensures in
    let next = c.pass.ensures.ahead w.0 w.1 w.3 in
    let rest = (first_asked w.2 c.place.ensures).passed c.in_ok-ask_record.ensures in
    (w.0, (next.0, record { same = rw (next.1) rest }))
