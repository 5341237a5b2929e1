use Rattle.std.proofs.Common.{◌+◌, length, Err, sym, ap, ◌∙◌}
use Rattle.std.proofs.lemmas.Result.{err_from_is_err_and}
use Rattle.std.proofs.lemmas.Int.{to_z-of_z}
use Rattle.certificate.specs.RangeTests.{near, up_to}
use Rattle.certificate.specs.Verdicts.{before, range_answer}
use Rattle.certificate.proofs.RangeAnswers.{leaf_range}
use Rattle.certificate.proofs.ranges.ask_leaf.Goals as goal

pub returns-in_err-ask_numbers : goal.returns-in_err-ask_numbers
returns-in_err-ask_numbers c =
    let s = c.ranges.scale in
    let t = c.ranges.top in
    let q = err_from_is_err_and c.from_residual.result c.from_residual.ensures.1 in
    q.1 ∙ ap Err q.2
    ∙ sym (leaf_range c.args.place (up_to c.args.top c.args.scale) c.args.potentials.now c.args.multipliers.now
    (sym (simp to_z-of_z at c.is_scale.ensures) ∙ c.if-not-is_scale.false)
    ∙ ap (λ a. before a (range_answer (c.args.place + 2 + length c.args.potentials.now) (near c.args.multipliers.now))) (sym c.in_err-ask_numbers.ensures))

pub returns : goal.returns
returns c =
    let s = c.ranges.scale in
    let t = c.ranges.top in
    c.ask_numbers-2.ensures
    ∙ sym (leaf_range c.args.place (up_to c.args.top c.args.scale) c.args.potentials.now c.args.multipliers.now
    (sym (simp to_z-of_z at c.is_scale.ensures) ∙ c.if-not-is_scale.false)
    ∙ ap (λ a. before a (range_answer (c.args.place + 2 + length c.args.potentials.now) (near c.args.multipliers.now))) (sym c.in_ok-ask_numbers.ensures))
