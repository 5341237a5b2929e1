use Rattle.std.proofs.Common.{sym, ap, ◌∙◌}
use Rattle.certificate.proofs.RangeAnswers.{refused, range_first}
use Rattle.certificate.proofs.ranges.ask_numbers.Goals as goal

pub returns-in-Some : goal.returns-in-Some
returns-in-Some c = ap (refused c.args.place) c.in-Some.ensures ∙ sym (range_first c.args.place c.args.list.now)

pub returns-in-None : goal.returns-in-None
returns-in-None c = ap (refused c.args.place) c.in-None.ensures ∙ sym (range_first c.args.place c.args.list.now)
