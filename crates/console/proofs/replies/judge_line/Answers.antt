use Rattle.std.proofs.Common.{◌≡◌, refl, ap, ◌∙◌}
use Rattle.price.specs.Tariffs.{by_cycles, one_read}
use Rattle.history.specs.Calls.{request}
use Rattle.history.specs.Performing.{answered, after}
use Rattle.console.proofs.replies.judge_line.Goals as goal

pub returns-in-Some : goal.returns-in-Some
returns-in-Some c =
    let held = c.args.case.now in
    let own = request c.in-Some.call in
    let read = c.in-Some.ensures in
    record {
      spelled = λ q h.
          let is = read.all q h in let same : own ≡ q = cc in
          (c.perform.ensures.answer ∙ ap (answered by_cycles one_read held) same, c.perform.ensures.kept ∙ ap (after by_cycles one_read held) same);
      unspelled = λ none. absurd (none own (read.only own refl));
    }
