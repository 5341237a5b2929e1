use Rattle.std.proofs.Common.{rules}
use Rattle.std.proofs.lemmas.List.Sorted.{answers_always}
use Rattle.std.proofs.lemmas.Result.{MatchResult-from_err}
use Rattle.console.proofs.FirstLine.{is_feed, next_line}
use Rattle.console.proofs.OneLineMore.{one_more, all_replied}
use Rattle.console.proofs.RulesKept.{keeps_on}
use Rattle.console.proofs.sessions.session.Goals as goal

pub loop-line-preserved : goal.loop-line-preserved
loop-line-preserved c =
    let step = c.in-Some.ensures.steps in let pushed = c.in_ok-push_reply.ensures in let cut = c.without_feed.ensures in
    let says = step.1.2 is_feed (answers_always _ _ _ (λ f a r g h. search rules)) in
    let next = next_line _ _ _ _ _ step.0 step.1.1 says.1.0 says.1.1 step.2 cut.fed cut.unfed in
    record { can = search rules; reached = rw pushed.items (one_more c.loop-line.invariant.reached next pushed.judged) }

pub returns-in_err-push_reply-clause-replies : goal.returns-in_err-push_reply-clause-replies
returns-in_err-push_reply-clause-replies c =
    let step = c.in-Some.ensures.steps in let pushed = c.push_reply.ensures in let cut = c.without_feed.ensures in
    let says = step.1.2 is_feed (answers_always _ _ _ (λ f a r g h. search rules)) in
    let next = next_line _ _ _ _ _ step.0 step.1.1 says.1.0 says.1.1 step.2 cut.fed cut.unfed in
    let reached = one_more c.loop-line.invariant.reached next pushed.judged in
    MatchResult-from_err c.from_residual.result _ _ c.from_residual.ensures.0 (λ _. (_, (_, reached)))

pub returns-clause-rules : goal.returns-clause-rules
returns-clause-rules c = keeps_on _ _ _ _ (all_replied _ c.loop-line.invariant.reached c.in-None.ensures.steps.0)
