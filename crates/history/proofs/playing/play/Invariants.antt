-- The calls so far have their answers, and led to what the case holds.
use Rattle.std.proofs.Common.{◌≡◌, ◌≤◌, length, take, vec_items, vec_capacity}
use Rattle.history.specs.History.{history}
use Rattle.history.specs.Reaching.{Reached}
use Rattle.history.proofs.playing.play.Given as goal

abbrev pub invariant-loop-call : goal.invariant-loop-call
invariant-loop-call g l =
    (length (vec_items l.answers) ≡ l.call-index)
    × (length l.calls ≤ vec_capacity l.answers)
    × Reached (g.T.Tariff.le l.tariff) (g.T.Tariff.unit l.tariff) (history (take l.call-index l.calls) (vec_items l.answers)) l.case
