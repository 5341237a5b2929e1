use Rattle.std.proofs.Common.{◌≡◌, true, subst}
use Rattle.judge.specs.Stages.{ends_held}
use Rattle.judge.proofs.case.Case.keeps_limits.Goals as goal

pub returns-clause-ends_hold : goal.returns-clause-ends_hold
returns-clause-ends_hold c = subst (λ k. ends_held k.stage k.edges ≡ true) c.self.view_is c.self.invariant.ends_hold
