use Rattle.std.proofs.Common.{ℕ, rules}
use Rattle.task.proofs.Smalls.{all_small_at}
use Rattle.task.proofs.rows.Row.coefficient.Goals as goal

pub returns-clause-small : goal.returns-clause-small
returns-clause-small c = search (rules, λ (b : ℕ). all_small_at c.self.inside.coefficients b c.self.invariant.all_fit)
