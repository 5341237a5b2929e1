-- What is added up before this edge, in either part.
use Rattle.std.proofs.Common.{◌≡◌, ℕ, ◌*◌, ◌^◌, ◌≤◌, List, drop, ℤ, pos, ◌+ℤ◌}
use Rattle.task.specs.declared.edges.Edge.{Edge}
use Rattle.task.specs.Sound.{AllInRange}
use Rattle.task.specs.Turns.{edge_price}
use Rattle.task.proofs.EdgeSums.{weighed}
use Rattle.task.proofs.tasks.Flow.price.Given as goal

-- one part of the price: what is added up before edge x, and what is still to come
pub record Adding (weight : Edge → ℤ) (es : List Edge) (ts : List ℕ) (x sum : ℕ) : Type 0 where
  pub all : pos sum +ℤ weighed weight (drop x es) (drop x ts) ≡ weighed weight es ts
  pub fits : sum ≤ 2 ^ 48 * x
  pub small : AllInRange es ts → sum ≤ 2 ^ 36 * x

abbrev pub invariant-loop-x : goal.invariant-loop-x
invariant-loop-x l =
    Adding (λ e. (edge_price l.sense e).0) l.self.edges.now l.self.turns.now l.x l.cycles
    × Adding (λ e. (edge_price l.sense e).1) l.self.edges.now l.self.turns.now l.x l.reads
