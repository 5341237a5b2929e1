-- What is judged: the edges and the rows of a task, its start and its end; and what is answered.
use Rattle.std.specs.Prelude.{ℕ, List, Result}
use Rattle.certificate.specs.declared.faults.TreeFault.{TreeFault}
use Rattle.task.specs.declared.edges.Edge.{Edge}
use Rattle.task.specs.Rows.{Row}
use Rattle.task.specs.declared.tasks.Task as declared

-- yes, or the question that failed
abbrev pub Answer : Type 0
Answer = Result (Unit {0}) TreeFault

pub record Task : Type 0 where
  pub edges : List Edge
  pub rows : List Row
  pub start : ℕ
  pub end : ℕ

-- what the struct of the code means
abbrev pub task_of : declared.Task → Task
task_of t = record { edges = t.edges.now; rows = t.rows.now; start = t.start; end = t.end }
