-- What an accepted tree proves about the runs of a task.
use Rattle.std.specs.Prelude.{◌≡◌, ℕ, Bool, List, Ok, IsTrue}
use Rattle.price.specs.Pairs.{Pair}
use Rattle.price.specs.declared.senses.Sense.{Sense}
use Rattle.task.specs.Rows.{KeepsAll}
use Rattle.task.specs.Sealing.{OneStart, OneEnd}
use Rattle.task.specs.Turns.{run_price}
use Rattle.certificate.specs.Tasks.{Task, Answer}

-- the start and the end are the only ones
pub record Between (task : Task) : Type 0 where
  pub start : OneStart task.edges task.start
  pub end : OneEnd task.edges task.end

-- no run that keeps every row is dearer than c
abbrev pub NoneDearer : (Pair → Pair → Bool) → Task → Sense → Pair → Type 0
NoneDearer le task sense c = (run : List ℕ) → KeepsAll task.edges task.rows run → IsTrue (le (run_price sense task.edges run) c)

-- no run keeps every row
abbrev pub NoRun : Task → Type 0
NoRun task = (run : List ℕ) → KeepsAll task.edges task.rows run → ⊥

abbrev pub PriceProved : (Pair → Pair → Bool) → Task → Sense → Pair → Answer → Type 0
PriceProved le task sense c answer = answer ≡ Ok tt → Between task → NoneDearer le task sense c

abbrev pub VoidProved : Task → Answer → Type 0
VoidProved task answer = answer ≡ Ok tt → Between task → NoRun task
