-- The calls that judge: the questions of each in order, what it leaves, and what an accepted one says.
use Rattle.std.specs.Prelude.{◌≡◌, ℕ, Bool, List, ℤ, Ok, Err, sum, Result, IsTrue}
use Rattle.certificate.specs.Soundness.{NoRun}
use Rattle.certificate.specs.Tasks.{Task}
use Rattle.certificate.specs.Verdicts as verdicts
use Rattle.judge.specs.Cases.{Contents}
use Rattle.judge.specs.Drafting.{then_ask}
use Rattle.judge.specs.Stages.{Stage, Walk, sealed, standing, void, from_sealed}
use Rattle.judge.specs.declared.refusals.Refusal.{Refusal}
use Rattle.judge.specs.declared.refusals.Refusal.TheVariants.{NotSealed, Tree, Turns}
use Rattle.judge.specs.declared.stages.Proof.TheVariants.{Certified}
use Rattle.price.specs.Pairs.{Pair}
use Rattle.price.specs.declared.senses.Sense.{Sense}
use Rattle.task.specs.Rows.{Row, KeepsAll}
use Rattle.task.specs.Sealing.{Ends}
use Rattle.task.specs.Sound.{Sound}
use Rattle.task.specs.Turns.{price_of, run_price, turns_in}
use Rattle.task.specs.TurnsAnswer.{turns_answer}
use Rattle.task.specs.declared.edges.Edge.{Edge}
use Rattle.walk.specs.Tables.{exit_table}

-- what a case past its draft has to judge
abbrev pub task_between : List Edge → List Row → ℕ → ℕ → Task
task_between es rows start end = record { edges = es; rows = rows; start = start; end = end }

-- the best price, where `no_better a b` says that a is no better than b:
-- that of some run that keeps every row, and no run that keeps every row is better
pub record Best (sense : Sense) (no_better : Pair → Pair → Bool) (es : List Edge) (rows : List Row) (p : Pair) : Type 0 where
  pub run : List ℕ
  pub keeps : KeepsAll es rows run
  pub price : run_price sense es run ≡ p
  pub none_better : (other : List ℕ) → KeepsAll es rows other → IsTrue (no_better (run_price sense es other) p)

-- an accepted claim: sound turns between the two ends, and their price, which is the best; a run of that price has just these turns
pub record Accepted (sense : Sense) (no_better : Pair → Pair → Bool) (es : List Edge) (rows : List Row) (ts : List ℕ) (c : Pair) : Type 0 where
  pub start : ℕ
  pub end : ℕ
  pub ends : Ends es start end
  pub sound : Sound es rows start end ts
  pub price : c ≡ price_of sense es ts
  pub best : Best sense no_better es rows c
  pub claimed : turns_in es best.run ≡ ts

-- an accepted void claim: two ends, and no run between them keeps every row
pub record Voided (es : List Edge) (rows : List Row) : Type 0 where
  pub start : ℕ
  pub end : ℕ
  pub ends : Ends es start end
  pub no_run : NoRun (task_between es rows start end)

-- ---- to compute with

-- asked of a sealed case only
abbrev pub if_sealed : {A : Type 0} → Stage → (ℕ → ℕ → Result A Refusal) → Result A Refusal
if_sealed (sealed start end) judged = judged start end
if_sealed other judged = Err NotSealed

module _ (sense : Sense) (no_better : Pair → Pair → Bool) (unit : Pair) where
  -- the turns, then the tree; the answer is the price of the turns
  abbrev pub claim_on : Task → List ℕ → List ℤ → Result Pair Refusal
  claim_on task ts xs =
      then_ask Turns (turns_answer task.edges task.rows task.start task.end ts) (λ _.
      then_ask Tree (verdicts.price_answer no_better unit task sense (price_of sense task.edges ts) xs) (λ _.
      Ok (price_of sense task.edges ts)))

  abbrev pub claim_answer : Contents → List ℕ → List ℤ → Result Pair Refusal
  claim_answer c ts xs = if_sealed c.stage (λ start end. claim_on (task_between c.edges c.rows start end) ts xs)

module _ (le : Pair → Pair → Bool) (unit : Pair) where
  abbrev pub void_on : Task → List ℤ → Result (Unit {0}) Refusal
  void_on task xs = then_ask Tree (verdicts.void_answer le unit task xs) (λ _. Ok tt)

  abbrev pub void_answer : Contents → List ℤ → Result (Unit {0}) Refusal
  void_answer c xs = if_sealed c.stage (λ start end. void_on (task_between c.edges c.rows start end) xs)

-- the walk of a claim before its first step
abbrev pub walk_from : List Edge → ℕ → ℕ → List ℕ → Walk
walk_from es start end ts = record { all = sum ts; exits = exit_table es ts end; left = ts; at = start }

-- an accepted claim stands from then on, and a refusal changes nothing
abbrev pub claim_kept : Sense → Result Pair Refusal → Contents → List ℕ → Contents
claim_kept sense (Ok price) c ts =
    record c { stage = from_sealed c.stage (λ start end. standing start end (record { sense = sense; proof = Certified; price = price; walk = walk_from c.edges start end ts })) }
claim_kept sense (Err refusal) c ts = c

abbrev pub void_kept : Result (Unit {0}) Refusal → Contents → Contents
void_kept (Ok _) c = record c { stage = from_sealed c.stage void }
void_kept (Err refusal) c = c
