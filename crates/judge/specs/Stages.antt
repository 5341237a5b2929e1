-- The stages of a case, and what a case holds in each.
use Rattle.std.specs.Prelude.{ℕ, Bool, true, false, ◌&&◌, List, Ok, Err, Result, ◌==◌}
use Rattle.judge.specs.declared.stages.Proof.{Proof}
use Rattle.judge.specs.declared.stages.Stage as declared
use Rattle.judge.specs.declared.stages.Stage.TheVariants as code
use Rattle.price.specs.Pairs.{Pair}
use Rattle.price.specs.declared.senses.Sense.{Sense}
use Rattle.task.specs.EndsAnswer.{ends_answer}
use Rattle.task.specs.declared.edges.Edge.{Edge}
use Rattle.task.specs.declared.faults.GraphFault.{GraphFault}

-- the walk that hands out the run of a claim
pub record Walk : Type 0 where
  -- all claimed turns
  pub all : ℕ
  -- the last exit of every node
  pub exits : List ℕ
  -- the turns left of every edge
  pub left : List ℕ
  -- the node where it stands
  pub at : ℕ

-- a claim that stands: what it is about, how far it is proved, its price and its walk
pub record Standing : Type 0 where
  pub sense : Sense
  pub proof : Proof
  pub price : Pair
  pub walk : Walk

-- past the draft a case holds its two ends
pub data Stage : Type 0 where
  draft : Stage
  sealed : (start end : ℕ) → Stage
  standing : (start end : ℕ) → Standing → Stage
  void : (start end : ℕ) → Stage

-- what a stage record means, with the tables of the case
abbrev pub stage_of : declared.Stage → List ℕ → List ℕ → Stage
stage_of code.Draft exits left = draft
stage_of (code.Sealed start end) exits left = sealed start end
stage_of (code.Standing start end claim) exits left =
    standing start end (record { sense = claim.sense; proof = claim.proof; price = claim.price; walk = record { all = claim.all; exits = exits; left = left; at = claim.at } })
stage_of (code.Void start end) exits left = void start end

abbrev pub is_draft : Stage → Bool
is_draft draft = true
is_draft other = false

-- the answer is this start and this end
abbrev pub answers_ends : Result (ℕ × ℕ) GraphFault → ℕ → ℕ → Bool
answers_ends (Ok ends) start end = ends.0 == start && ends.1 == end
answers_ends (Err fault) start end = false

-- past the draft, the start and the end are those of the graph
abbrev pub ends_held : Stage → List Edge → Bool
ends_held draft edges = true
ends_held (sealed start end) edges = answers_ends (ends_answer edges) start end
ends_held (standing start end claim) edges = answers_ends (ends_answer edges) start end
ends_held (void start end) edges = answers_ends (ends_answer edges) start end

-- the stage after an accepted call on a sealed case
abbrev pub from_sealed : Stage → (ℕ → ℕ → Stage) → Stage
from_sealed (sealed start end) next = next start end
from_sealed other next = other
