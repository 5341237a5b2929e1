-- The calls that hand out the run of a claim, take a claim back and tell the state of a case.
use Rattle.std.specs.Prelude.{ℕ, ◌-◌, List, Some, None, Ok, Err, sum, Option, Result, slice_index}
use Rattle.judge.specs.Reports.{State, stage_number, only_stage}
use Rattle.judge.specs.Cases.{Contents}
use Rattle.judge.specs.Stages.{Stage, Standing, Walk, draft, sealed, standing, void}
use Rattle.judge.specs.declared.refusals.Refusal.{Refusal}
use Rattle.judge.specs.declared.refusals.Refusal.TheVariants.{NothingStands, NothingToWithdraw}
use Rattle.task.specs.Graph.{head_of}
use Rattle.task.specs.declared.edges.Edge.{Edge}
use Rattle.walk.specs.Rule.{taken}
use Rattle.walk.specs.Walks.{one_less}

-- ---- step

-- the edge that comes next: by the rule, with the last exit of the node where the walk stands; none at the end
abbrev pub next_of : List Edge → ℕ → Walk → Option ℕ
next_of es end walk = taken es walk.left walk.at end (slice_index walk.exits walk.at)

-- the walk goes over its next edge
abbrev pub walk_on : List Edge → Walk → Option ℕ → Walk
walk_on es walk None = walk
walk_on es walk (Some x) = record walk { left = one_less walk.left x; at = head_of es x }

abbrev pub step_in : Stage → List Edge → Result (Option ℕ) Refusal
step_in (standing start end claim) es = Ok (next_of es end claim.walk)
step_in other es = Err NothingStands

abbrev pub step_answer : Contents → Result (Option ℕ) Refusal
step_answer c = step_in c.stage c.edges

abbrev pub when_stepped : Stage → List Edge → Option ℕ → Stage
when_stepped (standing start end claim) es next = standing start end (record claim { walk = walk_on es claim.walk next })
when_stepped other es next = other

-- the walk of the claim goes on, and a refusal changes nothing
abbrev pub step_kept : Result (Option ℕ) Refusal → Contents → Contents
step_kept (Ok next) c = record c { stage = when_stepped c.stage c.edges next }
step_kept (Err refusal) c = c

-- ---- withdraw

abbrev pub withdraw_in : Stage → Result (Unit {0}) Refusal
withdraw_in (standing start end claim) = Ok tt
withdraw_in (void start end) = Ok tt
withdraw_in other = Err NothingToWithdraw

abbrev pub withdraw_answer : Contents → Result (Unit {0}) Refusal
withdraw_answer c = withdraw_in c.stage

abbrev pub when_withdrawn : Stage → Stage
when_withdrawn (standing start end claim) = sealed start end
when_withdrawn (void start end) = sealed start end
when_withdrawn other = other

-- the case is sealed again; what was claimed and handed out is forgotten
abbrev pub withdraw_kept : Contents → Contents
withdraw_kept c = record c { stage = when_withdrawn c.stage }

-- ---- told

abbrev pub told_of : Standing → State
told_of claim = record {
  stage = stage_number claim.sense claim.proof;
  price = claim.price;
  steps = claim.walk.all - sum claim.walk.left;
  left = sum claim.walk.left;
}

abbrev pub told_in : Stage → State
told_in draft = only_stage 0
told_in (sealed start end) = only_stage 1
told_in (standing start end claim) = told_of claim
told_in (void start end) = only_stage 3

abbrev pub told_answer : Contents → State
told_answer c = told_in c.stage
