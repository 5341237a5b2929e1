-- What every list of calls on a fresh case keeps to, under one tariff. All of it is said of the history.
use Rattle.std.specs.Prelude.{◌≡◌, ℕ, ◌+◌, Bool, true, false, ◌⊎◌, ◌↔◌, List, [], ◌∷◌, ◌++◌, length, sum}
use Rattle.history.specs.Answers.{Said, done, told as tells}
use Rattle.judge.specs.Reports.{State, stage_number}
use Rattle.history.specs.Calls.{Request, step, told}
use Rattle.judge.specs.Claiming.{Best}
use Rattle.history.specs.History.{History, accepted, Answers, Moment, Begins}
use Rattle.history.specs.Known.{edges_of, rows_of, Stands, StandsAs, Void, steps, turns_left}
use Rattle.judge.specs.declared.stages.Proof.{Proof}
use Rattle.judge.specs.declared.stages.Proof.TheVariants.{Certified}
use Rattle.price.specs.Pairs.{Pair, zero}
use Rattle.price.specs.Senses.{no_better}
use Rattle.price.specs.declared.senses.Sense.{Sense}
use Rattle.task.specs.Graph.{Start, End, Path}
use Rattle.task.specs.Rows.{Row, KeepsAll}
use Rattle.task.specs.Turns.{turns_in, run_price}
use Rattle.task.specs.declared.edges.Edge.{Edge}
use Rattle.walk.specs.Fewest.{Takes}

-- the rule for step names edge x after the edges handed out: they lead from the start to a node other than the end, and there it takes x
pub record Named (es : List Edge) (claimed handed : List ℕ) (x : ℕ) : Type 0 where
  pub start : ℕ
  pub starts : Start es start
  pub end : ℕ
  pub ends : End es end
  pub node : ℕ
  pub leads : Path es start node handed
  pub goes_on : node ≡ end → ⊥
  pub takes : Takes es claimed end (turns_left claimed handed) node x

-- the edges handed out begin, in order, a run with exactly the claimed turns of every edge, which keeps every row and has the price of the claim
pub record HandsOut (sense : Sense) (es : List Edge) (rows : List Row) (claimed : List ℕ) (p : Pair) (handed : List ℕ) : Type 0 where
  pub rest : List ℕ
  pub keeps : KeepsAll es rows (handed ++ rest)
  pub exact : turns_in es (handed ++ rest) ≡ claimed
  pub price : run_price sense es (handed ++ rest) ≡ p
  -- each is the one that the rule for step names after those before it
  pub named : (front : List ℕ) (x : ℕ) (back : List ℕ) → handed ≡ front ++ (x ∷ back) → Named es claimed front x
  -- once they are as many as all claimed turns, they are all of this run
  pub whole : length handed ≡ sum claimed → rest ≡ []

-- what told shows, after what is past
pub record Tells (past : History) (state : State) : Type 0 where
  -- the stage of a sense and of how far a claim is proved exactly where such a claim stands, and there its price: stage 2 exactly in a certified case
  pub stands : (sense : Sense) (proof : Proof) → (state.stage ≡ stage_number sense proof) ↔ StandsAs sense proof past
  pub price : (k : Stands past) → state.price ≡ k.what.price
  -- stage 3 exactly in a void case
  pub void : (state.stage ≡ 3) ↔ Void past
  -- the steps handed out since the claim, and the turns left added up over the edges: together all claimed turns
  pub steps_told : (k : Stands past) → state.steps ≡ length (steps k)
  pub left_told : (k : Stands past) → state.left ≡ sum (turns_left k.what.turns (steps k))
  pub together : (k : Stands past) → state.steps + state.left ≡ sum k.what.turns
  -- all but the stage are 0 elsewhere
  pub idle : (Stands past → ⊥) → (state.price ≡ zero) × (state.steps ≡ 0) × (state.left ≡ 0)

pub record Rules (le : Pair → Pair → Bool) (h : History) : Type 0 where
  -- each call is refused or gives its own kind of answer, and told never refuses
  pub kinds : (past : History) (q : Request) (a : Said) → Moment h past q a → (accepted a ≡ false) ⊎ Answers q a
  pub told_accepts : (past : History) (a : Said) → Moment h past told a → accepted a ≡ true
  pub told_tells : (past : History) (state : State) → Moment h past told (tells state) → Tells past state
  -- at any time, where a claim stands certified, its price is the best in its sense: that of some run that keeps every row, and no such run is better
  pub best : (past : History) → Begins past h → (k : Stands past) → k.what.proof ≡ Certified →
      Best k.what.sense (no_better k.what.sense le) (edges_of past) (rows_of past) k.what.price
  -- where a claim stands, however far it is proved, the steps since begin a run of its price
  pub hands_out : (past : History) → Begins past h → (k : Stands past) → HandsOut k.what.sense (edges_of past) (rows_of past) k.what.turns k.what.price (steps k)
  -- there step never refuses, and answers done exactly when the steps are as many as all claimed turns
  pub step_accepts : (past : History) (a : Said) → Moment h past step a → Stands past → accepted a ≡ true
  pub step_done : (past : History) (a : Said) → Moment h past step a → (k : Stands past) → (a ≡ done) ↔ (length (steps k) ≡ sum k.what.turns)
  -- where it is void, no run keeps every row
  pub no_run : (past : History) → Begins past h → Void past → (run : List ℕ) → KeepsAll (edges_of past) (rows_of past) run → ⊥
