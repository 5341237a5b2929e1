-- What a history says of its case: its edges and rows, which claim stands, whether it is void, and the steps handed out.
use Rattle.std.specs.Prelude.{◌≡◌, ℕ, suc, ◌-◌, cond, List, [], ◌∷◌, ◌++◌, Some, None, Option, All, ◌≢◌}
use Rattle.std.specs.Option.{option_to_list}
use Rattle.history.specs.Answers.{Said, price, next, agreed}
use Rattle.history.specs.Calls.{Request, edge, row, claim, void, step, withdraw}
use Rattle.history.specs.History.{Event, History, accepted}
use Rattle.judge.specs.declared.stages.Proof.{Proof}
use Rattle.judge.specs.declared.stages.Proof.TheVariants as proof
use Rattle.price.specs.Pairs.{Pair}
use Rattle.price.specs.declared.senses.Sense.{Sense}
use Rattle.price.specs.declared.senses.Sense.TheVariants.{Longest}
use Rattle.task.specs.Edges.{edge_of}
use Rattle.task.specs.NewRows.{row_of}
use Rattle.task.specs.Rows.{Row}
use Rattle.task.specs.Turns.{turns}
use Rattle.task.specs.declared.edges.Edge.{Edge}

-- ---- edges and rows

-- the edge that a call adds where it is accepted
abbrev pub edge_by : Request → List Edge
edge_by (edge new) = edge_of new ∷ []
edge_by other = []

-- the row that a call adds where it is accepted; a number that is no relation makes no row
abbrev pub row_by : Request → List Row
row_by (row relation k coefficients) = option_to_list (row_of relation k coefficients)
row_by other = []

-- the edges of the case: those of its accepted edge calls, in order
abbrev pub edges_of : History → List Edge
edges_of [] = []
edges_of (e ∷ h) = cond (accepted e.answer) (edge_by e.call) [] ++ edges_of h

-- the rows of the case: those of its accepted row calls, in order
abbrev pub rows_of : History → List Row
rows_of [] = []
rows_of (e ∷ h) = cond (accepted e.answer) (row_by e.call) [] ++ rows_of h

-- ---- what a call with its answer means for the case

-- what was claimed: which way is best, how far it is proved, the turns handed in, and the price answered
pub record Claimed : Type 0 where
  pub sense : Sense
  pub proof : Proof
  pub turns : List ℕ
  pub price : Pair

pub data Bearing : Type 0 where
  -- from here on this claim stands
  opens : Claimed → Bearing
  -- from here on the case is void
  voids : Bearing
  -- an edge is handed out
  hands : ℕ → Bearing
  -- what stood, or was void, is so no more
  closes : Bearing
  quiet : Bearing

abbrev by_answer : Said → Request → Bearing
by_answer (price p) (claim turns tree) = opens (record { sense = Longest; proof = proof.Certified; turns = turns; price = p })
by_answer agreed (void tree) = voids
by_answer (next x) step = hands x
by_answer agreed withdraw = closes
by_answer answer call = quiet

abbrev pub bearing : Event → Bearing
bearing e = by_answer e.answer e.call

-- ---- what stands

-- h has an event that does this, and none since that closes it
pub record Since {A : Type 0} (does : Bearing → Option A) (h : History) : Type 0 where
  pub before : History
  pub event : Event
  pub what : A
  pub opens : does (bearing event) ≡ Some what
  pub since : History
  pub split : h ≡ before ++ (event ∷ since)
  pub standing : All (λ e. bearing e ≢ closes) since

abbrev pub claimed_by : Bearing → Option Claimed
claimed_by (opens c) = Some c
claimed_by other = None

abbrev pub voided_by : Bearing → Option (Unit {0})
voided_by voids = Some tt
voided_by other = None

-- a claim stands: from an accepted claim up to the next accepted withdraw
abbrev pub Stands : History → Type 0
Stands = Since claimed_by

-- one of this sense, so far proved
abbrev pub StandsAs : Sense → Proof → History → Type 0
StandsAs sense proof h = (k : Stands h) × (k.what.sense ≡ sense) × (k.what.proof ≡ proof)

-- the case is void: from an accepted void claim up to the next accepted withdraw
abbrev pub Void : History → Type 0
Void = Since voided_by

-- ---- the steps handed out

abbrev pub edge_handed : Bearing → List ℕ
edge_handed (hands x) = x ∷ []
edge_handed other = []

-- the edges that step answered, in order; done counts for none
abbrev pub handed_out : History → List ℕ
handed_out [] = []
handed_out (e ∷ h) = edge_handed (bearing e) ++ handed_out h

-- the steps handed out since the claim
abbrev pub steps : {h : History} → Stands h → List ℕ
steps k = handed_out k.since

-- the turns of edges numbered from x, less the times that each was handed out
abbrev pub left_from : ℕ → List ℕ → List ℕ → List ℕ
left_from x [] handed = []
left_from x (t ∷ ts) handed = (t - turns x handed) ∷ left_from (suc x) ts handed

-- the turns left of every edge
abbrev pub turns_left : List ℕ → List ℕ → List ℕ
turns_left claimed handed = left_from 0 claimed handed
