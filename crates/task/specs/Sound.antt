-- Turns that are sound: as many as edges, in range, balanced at every node, joined to the end, and keeping every row.
use Rattle.std.specs.Prelude.{◌≡◌, ℕ, ◌+◌, ◌<◌, ◌≤◌, List, [], length, pos, Ok, Err, Result, ◌==◌, ◌≢◌, nat_eq, slice_index, slice_index_or, All}
use Rattle.task.specs.declared.faults.TurnsFault.{TurnsFault}
use Rattle.task.specs.declared.faults.TurnsFault.TheVariants.{Count, Range, Unbalanced, Stranded, RowBroken}
use Rattle.task.specs.declared.edges.Edge.{Edge}
use Rattle.task.specs.declared.rows.Relation.TheVariants.{Equal}
use Rattle.task.specs.Graph.{tail_of, head_of, Node, Path}
use Rattle.task.specs.Lowest.{one_if}
use Rattle.task.specs.Rows.{Row, Keeps}
use Rattle.task.specs.Turns.{turns_by}

-- ---- what is asked

-- edge x has no more turns than allowed
abbrev pub InRange : List ℕ → ℕ → Type 0
InRange ts x = slice_index ts x ≤ 1048575

abbrev pub AllInRange : List Edge → List ℕ → Type 0
AllInRange es ts = (x : ℕ) → x < length es → InRange ts x

-- the turns of the edges that enter v, and of those that leave it
abbrev pub entering : List Edge → List ℕ → ℕ → ℕ
entering es ts v = turns_by (λ e. nat_eq e.head v) es ts

abbrev pub leaving : List Edge → List ℕ → ℕ → ℕ
leaving es ts v = turns_by (λ e. nat_eq e.tail v) es ts

-- turns entering v, one more at the start, equal turns leaving it, one more at the end
abbrev pub Balanced : List Edge → ℕ → ℕ → List ℕ → ℕ → Type 0
Balanced es start end ts v = entering es ts v + one_if (v == start) ≡ leaving es ts v + one_if (v == end)

-- the end is reached from v over edges with turns
abbrev pub Reaches : List Edge → List ℕ → ℕ → ℕ → Type 0
Reaches es ts end v = (xs : List ℕ) × Path es v end xs × All (λ x. 0 < slice_index ts x) xs

-- from the head of edge x, if it has turns, the end is reached over edges with turns
abbrev pub Onward : List Edge → ℕ → List ℕ → ℕ → Type 0
Onward es end ts x = 0 < slice_index ts x → Reaches es ts end (head_of es x)

-- what a number past the last row reads as; no question is asked of it
abbrev pub no_row : Row
no_row = record { relation = Equal; k = pos 0; coefficients = [] }

abbrev pub row_at : List Row → ℕ → Row
row_at rows i = slice_index_or rows i no_row

pub record Sound (es : List Edge) (rows : List Row) (start end : ℕ) (ts : List ℕ) : Type 0 where
  pub sized : length ts ≡ length es
  pub few : AllInRange es ts
  pub balanced : (v : ℕ) → Node es v → Balanced es start end ts v
  pub onward : (x : ℕ) → x < length es → Onward es end ts x
  pub keeps : All (Keeps es ts) rows

-- turns that a walk between the two ends of a graph can use up
pub record Walkable (es : List Edge) (start end : ℕ) (claimed : List ℕ) : Type 0 where
  pub apart : start ≡ end → ⊥
  pub no_way_on : (x : ℕ) → x < length es → tail_of es x ≢ end
  pub sized : length claimed ≡ length es
  pub balanced : (v : ℕ) → Balanced es start end claimed v
  pub reaches : (x : ℕ) → x < length es → 0 < slice_index claimed x → Reaches es claimed end (head_of es x)

-- ---- what is answered

-- x is the lowest of these places for which it does not hold
pub record LowestFailing (Place Holds : ℕ → Type 0) (x : ℕ) : Type 0 where
  pub place : Place x
  pub fails : Holds x → ⊥
  pub lowest : (y : ℕ) → y < x → Holds y

-- the questions up to the range of the turns
pub record Counted (es : List Edge) (ts : List ℕ) : Type 0 where
  pub sized : length ts ≡ length es
  pub few : AllInRange es ts

-- the questions up to the balance of the nodes
pub record Flowing (es : List Edge) (start end : ℕ) (ts : List ℕ) : Type 0 where
  pub counted : Counted es ts
  pub balanced : (v : ℕ) → Node es v → Balanced es start end ts v

-- the questions up to the way to the end
pub record Joined (es : List Edge) (start end : ℕ) (ts : List ℕ) : Type 0 where
  pub flowing : Flowing es start end ts
  pub onward : (x : ℕ) → x < length es → Onward es end ts x

-- what each answer says; the questions are asked in this order, and there is no other answer
pub data Checked (es : List Edge) (rows : List Row) (start end : ℕ) (ts : List ℕ) (answer : Result (Unit {0}) TurnsFault) : Type 0 where
  turns_count : answer ≡ Err Count → (length ts ≢ length es) → Checked es rows start end ts answer
  turns_range : (x : ℕ) → answer ≡ Err (Range x) → length ts ≡ length es → LowestFailing (λ y. y < length es) (InRange ts) x → Checked es rows start end ts answer
  node_unbalanced : (v : ℕ) → answer ≡ Err (Unbalanced v) → Counted es ts → LowestFailing (Node es) (Balanced es start end ts) v → Checked es rows start end ts answer
  edge_stranded : (x : ℕ) → answer ≡ Err (Stranded x) → Flowing es start end ts → LowestFailing (λ y. y < length es) (Onward es end ts) x → Checked es rows start end ts answer
  row_broken : (i : ℕ) → answer ≡ Err (RowBroken i) → Joined es start end ts → LowestFailing (λ j. j < length rows) (λ j. Keeps es ts (row_at rows j)) i → Checked es rows start end ts answer
  turns_sound : answer ≡ Ok tt → Sound es rows start end ts → Checked es rows start end ts answer
