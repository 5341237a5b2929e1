-- One pass over the edges that spreads marks from node to node. To compute with.
use Rattle.std.specs.Prelude.{◌≡◌, ℕ, ◌+◌, ◌<◌, ◌≤◌, Bool, IsTrue, false, not, List, length, count_by, slice_index_or, Option, MatchOption}
use Rattle.task.specs.declared.edges.Edge.{Edge}
use Rattle.task.specs.declared.edges.Side.{Side}
use Rattle.task.specs.Lowest.{one_if}
use Rattle.task.specs.Sides.{other_side, end_of, is_live}

-- what holds of the node that edge x leads to holds of the node that it comes from
abbrev pub Spread : List Edge → List ℕ → Side → (ℕ → Bool) → ℕ → Type 0
Spread es ts side p x = IsTrue (is_live ts x) → IsTrue (p (end_of es (other_side side) x)) → IsTrue (p (end_of es side x))

abbrev pub is_marked : List Bool → ℕ → Bool
is_marked marks v = slice_index_or marks v false

abbrev pub unmarked : List Bool → ℕ
unmarked marks = count_by not marks

-- edge x is to mark node u
pub record IsToMark (es : List Edge) (ts : List ℕ) (side : Side) (marks : List Bool) (x u : ℕ) : Type 0 where
  pub from : u ≡ end_of es side x
  pub small : u < length marks
  pub live : IsTrue (is_live ts x)
  pub to : IsTrue (is_marked marks (end_of es (other_side side) x))
  pub blank : is_marked marks u ≡ false

-- edge x is to mark this node; it has spread where there is none
abbrev pub ToMark : List Edge → List ℕ → Side → List Bool → ℕ → Option ℕ → Type 0
ToMark es ts side marks x node = MatchOption node (Spread es ts side (is_marked marks) x) (IsToMark es ts side marks x)

-- a pass that has come from the last edge down to edge n, and whether it has changed nothing
pub record Pass (es : List Edge) (ts : List ℕ) (side : Side) (before after : List Bool) (settled : Bool) (n : ℕ) : Type 0 where
  pub sized : length after ≡ length before
  pub keeps : (v : ℕ) → IsTrue (is_marked before v) → IsTrue (is_marked after v)
  -- what holds of every mark before, and spreads over live edges, holds of every mark after
  pub right : (p : ℕ → Bool) → ((x : ℕ) → x < length es → Spread es ts side p x) →
      ((v : ℕ) → IsTrue (is_marked before v) → IsTrue (p v)) → (v : ℕ) → IsTrue (is_marked after v) → IsTrue (p v)
  pub done : IsTrue settled → (x : ℕ) → n ≤ x → x < length es → Spread es ts side (is_marked after) x
  pub fewer : unmarked after + one_if (not settled) ≤ unmarked before
