-- Tables of distances and of last exits, an entry for each of 32 nodes.
use Rattle.std.specs.Prelude.{◌≡◌, ℕ, ◌+◌, ◌<◌, ◌≤◌, Bool, IsTrue, not, ◌&&◌, List, map, length, sum, ◌==◌, slice_index}
use Rattle.std.specs.List.{range_with_len}
use Rattle.task.specs.declared.edges.Edge.{Edge}
use Rattle.task.specs.Graph.{tail_of, head_of}
use Rattle.task.specs.Lowest.{one_if}
use Rattle.walk.specs.Rule.{has_turns, distance, last_exit}

-- the table holds the distance of every node
pub record DistancesTabled (es : List Edge) (claimed : List ℕ) (end : ℕ) (far : List ℕ) : Type 0 where
  pub all : (v : ℕ) → v < 32 → slice_index far v ≡ distance es claimed end v
  pub most : (v : ℕ) → v < 32 → slice_index far v ≤ length es + 2

-- the table holds the last exit of every node
pub record ExitsTabled (es : List Edge) (claimed : List ℕ) (end : ℕ) (exits : List ℕ) : Type 0 where
  pub all : (v : ℕ) → v < 32 → slice_index exits v ≡ last_exit es claimed end v

-- the last exits of all nodes, in their order
unfoldable pub exit_table : List Edge → List ℕ → ℕ → List ℕ
exit_table es claimed end = map (last_exit es claimed end) (range_with_len 0 32)

-- ---- to compute with

-- edge x leads with claimed turns to a node one nearer by the table
abbrev pub nearer_by : List Edge → List ℕ → List ℕ → ℕ → Bool
nearer_by es claimed far x = has_turns claimed x && slice_index far (head_of es x) + 1 == slice_index far (tail_of es x)

-- edge x brings its tail no nearer
abbrev pub Relaxed : List Edge → List ℕ → List ℕ → ℕ → Type 0
Relaxed es ts far x = 0 < slice_index ts x → slice_index far (tail_of es x) ≤ slice_index far (head_of es x) + 1

-- what p says of a number at the head of edge x it says of one more at its tail
abbrev pub SpreadsBack : List Edge → List ℕ → (ℕ → ℕ → Bool) → ℕ → Type 0
SpreadsBack es ts p x = 0 < slice_index ts x → (k : ℕ) → IsTrue (p k (head_of es x)) → IsTrue (p (k + 1) (tail_of es x))

-- p holds of every entry below `top`
abbrev pub HoldsBelow : (ℕ → ℕ → Bool) → ℕ → List ℕ → Type 0
HoldsBelow p top far = (v : ℕ) → v < length far → slice_index far v < top → IsTrue (p (slice_index far v) v)

-- a pass that has come from the last edge down to edge n, and whether it has changed nothing
pub record DistancePass (es : List Edge) (ts before after : List ℕ) (settled : Bool) (n : ℕ) : Type 0 where
  pub sized : length after ≡ length before
  pub lower : (v : ℕ) → slice_index after v ≤ slice_index before v
  pub holds : (p : ℕ → ℕ → Bool) (top : ℕ) → ((x : ℕ) → x < length es → SpreadsBack es ts p x) → HoldsBelow p top before → HoldsBelow p top after
  pub done : IsTrue settled → (x : ℕ) → n ≤ x → x < length es → Relaxed es ts after x
  pub fewer : sum after + one_if (not settled) ≤ sum before
