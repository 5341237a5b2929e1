-- The graph of a task: its nodes, and the paths and runs over its edges. Edges are numbered from 0.
use Rattle.std.specs.Prelude.{◌≡◌, ℕ, ◌<◌, ◌≤◌, ◌⊎◌, List, [], ◌∷◌, length, ◌≢◌, slice_index_or}
use Rattle.task.specs.declared.edges.Edge.{Edge}

-- what a number past the last edge reads as; no path takes it
abbrev pub no_edge : Edge
no_edge = record { tail = 0; head = 0; block = 0; price = record { cycles = 0; reads = 0 } }

abbrev pub edge_at : List Edge → ℕ → Edge
edge_at es x = slice_index_or es x no_edge

-- the node that edge x leaves, and the node that it enters
abbrev pub tail_of : List Edge → ℕ → ℕ
tail_of es x = (edge_at es x).tail

abbrev pub head_of : List Edge → ℕ → ℕ
head_of es x = (edge_at es x).head

-- the nodes are 0 up to the highest number that an edge names
pub record Node (es : List Edge) (v : ℕ) : Type 0 where
  pub edge : ℕ
  pub exists : edge < length es
  pub named : (v ≤ tail_of es edge) ⊎ (v ≤ head_of es edge)

-- a node that no edge enters
pub record Start (es : List Edge) (v : ℕ) : Type 0 where
  pub node : Node es v
  pub not_entered : (x : ℕ) → x < length es → head_of es x ≢ v

-- a node that no edge leaves
pub record End (es : List Edge) (v : ℕ) : Type 0 where
  pub node : Node es v
  pub not_left : (x : ℕ) → x < length es → tail_of es x ≢ v

-- these edges in order: the first leaves u, each later one leaves the node that the one before entered, and the last enters w
abbrev pub Path : List Edge → ℕ → ℕ → List ℕ → Type 0
Path es u w [] = u ≡ w
Path es u w (x ∷ xs) = (x < length es) × (tail_of es x ≡ u) × Path es (head_of es x) w xs

-- one or more edges in order, from the start to the end
pub record Run (es : List Edge) (run : List ℕ) : Type 0 where
  pub some : 0 < length run
  pub start : ℕ
  pub starts : Start es start
  pub end : ℕ
  pub ends : End es end
  pub leads : Path es start end run
