-- Edges taken from tail to head, or from head to tail. To compute with.
use Rattle.std.specs.Prelude.{ℕ, suc, ◌+◌, max, Bool, false, not, ◌||◌, List, [], ◌∷◌, length, ◌==◌, nat_lt, slice_index_or}
use Rattle.task.specs.declared.edges.Edge.{Edge}
use Rattle.task.specs.declared.edges.Side.{Side}
use Rattle.task.specs.declared.edges.Side.TheVariants.{Tail, Head}
use Rattle.task.specs.Graph.{edge_at}
use Rattle.task.specs.Ways.{within}

abbrev pub other_side : Side → Side
other_side Tail = Head
other_side Head = Tail

-- the node on that side of an edge
abbrev pub end_at : Side → Edge → ℕ
end_at Tail e = e.tail
end_at Head e = e.head

abbrev pub end_of : List Edge → Side → ℕ → ℕ
end_of es side x = end_at side (edge_at es x)

-- how many nodes there are
abbrev pub node_count : List Edge → ℕ
node_count [] = 0
node_count (e ∷ es) = max (max (e.tail + 1) (e.head + 1)) (node_count es)

-- some edge has the node on that side
abbrev pub touched : Side → ℕ → List Edge → Bool
touched side v [] = false
touched side v (e ∷ es) = end_at side e == v || touched side v es

abbrev pub untouched : Side → List Edge → ℕ → Bool
untouched side es v = not (touched side v es)

-- edge x has turns; every edge has, past the end of the list
abbrev pub is_live : List ℕ → ℕ → Bool
is_live ts x = nat_lt 0 (slice_index_or ts x 1)

-- from v, taking live edges from this side to the other, the goal is reached
unfoldable pub reaches : List Edge → List ℕ → Side → ℕ → ℕ → Bool
reaches es ts side goal v = within (length es) (end_of es side) (end_of es (other_side side)) (is_live ts) goal (suc (length es)) v
