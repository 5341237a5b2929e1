-- The distance, the last exit and the rule of step. To compute with.
use Rattle.std.specs.Prelude.{ℕ, ◌+◌, Bool, cond, ◌&&◌, List, length, Some, None, Option, ◌==◌, nat_lt, slice_index}
use Rattle.task.specs.declared.edges.Edge.{Edge}
use Rattle.task.specs.Graph.{tail_of, head_of}
use Rattle.task.specs.Lowest.{lowest, one_if}
use Rattle.task.specs.Ways.{within}
use Rattle.walk.specs.Walks.{Chooser}

-- ---- the edge that is taken, given the last exit

-- edge x leaves v and has turns left, one turn of the edge `last` set aside
abbrev pub spares : List Edge → List ℕ → ℕ → ℕ → ℕ → Bool
spares es left v last x = tail_of es x == v && nat_lt (one_if (x == last)) (slice_index left x)

-- the lowest-numbered such edge, or the number of edges
abbrev pub first_beside : List Edge → List ℕ → ℕ → ℕ → ℕ
first_beside es left v last = lowest (spares es left v last) (length es)

-- the lowest-numbered such edge, or else `last`
abbrev pub beside : List Edge → List ℕ → ℕ → ℕ → ℕ
beside es left v last = cond (nat_lt (first_beside es left v last) (length es)) (first_beside es left v last) last

-- none at the end
abbrev pub taken : List Edge → List ℕ → ℕ → ℕ → ℕ → Option ℕ
taken es left v end last = cond (v == end) None (Some (beside es left v last))

-- ---- the last exit

abbrev pub has_turns : List ℕ → ℕ → Bool
has_turns ts x = nat_lt 0 (slice_index ts x)

-- edge x leaves v and has claimed turns
abbrev pub hops : List Edge → List ℕ → ℕ → ℕ → Bool
hops es claimed v x = tail_of es x == v && has_turns claimed x

-- the end is at most k edges with claimed turns from v
abbrev pub near : List Edge → List ℕ → ℕ → ℕ → ℕ → Bool
near es claimed end k v = within (length es) (tail_of es) (head_of es) (has_turns claimed) end k v

-- the fewest edges with claimed turns from v to the end, or two more than there are edges
unfoldable pub distance : List Edge → List ℕ → ℕ → ℕ → ℕ
distance es claimed end v = lowest (λ k. near es claimed end k v) (length es + 2)

-- edge x leaves v with claimed turns for a node one nearer
abbrev pub leads_nearer : List Edge → List ℕ → ℕ → ℕ → ℕ → Bool
leads_nearer es claimed end v x = hops es claimed v x && distance es claimed end (head_of es x) + 1 == distance es claimed end v

-- the lowest-numbered such edge, or the number of edges
abbrev pub last_exit : List Edge → List ℕ → ℕ → ℕ → ℕ
last_exit es claimed end v = lowest (leads_nearer es claimed end v) (length es)

-- ---- the rule

abbrev pub next : List Edge → List ℕ → ℕ → Chooser
next es claimed end left v = taken es left v end (last_exit es claimed end v)
