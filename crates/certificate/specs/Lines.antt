-- The rows of a leaf, and what they leave to an edge and to a whole run.
use Rattle.std.specs.Prelude.{ℕ, cond, List, [], ◌∷◌, ◌++◌, map, ℤ, pos, negsuc, ◌-ℤ◌, ◌==◌, slice_index_or, unsigned_abs}
use Rattle.price.specs.Pairs.{Pair, zero, ◌⊕◌, ◌⊖◌, times}
use Rattle.task.specs.declared.edges.Edge.{Edge}
use Rattle.task.specs.declared.rows.Relation.{Relation}
use Rattle.task.specs.declared.rows.Relation.TheVariants.{Below, AtMost, Equal}
use Rattle.task.specs.Graph.{edge_at}
use Rattle.task.specs.Rows.{Row, coefficient}
use Rattle.certificate.specs.Tasks.{Task}
use Rattle.certificate.specs.Trees.{Tree, leaf, split}

-- a row as a leaf reads it: a limit, and a coefficient for each edge number
pub record Line : Type 0 where
  pub relation : Relation
  pub limit : ℤ
  pub of_edge : ℕ → ℤ

-- the limit of a row: k, and k - 1 for "below"
abbrev pub limit_of : Relation → ℤ → ℤ
limit_of Below k = k -ℤ pos 1
limit_of AtMost k = k
limit_of Equal k = k

-- a row of the task gives an edge the coefficient of its block
abbrev pub case_line : List Edge → Row → Line
case_line es row = record { relation = row.relation; limit = limit_of row.relation row.k; of_edge = λ x. coefficient row (edge_at es x).block }

abbrev pub case_lines : Task → List Line
case_lines task = map (case_line task.edges) task.rows

-- the path row "turns of edge e at most m"
abbrev pub at_most : ℕ → ℕ → Line
at_most e m = record { relation = AtMost; limit = pos m; of_edge = λ x. cond (x == e) (pos 1) (pos 0) }

-- what a number past the last row reads as
abbrev pub no_line : Line
no_line = at_most 0 0

-- the path row "turns of edge e at least m + 1", written as an "at most"
abbrev pub at_least : ℕ → ℕ → Line
at_least e m = record { relation = AtMost; limit = negsuc m; of_edge = λ x. cond (x == e) (negsuc 0) (pos 0) }

-- D, a potential for each node and a multiplier for each row
pub record Leaf : Type 0 where
  pub scale : ℕ
  pub potentials : List Pair
  pub multipliers : List Pair

-- two numbers make a pair
abbrev pub pairs : List ℤ → List Pair
pairs [] = []
pairs (a ∷ []) = (a, pos 0) ∷ []
pairs (a ∷ b ∷ xs) = (a, b) ∷ pairs xs

-- D is not negative where it is in range
abbrev pub leaf_of : ℤ → List ℤ → List ℤ → Leaf
leaf_of scale potentials multipliers = record { scale = unsigned_abs scale; potentials = pairs potentials; multipliers = pairs multipliers }

-- the leaves of a tree in list order, each with its rows: those given, then those of the path from the root down
abbrev pub leaves : List Line → Tree → List (List Line × Leaf)
leaves lines (leaf scale potentials multipliers) = (lines, leaf_of scale potentials multipliers) ∷ []
leaves lines (split edge most first second) =
    leaves (lines ++ (at_most (unsigned_abs edge) (unsigned_abs most) ∷ [])) first ++ leaves (lines ++ (at_least (unsigned_abs edge) (unsigned_abs most) ∷ [])) second

abbrev pub potential : Leaf → ℕ → Pair
potential l node = slice_index_or l.potentials node zero

abbrev pub multiplier : Leaf → ℕ → Pair
multiplier l row = slice_index_or l.multipliers row zero

-- a number of each row times its multiplier, added up
abbrev pub charge : (Line → ℤ) → List Line → List Pair → Pair
charge f [] ms = zero
charge f (r ∷ rs) [] = zero
charge f (r ∷ rs) (m ∷ ms) = times (f r) m ⊕ charge f rs ms

-- what edge x may cost
abbrev pub allowance : List Line → Leaf → ℕ → Edge → Pair
allowance lines l x e = potential l e.tail ⊖ potential l e.head ⊕ charge (λ r. r.of_edge x) lines l.multipliers

-- what a whole run may cost
abbrev pub bound : ℕ → ℕ → List Line → Leaf → Pair
bound start end lines l = potential l start ⊖ potential l end ⊕ charge (λ r. r.limit) lines l.multipliers
