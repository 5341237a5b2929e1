-- The rows of a leaf as a table with a column for each edge and one for the limits. To compute with.
use Rattle.std.specs.Prelude.{ℕ, zero as none, suc, List, ◌++◌, map, ℤ, pos, slice_index_or}
use Rattle.price.specs.Pairs.{Pair, zero, ◌⊕◌, times}
use Rattle.task.specs.Rows.{Row, coefficient}
use Rattle.certificate.specs.declared.leaf.Column.{Column}
use Rattle.certificate.specs.declared.leaf.Column.TheVariants.{Edge, Limit}
use Rattle.certificate.specs.declared.branches.Branch as branches
use Rattle.certificate.specs.Lines.{limit_of}
use Rattle.certificate.specs.Splits.{Branch, path_line, branch_of}

abbrev pub row_entry : Column → Row → ℤ
row_entry (Edge number block) row = coefficient row block
row_entry Limit row = limit_of row.relation row.k

abbrev pub branch_entry : Column → Branch → ℤ
branch_entry (Edge number block) t = (path_line t).of_edge number
branch_entry Limit t = (path_line t).limit

-- a column from the top: the rows of the task, then those of the path
abbrev pub entries : Column → List Row → List branches.Branch → List ℤ
entries column rows path = map (row_entry column) rows ++ map (λ t. branch_entry column (branch_of t)) path

-- the first n entries times their multipliers, added up
abbrev pub charged : List ℤ → List Pair → ℕ → Pair
charged xs ms none = zero
charged xs ms (suc n) = charged xs ms n ⊕ times (slice_index_or xs n (pos 0)) (slice_index_or ms n zero)
