-- The allowance of an edge and the bound of a leaf, by their two parts.
use Rattle.std.proofs.Common.{◌≡◌, ℕ, ◌+◌, List, [], ◌∷◌, ◌++◌, map, length, ℤ, refl, ap, arith}
use Rattle.price.specs.Pairs.{Pair, ◌⊕◌, ◌⊖◌}
use Rattle.task.specs.declared.edges.Edge as task
use Rattle.task.specs.Rows.{Row, coefficient}
use Rattle.task.specs.Graph.{edge_at}
use Rattle.certificate.specs.declared.leaf.Column.{Column}
use Rattle.certificate.specs.declared.leaf.Column.TheVariants.{Edge, Limit}
use Rattle.certificate.specs.declared.leaf.Leaf.{Leaf}
use Rattle.certificate.specs.declared.branches.Branch.{Branch}
use Rattle.certificate.specs.Columns.{row_entry, branch_entry, entries, charged}
use Rattle.certificate.specs.Held.{leaf_held}
use Rattle.certificate.specs.Lines.{Line, case_line, charge, potential}
use Rattle.certificate.specs.Splits as splits
use Rattle.certificate.specs.Splits.{path_line, branch_of}
use Rattle.certificate.proofs.Charges.{charge_is}

module _ (es : List task.Edge) where
  abbrev table : List Row → List Branch → List Line
  table rows path = map (case_line es) rows ++ map path_line (map branch_of path)

  pub lines_count : (rows : List Row) (path : List Branch) → length (table rows path) ≡ length rows + length path
  lines_count [] [] = refl
  lines_count [] (t ∷ ts) = let rest = lines_count [] ts in omega arith
  lines_count (r ∷ rs) ts = let rest = lines_count rs ts in omega arith

  column_is : (f : Line → ℤ) (column : Column) → ((r : Row) → f (case_line es r) ≡ row_entry column r) → ((t : splits.Branch) → f (path_line t) ≡ branch_entry column t) →
      (rows : List Row) (path : List Branch) → map f (table rows path) ≡ entries column rows path
  column_is f column p q [] [] = refl
  column_is f column p q [] (t ∷ ts) = λ i. q (branch_of t) i ∷ column_is f column p q [] ts i
  column_is f column p q (r ∷ rs) ts = λ i. p r i ∷ column_is f column p q rs ts i

  module _ (l : Leaf) (rows : List Row) (path : List Branch) (from to : ℕ) where
    -- a difference of potentials and a charge
    abbrev level : (Line → ℤ) → Pair
    level f = potential (leaf_held l) from ⊖ potential (leaf_held l) to ⊕ charge f (table rows path) (leaf_held l).multipliers

    -- the same by the sum of the code
    abbrev by_column : Column → Pair
    by_column column = potential (leaf_held l) from ⊖ potential (leaf_held l) to ⊕ charged (entries column rows path) (leaf_held l).multipliers (length rows + length path)

    levels : (f : Line → ℤ) (column : Column) → map f (table rows path) ≡ entries column rows path → level f ≡ by_column column
    levels f column e =
        ap (λ s. potential (leaf_held l) from ⊖ potential (leaf_held l) to ⊕ s)
        (charge_is f (table rows path) (entries column rows path) (leaf_held l).multipliers (length rows + length path) e (lines_count rows path))

    pub limit_levels : level (λ r. r.limit) ≡ by_column Limit
    limit_levels = levels (λ r. r.limit) Limit (column_is (λ r. r.limit) Limit (λ r. refl) (λ t. refl) rows path)

    pub edge_levels : (x b : ℕ) → (edge_at es x).block ≡ b → level (λ r. r.of_edge x) ≡ by_column (Edge x b)
    edge_levels x b h = levels (λ r. r.of_edge x) (Edge x b) (column_is (λ r. r.of_edge x) (Edge x b) (λ r. ap (coefficient r) h) (λ t. refl) rows path)
