-- The relation of a row of a leaf: that of the task's row, and "at most" past those.
use Rattle.std.proofs.Common.{◌≡◌, ℕ, zero as none, suc, ◌<◌, ◌≤◌, List, [], ◌∷◌, ◌++◌, map, length, get_or, refl, arith}
use Rattle.task.specs.declared.edges.Edge.{Edge}
use Rattle.task.specs.declared.rows.Relation.TheVariants as relation
use Rattle.task.specs.Rows.{Row}
use Rattle.certificate.specs.declared.branches.Branch.{Branch}
use Rattle.certificate.specs.declared.branches.Branch.TheVariants.{AtMost, MoreThan}
use Rattle.certificate.specs.Lines.{Line, case_line, no_line}
use Rattle.certificate.specs.Splits.{path_line, branch_of}

module _ (es : List Edge) where
  pub relation_in : (rows : List Row) (lines : List Line) (i : ℕ) (r : Row) → i < length rows → (get_or (map (case_line es) rows ++ lines) i no_line).relation ≡ (get_or rows i r).relation
  relation_in [] lines i r h = absurd (omega arith)
  relation_in (x ∷ rows) lines none r h = refl
  relation_in (x ∷ rows) lines (suc i) r h = relation_in rows lines i r (omega arith)

  pub relation_past : (rows : List Row) (path : List Branch) (i : ℕ) → length rows ≤ i → (get_or (map (case_line es) rows ++ map path_line (map branch_of path)) i no_line).relation ≡ relation.AtMost
  relation_past [] [] i h = refl
  relation_past [] (AtMost e n ∷ ts) none h = refl
  relation_past [] (MoreThan e n ∷ ts) none h = refl
  relation_past [] (t ∷ ts) (suc i) h = relation_past [] ts i (omega arith)
  relation_past (x ∷ rows) ts none h = absurd (omega arith)
  relation_past (x ∷ rows) ts (suc i) h = relation_past rows ts i (omega arith)
