-- What stands in a column, and a step of the sum over it.
use Rattle.std.proofs.Common.{◌≡◌, ℕ, ◌+◌, ◌<◌, List, length, map, get_or, ℤ, pos, sym, ap, ◌∙◌, add-one, arith}
use Rattle.std.proofs.lemmas.List.{get_or_append_left, get_or-append-add, get_or-map, length-map}
use Rattle.price.specs.Pairs.{Pair, zero, ◌⊕◌, times}
use Rattle.task.specs.Rows.{Row}
use Rattle.certificate.specs.declared.leaf.Column.{Column}
use Rattle.certificate.specs.declared.branches.Branch.{Branch}
use Rattle.certificate.specs.Columns.{row_entry, branch_entry, entries, charged}
use Rattle.certificate.specs.Splits.{branch_of}

module _ (column : Column) (rows : List Row) (path : List Branch) where
  abbrev of_rows : List ℤ
  of_rows = map (row_entry column) rows

  abbrev of_path : List ℤ
  of_path = map (λ t. branch_entry column (branch_of t)) path

  -- the entry of a row of the task, and of one of the path
  pub entry_of_row : (i : ℕ) (d : Row) → i < length rows → get_or (entries column rows path) i (pos 0) ≡ row_entry column (get_or rows i d)
  entry_of_row i d low =
      get_or_append_left of_rows of_path (pos 0) i (omega (arith, low, length-map rows (row_entry column)))
      ∙ get_or-map (row_entry column) rows i d (pos 0) low

  pub entry_of_branch : (i : ℕ) (d : Branch) → i < length path → get_or (entries column rows path) (length rows + i) (pos 0) ≡ branch_entry column (branch_of (get_or path i d))
  entry_of_branch i d low =
      ap (λ n. get_or (entries column rows path) (n + i) (pos 0)) (sym (length-map rows (row_entry column)))
      ∙ get_or-append-add of_rows of_path i (pos 0)
      ∙ get_or-map (λ t. branch_entry column (branch_of t)) path i d (pos 0) low

pub charged_more : (xs : List ℤ) (ms : List Pair) (n : ℕ) (s m : Pair) (x : ℤ) → s ≡ charged xs ms n → x ≡ get_or xs n (pos 0) → m ≡ get_or ms n zero → s ⊕ times x m ≡ charged xs ms (n + 1)
charged_more xs ms n s m x p q r = (λ i. p i ⊕ times (q i) (r i)) ∙ sym (ap (charged xs ms) (add-one n))
