-- Backing trees, and the lists that spell them.
use Rattle.std.specs.Prelude.{◌≡◌, ℕ, zero, suc, ◌+◌, ◌*◌, List, ◌∷◌, ◌++◌, length, ℤ, pos}

-- a leaf has a scale D, a potential for each node and a multiplier for each row; a split has an edge, a number m and two trees
pub data Tree : Type 0 where
  leaf : (scale : ℤ) (potentials multipliers : List ℤ) → Tree
  split : (edge most : ℤ) (first second : Tree) → Tree

-- the records that a tree is spelled with
pub data TreeRecord : Type 0 where
  leaf_record : (scale : ℤ) (potentials multipliers : List ℤ) → TreeRecord
  split_record : (edge most : ℤ) → TreeRecord

abbrev pub spelled : Tree → List ℤ
spelled (leaf scale potentials multipliers) = pos 0 ∷ scale ∷ (potentials ++ multipliers)
spelled (split edge most first second) = pos 1 ∷ edge ∷ most ∷ (spelled first ++ spelled second)

-- each leaf has two numbers for each node and each row, a split adds a row, and no leaf stands under more splits than given
abbrev pub Fits : ℕ → ℕ → ℕ → Tree → Type 0
Fits splits nodes rows (leaf scale potentials multipliers) = (length potentials ≡ 2 * nodes) × (length multipliers ≡ 2 * rows)
Fits zero nodes rows (split edge most first second) = ⊥
Fits (suc splits) nodes rows (split edge most first second) = Fits splits nodes (rows + 1) first × Fits splits nodes (rows + 1) second

-- the list is this tree, in which no leaf stands under more than 12 splits
pub record Spells (nodes rows : ℕ) (xs : List ℤ) (t : Tree) : Type 0 where
  pub fits : Fits 12 nodes rows t
  pub is : spelled t ≡ xs
