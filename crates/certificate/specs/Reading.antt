-- The tree that a list begins with, and the list behind it. To compute with.
use Rattle.std.specs.Prelude.{ℕ, zero, suc, ◌+◌, ◌*◌, cond, List, [], ◌∷◌, length, take, drop, ℤ, pos, Some, None, Option, ◌==◌, nat_le}
use Rattle.std.specs.Option.{option_and_then}
use Rattle.certificate.specs.Trees.{Tree, leaf, split, TreeRecord, leaf_record, split_record}

-- a leaf after its 0: a scale, a pair for each node and a pair for each row
abbrev pub leaf_after : ℕ → ℕ → List ℤ → Option (TreeRecord × List ℤ)
leaf_after nodes rows [] = None
leaf_after nodes rows (scale ∷ xs) =
    cond (nat_le (2 * nodes + 2 * rows) (length xs))
    (Some (leaf_record scale (take (2 * nodes) xs) (take (2 * rows) (drop (2 * nodes) xs)), drop (2 * nodes + 2 * rows) xs))
    None

-- a split after its 1: an edge number and a number
abbrev pub split_after : List ℤ → Option (TreeRecord × List ℤ)
split_after [] = None
split_after (edge ∷ []) = None
split_after (edge ∷ most ∷ xs) = Some (split_record edge most, xs)

-- the record that a list begins with, and the list after it
abbrev pub first_record : ℕ → ℕ → List ℤ → Option (TreeRecord × List ℤ)
first_record nodes rows (pos zero ∷ xs) = leaf_after nodes rows xs
first_record nodes rows (pos (suc zero) ∷ xs) = split_after xs
first_record nodes rows other = None

-- two trees and the list behind them make a split
abbrev pub joined : ℤ → ℤ → (List ℤ → Option (Tree × List ℤ)) → Tree × List ℤ → Option (Tree × List ℤ)
joined edge most subtree a = option_and_then (λ b. Some (split edge most a.0 b.0, b.1)) (subtree a.1)

-- the tree that begins with this record, and the list behind it; `subtree` reads a tree under a split
abbrev pub tree_from : (List ℤ → Option (Tree × List ℤ)) → TreeRecord → List ℤ → Option (Tree × List ℤ)
tree_from subtree (leaf_record scale potentials multipliers) xs = Some (leaf scale potentials multipliers, xs)
tree_from subtree (split_record edge most) xs = option_and_then (joined edge most subtree) (subtree xs)

-- the tree that a list begins with, with at most so many splits above a leaf
abbrev pub read_tree : ℕ → ℕ → ℕ → List ℤ → Option (Tree × List ℤ)
read_tree zero nodes rows xs = option_and_then (λ p. tree_from (λ ys. None) p.0 p.1) (first_record nodes rows xs)
read_tree (suc splits) nodes rows xs = option_and_then (λ p. tree_from (read_tree splits nodes (rows + 1)) p.0 p.1) (first_record nodes rows xs)

-- the tree, where nothing stands behind it
abbrev pub whole : Option (Tree × List ℤ) → Option Tree
whole None = None
whole (Some p) = cond (length p.1 == 0) (Some p.0) None
