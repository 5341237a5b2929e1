-- The records of a tree one after another, and those ahead in a list that is read record by record. To compute with.
use Rattle.std.specs.Prelude.{◌≡◌, ℕ, ◌+◌, ◌*◌, ◌-◌, ◌<◌, ◌≤◌, List, [], ◌∷◌, ◌++◌, length, ℤ, pos, Some, None, Option, unsigned_abs}
use Rattle.std.specs.List.{flat_map}
use Rattle.certificate.specs.declared.records.Records.{Records}
use Rattle.certificate.specs.Splits.{Branch, branches_of, first_of, onward}
use Rattle.certificate.specs.Trees.{Tree, leaf, split, TreeRecord, leaf_record, split_record}

-- a split is followed by the records of its two trees
abbrev pub records : Tree → List TreeRecord
records (leaf scale potentials multipliers) = leaf_record scale potentials multipliers ∷ []
records (split edge most first second) = split_record edge most ∷ (records first ++ records second)

abbrev pub numbers : TreeRecord → List ℤ
numbers (leaf_record scale potentials multipliers) = pos 0 ∷ scale ∷ (potentials ++ multipliers)
numbers (split_record edge most) = pos 1 ∷ edge ∷ most ∷ []

abbrev pub written : List TreeRecord → List ℤ
written rs = flat_map numbers rs

-- the splits above the record behind this one: behind a split those of its first tree
abbrev pub after : TreeRecord → List Branch → List Branch
after (leaf_record scale potentials multipliers) ts = onward ts
after (split_record edge most) ts = ts ++ (first_of (unsigned_abs edge) (unsigned_abs most) ∷ [])

abbrev pub leaves_after : TreeRecord → ℕ → ℕ
leaves_after (leaf_record scale potentials multipliers) n = n + 1
leaves_after (split_record edge most) n = n

-- the record that begins the list of these, and the list behind it
abbrev pub first_and_rest : List TreeRecord → Option (TreeRecord × List ℤ)
first_and_rest [] = None
first_and_rest (r ∷ rs) = Some (r, written rs)

module _ (nodes rows : ℕ) where
  -- a record may stand under these splits: a leaf has two numbers for each node and each row, and a split is not the thirteenth
  abbrev pub HasPlace : List Branch → TreeRecord → Type 0
  HasPlace ts (leaf_record scale potentials multipliers) = (length potentials ≡ 2 * nodes) × (length multipliers ≡ 2 * (rows + length ts))
  HasPlace ts (split_record edge most) = length ts < 12

  -- each may stand where it does, the first under these splits
  abbrev pub AllHavePlace : List Branch → List TreeRecord → Type 0
  AllHavePlace ts [] = Unit {0}
  AllHavePlace ts (r ∷ rs) = HasPlace ts r × AllHavePlace (after r ts) rs

-- what is left of the list spells these records
pub record Ahead (r : Records) (rs : List TreeRecord) : Type 0 where
  pub stand : AllHavePlace r.shape.nodes r.shape.rows (branches_of r.path) rs
  pub is : written rs ≡ r.rest.now
  pub counted : r.leaves + length r.rest.now ≤ r.whole

abbrev pub place_of : Records → ℕ
place_of r = r.whole - length r.rest.now
