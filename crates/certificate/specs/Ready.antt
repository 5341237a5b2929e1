-- What the questions before have left of a list. To compute with.
use Rattle.std.specs.Prelude.{ℕ, ◌≤◌, List, ℤ, pos, slice_index_or, unsigned_abs}
use Rattle.price.specs.Ranges.{Within}
use Rattle.certificate.specs.Trees.{TreeRecord, leaf_record, split_record}

-- each number is one that a potential or a multiplier may have
abbrev pub Small : List ℤ → Type 0
Small xs = (k : ℕ) → Within 67108864 (slice_index_or xs k (pos 0))

-- no number of a record is larger than the judge can reckon with
abbrev pub Bounded : TreeRecord → Type 0
Bounded (leaf_record scale potentials multipliers) = (unsigned_abs scale ≤ 1000) × Small potentials × Small multipliers
Bounded (split_record edge most) = unsigned_abs most ≤ 1048575
