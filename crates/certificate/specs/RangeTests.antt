-- The range question: a test beside each number of a tree's list.
use Rattle.std.specs.Prelude.{ℕ, Bool, true, not, ◌&&◌, List, [], ◌∷◌, ◌++◌, map, ℤ, pos, int_le, nat_lt, unsigned_abs}
use Rattle.task.specs.Coefficients.{in_range}
use Rattle.certificate.specs.Trees.{Tree, leaf, split, TreeRecord, leaf_record, split_record}

-- from 0 to `top`, ends included
abbrev pub up_to : ℤ → ℤ → Bool
up_to top z = int_le (pos 0) z && int_le z top

-- an edge of this number exists
abbrev pub exists : ℕ → ℤ → Bool
exists edges e = int_le (pos 0) e && nat_lt (unsigned_abs e) edges

-- potentials and multipliers are from -2^26 to 2^26
abbrev pub near : List ℤ → List Bool
near xs = map (in_range 67108864) xs

abbrev pub far : ℤ → Bool
far z = not (in_range 67108864 z)

-- one test for each number of a record, where D is at most `top`; the 0 or 1 in front is always in range
abbrev pub record_tests : ℕ → ℤ → TreeRecord → List Bool
record_tests edges top (leaf_record scale potentials multipliers) = true ∷ up_to top scale ∷ (near potentials ++ near multipliers)
record_tests edges top (split_record edge most) = true ∷ exists edges edge ∷ up_to (pos 1048575) most ∷ []

abbrev pub tests : ℕ → ℤ → Tree → List Bool
tests edges top (leaf scale potentials multipliers) = record_tests edges top (leaf_record scale potentials multipliers)
tests edges top (split edge most first second) = record_tests edges top (split_record edge most) ++ (tests edges top first ++ tests edges top second)
