-- The range of the coefficients of a row.
use Rattle.std.specs.Prelude.{ℕ, Bool, true, ◌&&◌, List, [], ◌∷◌, ℤ, pos, neg_ℤ, int_le}

-- from -h to h, ends included
abbrev pub in_range : ℕ → ℤ → Bool
in_range h z = int_le (neg_ℤ (pos h)) z && int_le z (pos h)

-- every coefficient is from -1000 to 1000
abbrev pub all_small : List ℤ → Bool
all_small [] = true
all_small (c ∷ cs) = in_range 1000 c && all_small cs
