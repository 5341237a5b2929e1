-- The ranges of the parts of a price, of a unit and of a weight.
use Rattle.std.specs.Prelude.{ℕ, ◌^◌, ℤ, pos, neg_ℤ, ◌≤ℤ◌}
use Rattle.price.specs.Pairs.{Pair}

-- from -h to h, ends included
abbrev pub Within : ℕ → ℤ → Type 0
Within h z = (neg_ℤ (pos h) ≤ℤ z) × (z ≤ℤ pos h)

-- a part of a price record
abbrev pub Part : ℤ → Type 0
Part z = Within (2 ^ 52) z

-- both parts from -h to h
abbrev pub Both : ℕ → Pair → Type 0
Both h a = Within h a.0 × Within h a.1
