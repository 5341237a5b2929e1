-- How many turns a claim may have.
use Rattle.std.specs.Prelude.{ℕ, ◌≤◌, List, length, sum}

-- those of at most 64 edges, each at most 1,048,575
pub record Few (ts : List ℕ) : Type 0 where
  pub edges : length ts ≤ 64
  pub turns : sum ts ≤ 67108800
