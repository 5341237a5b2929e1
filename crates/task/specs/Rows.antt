-- The rows of a task, and the runs that keep them.
use Rattle.std.specs.Prelude.{◌≡◌, ℕ, suc, IsTrue, List, [], ◌∷◌, length, ℤ, pos, ◌+ℤ◌, ◌*ℤ◌, ◌≤ℤ◌, ◌<ℤ◌, slice_index_or, All}
use Rattle.price.specs.Ranges.{Within}
use Rattle.task.specs.Coefficients.{all_small}
use Rattle.task.specs.declared.edges.Edge.{Edge}
use Rattle.task.specs.declared.rows.Relation.{Relation}
use Rattle.task.specs.declared.rows.Relation.TheVariants.{Below, AtMost, Equal}
use Rattle.task.specs.Graph.{Run}
use Rattle.task.specs.Turns.{turns_in, block_turns}

-- a relation, a number k and a coefficient for each block
pub record Row : Type 0 where
  pub relation : Relation
  pub k : ℤ
  pub coefficients : List ℤ

-- what is true of every row: its range, and a small coefficient for each of 64 blocks
pub record IsRow (k : ℤ) (coefficients : List ℤ) : Type 0 where
  pub k_fits : Within 1048576 k
  pub every_block : length coefficients ≡ 64
  pub all_fit : IsTrue (all_small coefficients)

-- the coefficient of a block: 0 past the list
abbrev pub coefficient : Row → ℕ → ℤ
coefficient row b = slice_index_or row.coefficients b (pos 0)

-- coefficient × turns, added up over the blocks from b on
abbrev pub weigh : (ℕ → ℕ) → ℕ → List ℤ → ℤ
weigh turns_of b [] = pos 0
weigh turns_of b (c ∷ cs) = c *ℤ pos (turns_of b) +ℤ weigh turns_of (suc b) cs

-- coefficient × turns over all blocks
abbrev pub row_sum : List Edge → Row → List ℕ → ℤ
row_sum es row ts = weigh (block_turns es ts) 0 row.coefficients

abbrev pub Meets : Relation → ℤ → ℤ → Type 0
Meets Below sum k = sum <ℤ k
Meets AtMost sum k = sum ≤ℤ k
Meets Equal sum k = sum ≡ k

-- these turns meet the row's relation
abbrev pub Keeps : List Edge → List ℕ → Row → Type 0
Keeps es ts row = Meets row.relation (row_sum es row ts) row.k

-- a run that keeps every row
pub record KeepsAll (es : List Edge) (rows : List Row) (run : List ℕ) : Type 0 where
  pub is_run : Run es run
  pub keeps : All (Keeps es (turns_in es run)) rows
