-- The answer of the questions, asked in order. To compute with; specs/TreeJudged has what each answer means.
use Rattle.std.specs.Prelude.{ℕ, ◌+◌, ◌^◌, Bool, ◌&&◌, List, [], ◌∷◌, length, ℤ, pos, Some, None, Ok, Err, Option, nat_le}
use Rattle.price.specs.Pairs.{Pair, zero}
use Rattle.price.specs.Questions.{ask}
use Rattle.certificate.specs.declared.faults.TreeFault.{TreeFault}
use Rattle.certificate.specs.declared.faults.TreeFault.TheVariants.{TooManyEdges, TooManyRows, PriceRange, NotOneTree, Range, MultiplierSign, AllowanceShort, BoundTooHigh}
use Rattle.price.specs.declared.senses.Sense.{Sense}
use Rattle.price.specs.declared.senses.Sense.TheVariants.{Longest}
use Rattle.task.specs.Coefficients.{in_range}
use Rattle.task.specs.Sides.{node_count}
use Rattle.certificate.specs.LeafTests.{row_ok, edge_ok, bound_ok}
use Rattle.certificate.specs.Lines.{Line, Leaf, leaf_of, leaves, case_lines}
use Rattle.certificate.specs.RangeTests.{tests}
use Rattle.certificate.specs.Reading.{read_tree, whole}
use Rattle.certificate.specs.Tasks.{Task, Answer}
use Rattle.certificate.specs.Trees.{Tree, TreeRecord, leaf_record, split_record}

-- the first that fails, which are numbered from i
abbrev pub first_failing : {A : Type 0} → (ℕ → A → Bool) → (ℕ → TreeFault) → ℕ → List A → Answer
first_failing ok refusal i [] = Ok tt
first_failing ok refusal i (x ∷ xs) = ask (ok i x) (refusal i) (first_failing ok refusal (i + 1) xs)

-- the second answer, unless the first refuses
abbrev pub before : Answer → Answer → Answer
before (Ok _) rest = rest
before (Err refusal) rest = Err refusal

-- the first test that fails of a list that begins at this place
abbrev pub range_answer : ℕ → List Bool → Answer
range_answer place bs = first_failing (λ i b. b) Range place bs

module _ (le : Pair → Pair → Bool) where
  -- n is the number of the leaf
  abbrev pub signs_answer : List Line → Leaf → ℕ → Answer
  signs_answer lines l n = first_failing (row_ok le l) (MultiplierSign n) 0 lines

  abbrev pub edges_answer : Task → Sense → List Line → Leaf → ℕ → Answer
  edges_answer task sense lines l n = first_failing (edge_ok le sense lines l) (AllowanceShort n) 0 task.edges

module _ (le : Pair → Pair → Bool) (unit : Pair) (task : Task) (sense : Sense) (c : Pair) where
  abbrev pub leaf_answer : List Line → Leaf → ℕ → Answer
  leaf_answer lines l n =
      before (signs_answer le lines l n) (before (edges_answer le task sense lines l n) (ask (bound_ok le unit task c lines l) (BoundTooHigh n) (Ok tt)))

  -- a record is judged if it is a leaf; n leaves stand before it
  abbrev pub record_answer : List Line → TreeRecord → ℕ → Answer
  record_answer lines (leaf_record scale potentials multipliers) n = leaf_answer lines (leaf_of scale potentials multipliers) n
  record_answer lines (split_record edge most) n = Ok tt

  -- leaves that are numbered from n
  abbrev pub leaves_answer : ℕ → List (List Line × Leaf) → Answer
  leaves_answer n [] = Ok tt
  leaves_answer n (x ∷ xs) = before (leaf_answer x.0 x.1 n) (leaves_answer (n + 1) xs)

  abbrev pub tree_answer : Tree → Answer
  tree_answer t = leaves_answer 0 (leaves (case_lines task) t)

  -- D is at most `top`
  abbrev pub found_answer : ℤ → Option Tree → Answer
  found_answer top None = Err NotOneTree
  found_answer top (Some t) = before (range_answer 0 (tests (length task.edges) top t)) (tree_answer t)

  -- the list is exactly one tree with no leaf under more than 12 splits, or not
  abbrev pub list_answer : ℤ → List ℤ → Answer
  list_answer top xs = found_answer top (whole (read_tree 12 (node_count task.edges) (length task.rows) xs))

  -- no more edges and rows than a case has, and a price that it can have
  abbrev pub task_answer : ℤ → List ℤ → Answer
  task_answer top xs =
      ask (nat_le (length task.edges) 64) TooManyEdges
      (ask (nat_le (length task.rows) 24) TooManyRows
      (ask (in_range (2 ^ 42) c.0 && in_range (2 ^ 42) c.1) PriceRange
      (list_answer top xs)))

abbrev pub price_answer : (Pair → Pair → Bool) → Pair → Task → Sense → Pair → List ℤ → Answer
price_answer le unit task sense c xs = task_answer le unit task sense c (pos 1000) xs

-- D is 0, so no price of an edge counts: any sense would do
abbrev pub void_answer : (Pair → Pair → Bool) → Pair → Task → List ℤ → Answer
void_answer le unit task xs = task_answer le unit task Longest zero (pos 0) xs
