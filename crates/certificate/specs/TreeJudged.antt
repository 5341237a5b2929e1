-- What each answer says. The questions are asked in this order, and there is no other answer.
use Rattle.std.specs.Prelude.{◌≡◌, ℕ, ◌^◌, ◌<◌, ◌≤◌, Bool, true, false, List, ◌∷◌, ◌++◌, length, ℤ, pos, Ok, Err, slice_index_or, All, IsTrue}
use Rattle.price.specs.Pairs.{Pair, zero}
use Rattle.price.specs.Ranges.{Both}
use Rattle.certificate.specs.declared.faults.TreeFault.TheVariants.{TooManyEdges, TooManyRows, PriceRange, NotOneTree, Range, MultiplierSign, AllowanceShort, BoundTooHigh}
use Rattle.task.specs.Sound.{LowestFailing}
use Rattle.task.specs.Graph.{no_edge}
use Rattle.price.specs.declared.senses.Sense.{Sense}
use Rattle.price.specs.declared.senses.Sense.TheVariants.{Longest}
use Rattle.task.specs.Sides.{node_count}
use Rattle.certificate.specs.LeafTests.{row_ok, edge_ok, bound_ok}
use Rattle.certificate.specs.Lines.{Line, Leaf, leaves, case_lines, no_line}
use Rattle.certificate.specs.RangeTests.{tests}
use Rattle.certificate.specs.Tasks.{Task, Answer}
use Rattle.certificate.specs.Trees.{Tree, Spells}

-- element i passes; past the end stands d
abbrev pub PassesAt : {A : Type 0} → (ℕ → A → Bool) → A → List A → ℕ → Type 0
PassesAt ok d xs i = IsTrue (ok i (slice_index_or xs i d))

abbrev pub EachPasses : {A : Type 0} → (ℕ → A → Bool) → A → List A → Type 0
EachPasses ok d xs = (i : ℕ) → i < length xs → PassesAt ok d xs i

-- element k is the lowest that fails
abbrev pub FirstFailing : {A : Type 0} → (ℕ → A → Bool) → A → List A → ℕ → Type 0
FirstFailing ok d xs k = LowestFailing (λ i. i < length xs) (PassesAt ok d xs) k

-- the list is this tree
abbrev pub SpelledBy : Task → List ℤ → Tree → Type 0
SpelledBy task xs t = Spells (node_count task.edges) (length task.rows) xs t

-- its numbers are all in range, and D is at most `top`
abbrev pub InRange : Task → ℤ → Tree → Type 0
InRange task top t = All IsTrue (tests (length task.edges) top t)

-- every sign of a leaf passes
abbrev pub Signs : (Pair → Pair → Bool) → List Line → Leaf → Type 0
Signs le lines l = EachPasses (row_ok le l) no_line lines

-- every edge of a leaf passes
abbrev pub Allowances : (Pair → Pair → Bool) → Task → Sense → List Line → Leaf → Type 0
Allowances le task sense lines l = EachPasses (edge_ok le sense lines l) no_edge task.edges

module _ (le : Pair → Pair → Bool) (unit : Pair) (task : Task) (sense : Sense) (c : Pair) where
  pub record Passes (lines : List Line) (l : Leaf) : Type 0 where
    pub signs : Signs le lines l
    pub allowances : Allowances le task sense lines l
    pub under : IsTrue (bound_ok le unit task c lines l)

  -- leaf n fails, with this answer
  pub data Fails (lines : List Line) (l : Leaf) (n : ℕ) (answer : Answer) : Type 0 where
    sign : (row : ℕ) → answer ≡ Err (MultiplierSign n row) → FirstFailing (row_ok le l) no_line lines row → Fails lines l n answer
    allowance : (edge : ℕ) → answer ≡ Err (AllowanceShort n edge) → Signs le lines l →
        FirstFailing (edge_ok le sense lines l) no_edge task.edges edge → Fails lines l n answer
    bound : answer ≡ Err (BoundTooHigh n) → Signs le lines l → Allowances le task sense lines l → bound_ok le unit task c lines l ≡ false → Fails lines l n answer

  -- the answer for a list, where D is at most `top`
  pub data OfList (top : ℤ) (xs : List ℤ) (answer : Answer) : Type 0 where
    not_one_tree : answer ≡ Err NotOneTree → ((t : Tree) → SpelledBy task xs t → ⊥) → OfList top xs answer
    out_of_range : (t : Tree) → SpelledBy task xs t →
        (place : ℕ) → answer ≡ Err (Range place) → FirstFailing (λ i b. b) true (tests (length task.edges) top t) place → OfList top xs answer
    leaf_fails : (t : Tree) → SpelledBy task xs t → InRange task top t →
        (passed rest : List (List Line × Leaf)) (lines : List Line) (l : Leaf) → leaves (case_lines task) t ≡ passed ++ ((lines, l) ∷ rest) →
        All (λ x. Passes x.0 x.1) passed → Fails lines l (length passed) answer → OfList top xs answer
    proved : answer ≡ Ok tt → (t : Tree) → SpelledBy task xs t → InRange task top t →
        All (λ x. Passes x.0 x.1) (leaves (case_lines task) t) → OfList top xs answer

  -- the answer for a task
  pub data TreeJudged (top : ℤ) (xs : List ℤ) (answer : Answer) : Type 0 where
    too_many_edges : answer ≡ Err TooManyEdges → 64 < length task.edges → TreeJudged top xs answer
    too_many_rows : answer ≡ Err TooManyRows → length task.edges ≤ 64 → 24 < length task.rows → TreeJudged top xs answer
    price_range : answer ≡ Err PriceRange → length task.edges ≤ 64 → length task.rows ≤ 24 → (Both (2 ^ 42) c → ⊥) → TreeJudged top xs answer
    of_list : length task.edges ≤ 64 → length task.rows ≤ 24 → Both (2 ^ 42) c → OfList top xs answer → TreeJudged top xs answer

-- of a tree that is to prove that there is no run: D is 0, so no price counts, and any sense would do
abbrev pub VoidJudged : (Pair → Pair → Bool) → Pair → Task → List ℤ → Answer → Type 0
VoidJudged le unit task xs answer = TreeJudged le unit task Longest zero (pos 0) xs answer
