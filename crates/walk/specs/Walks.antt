-- A walk that takes one edge after another by a choice, and what it comes to.
use Rattle.std.specs.Prelude.{◌≡◌, ℕ, zero, suc, ◌+◌, ◌-◌, ◌<◌, ◌≤◌, ◌⊎◌, ◌↔◌, List, [], ◌∷◌, ◌++◌, length, take, Some, None, sum, Option, ◌==◌, ◌≢◌, slice_index, slice_set}
use Rattle.task.specs.declared.edges.Edge.{Edge}
use Rattle.task.specs.Graph.{tail_of, head_of, Path, Run}
use Rattle.task.specs.Lowest.{one_if}
use Rattle.task.specs.Sound.{leaving}
use Rattle.task.specs.Turns.{turns, turns_in}

-- one turn of edge x less
abbrev pub one_less : List ℕ → ℕ → List ℕ
one_less ts x = slice_set ts x (slice_index ts x - 1)

-- by the turns left and the node: the next edge, or none
abbrev pub Chooser : Type 0
Chooser = List ℕ → ℕ → Option ℕ

abbrev pub then_on : Option ℕ → (ℕ → List ℕ) → List ℕ
then_on None rest = []
then_on (Some x) rest = x ∷ rest x

-- the edges taken in at most k steps
abbrev pub walk : List Edge → Chooser → ℕ → List ℕ → ℕ → List ℕ
walk es choose zero left at = []
walk es choose (suc k) left at = then_on (choose left at) (λ x. walk es choose k (one_less left x) (head_of es x))

-- the node after the edges xs
abbrev pub at_after : List Edge → ℕ → List ℕ → ℕ
at_after es at [] = at
at_after es at (x ∷ xs) = at_after es (head_of es x) xs

-- the turns left after the edges xs
abbrev pub left_after : List ℕ → List ℕ → List ℕ
left_after left [] = left
left_after left (x ∷ xs) = left_after (one_less left x) xs

-- each edge of xs has a turn left when it is taken
abbrev pub Held : List ℕ → List ℕ → Type 0
Held left [] = Unit {0}
Held left (x ∷ xs) = (0 < slice_index left x) × Held (one_less left x) xs

-- ---- a choice that keeps a turn of every node's exit for last

-- the turns of edge x left beyond the one that is set aside for the exit of node v
abbrev pub spare : (ℕ → ℕ) → List ℕ → ℕ → ℕ → ℕ
spare exit left v x = slice_index left x - one_if (x == exit v)

-- edge x leaves v, and has a spare turn, or is the exit of v where no leaving edge has one
pub record Chosen (es : List Edge) (exit : ℕ → ℕ) (left : List ℕ) (v x : ℕ) : Type 0 where
  pub edge : x < length es
  pub leaves : tail_of es x ≡ v
  pub either : (0 < spare exit left v x) ⊎ ((x ≡ exit v) × ((y : ℕ) → y < length es → tail_of es y ≡ v → spare exit left v y ≡ 0))

-- nothing is chosen at the end; elsewhere some edge is, where an edge with turns left leaves and the exit has one
pub record Lawful (es : List Edge) (end : ℕ) (exit : ℕ → ℕ) (choose : Chooser) : Type 0 where
  pub stops : (left : List ℕ) → choose left end ≡ None
  pub goes : (left : List ℕ) (v : ℕ) → (v ≢ end) → 0 < leaving es left v → 0 < slice_index left (exit v) → exit v < length es → tail_of es (exit v) ≡ v →
      (x : ℕ) × (choose left v ≡ Some x) × Chosen es exit left v x

-- ---- what a walk comes to

-- after k steps: they begin the run, and stand at the end exactly if they are as many as all claimed turns
pub record Sofar (es : List Edge) (end : ℕ) (claimed run : List ℕ) (start k : ℕ) (taken : List ℕ) : Type 0 where
  pub begins : taken ≡ take k run
  pub counted : length taken ≡ k
  pub left : sum (left_after claimed taken) + k ≡ sum claimed
  pub done : (at_after es start taken ≡ end) ↔ (k ≡ sum claimed)

-- the walk is a run whose turns are the claimed ones, each left when it is taken; every part of it begins it; it stays at the end
pub record Complete (es : List Edge) (start end : ℕ) (claimed : List ℕ) (choose : Chooser) (run : List ℕ) : Type 0 where
  pub is_run : Run es run
  pub exact : turns_in es run ≡ claimed
  pub held : Held claimed run
  pub sofar : (k : ℕ) → k ≤ sum claimed → Sofar es end claimed run start k (walk es choose k claimed start)
  pub rests : (more : ℕ) → walk es choose (sum claimed + more) claimed start ≡ run

-- xs are edges that the choice answered, one after another
abbrev pub Follows : List Edge → Chooser → List ℕ → ℕ → List ℕ → Type 0
Follows es choose left at [] = Unit {0}
Follows es choose left at (x ∷ xs) = (choose left at ≡ Some x) × Follows es choose (one_less left x) (head_of es x) xs

-- the edges handed out begin a run whose turns are the claimed ones; they stand at the end exactly if they are as many as all claimed turns
pub record Begun (es : List Edge) (start end : ℕ) (claimed handed : List ℕ) : Type 0 where
  pub few : length handed ≤ sum claimed
  pub left : sum (left_after claimed handed) + length handed ≡ sum claimed
  pub each : (x : ℕ) → turns x handed + slice_index (left_after claimed handed) x ≡ slice_index claimed x
  pub path : Path es start (at_after es start handed) handed
  pub rest : List ℕ
  pub is_run : Run es (handed ++ rest)
  pub exact : turns_in es (handed ++ rest) ≡ claimed
  pub counted : length (handed ++ rest) ≡ sum claimed
  pub done : (at_after es start handed ≡ end) ↔ (length handed ≡ sum claimed)
