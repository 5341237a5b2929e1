-- Where a walk stands, and what the answer of one step says.
use Rattle.std.specs.Prelude.{◌≡◌, ℕ, ◌<◌, List, [], ◌∷◌, ◌++◌, length, Some, None, Option, slice_index}
use Rattle.task.specs.declared.edges.Edge.{Edge}
use Rattle.task.specs.Graph.{head_of}
use Rattle.task.specs.Sound.{Walkable}
use Rattle.walk.specs.Fewest.{Takes}
use Rattle.walk.specs.Rule.{next}
use Rattle.walk.specs.Tables.{ExitsTabled}
use Rattle.walk.specs.Walks.{one_less, at_after, left_after, Follows}

-- the edges handed out by the rule have led to the node `at`, and leave the turns `left`
pub record WalkAt (es : List Edge) (start end : ℕ) (claimed handed left : List ℕ) (at : ℕ) : Type 0 where
  pub follows : Follows es (next es claimed end) claimed start handed
  pub left_is : left_after claimed handed ≡ left
  pub at_is : at_after es start handed ≡ at

-- one edge more, the one that the rule names: it exists and has a turn left; the walk then stands at its head, with one turn of it less
pub record OneMore (es : List Edge) (start end : ℕ) (claimed handed left : List ℕ) (at x : ℕ) : Type 0 where
  pub off : at ≡ end → ⊥
  pub named : Takes es claimed end left at x
  pub edge : x < length es
  pub sized : length left ≡ length es
  pub held : 0 < slice_index left x
  pub stands : WalkAt es start end claimed (handed ++ (x ∷ [])) (one_less left x) (head_of es x)

-- what each answer of step says
abbrev pub Stepped : List Edge → ℕ → ℕ → List ℕ → List ℕ → List ℕ → ℕ → Option ℕ → Type 0
Stepped es start end claimed handed left at None = at ≡ end
Stepped es start end claimed handed left at (Some x) = OneMore es start end claimed handed left at x

-- wherever the walk of a claim stands, by a table of its last exits
abbrev pub StepsOn : List Edge → List ℕ → ℕ → List ℕ → ℕ → Option ℕ → Type 0
StepsOn es exits end left at r = (start : ℕ) (claimed handed : List ℕ) → Walkable es start end claimed → ExitsTabled es claimed end exits →
    WalkAt es start end claimed handed left at → Stepped es start end claimed handed left at r
