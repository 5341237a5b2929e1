-- The walk theorem: a walk that keeps a turn of every last exit for last uses up all claimed turns.
use Rattle.std.specs.Prelude.{ℕ, List, sum}
use Rattle.task.specs.declared.edges.Edge.{Edge}
use Rattle.task.specs.Sealing.{Ends}
use Rattle.task.specs.Sound.{Walkable}
use Rattle.walk.specs.Rule.{last_exit, next}
use Rattle.walk.specs.Walks.{Chooser, Lawful, walk, Complete, Follows, Begun}

-- the walk of as many steps as all claimed turns, and any edges that the choice answered one by one
pub record WalksWhole (es : List Edge) (start end : ℕ) (claimed : List ℕ) (choose : Chooser) : Type 0 where
  pub whole : Complete es start end claimed choose (walk es choose (sum claimed) claimed start)
  pub parts : (handed : List ℕ) → Follows es choose claimed start handed → Begun es start end claimed handed

-- by any choice that keeps a turn of every last exit for last
abbrev pub LawfulWalkStands : Type 0
LawfulWalkStands = (es : List Edge) (start end : ℕ) (claimed : List ℕ) → Ends es start end → Walkable es start end claimed →
    (choose : Chooser) → Lawful es end (last_exit es claimed end) choose → WalksWhole es start end claimed choose

-- by the rule of step
abbrev pub WalkStands : Type 0
WalkStands = (es : List Edge) (start end : ℕ) (claimed : List ℕ) → Ends es start end → Walkable es start end claimed → WalksWhole es start end claimed (next es claimed end)
