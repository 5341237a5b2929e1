-- The distance, the last exit and the rule of step in the words of paths and lowest numbers.
use Rattle.std.specs.Prelude.{◌≡◌, ℕ, suc, ◌<◌, ◌≤◌, ◌⊎◌, ◌↔◌, List, length, Some, slice_index}
use Rattle.task.specs.declared.edges.Edge.{Edge}
use Rattle.task.specs.Graph.{tail_of, head_of}
use Rattle.task.specs.Sound.{leaving, Reaches, Walkable}
use Rattle.walk.specs.Rule.{distance, last_exit, next}

-- x is the lowest number of which P holds
pub record Lowest (P : ℕ → Type 0) (x : ℕ) : Type 0 where
  pub is : P x
  pub lowest : (y : ℕ) → y < x → P y → ⊥

-- the fewest edges with claimed turns on a way from v to the end are d
pub record Fewest (es : List Edge) (claimed : List ℕ) (end v d : ℕ) : Type 0 where
  pub way : Reaches es claimed end v
  pub long : length way.0 ≡ d
  pub fewest : (other : Reaches es claimed end v) → d ≤ length other.0

-- edge x has claimed turns, and leads from v to a node one nearer to the end
pub record Nearer (es : List Edge) (claimed : List ℕ) (end v x : ℕ) : Type 0 where
  pub edge : x < length es
  pub leaves : tail_of es x ≡ v
  pub held : 0 < slice_index claimed x
  pub far : ℕ
  pub from : Fewest es claimed end v (suc far)
  pub to : Fewest es claimed end (head_of es x) far

-- the last exit of v is edge x
abbrev pub LastExit : List Edge → List ℕ → ℕ → ℕ → ℕ → Type 0
LastExit es claimed end v x = Lowest (Nearer es claimed end v) x

-- edge x leaves v and has turns left, one turn of the edge `last` set aside
pub record Spare (es : List Edge) (left : List ℕ) (v last x : ℕ) : Type 0 where
  pub edge : x < length es
  pub leaves : tail_of es x ≡ v
  pub held : 0 < slice_index left x
  pub aside : x ≡ last → 2 ≤ slice_index left x

-- step takes edge x at v: the lowest-numbered with a turn beside that of the last exit; if there is none, the last exit
pub record Takes (es : List Edge) (claimed : List ℕ) (end : ℕ) (left : List ℕ) (v x : ℕ) : Type 0 where
  pub last : ℕ
  pub is_last : LastExit es claimed end v last
  pub takes : Lowest (Spare es left v last) x ⊎ ((x ≡ last) × ((y : ℕ) → Spare es left v last y → ⊥))

-- what is computed is what is said here
pub record Agrees (es : List Edge) (claimed : List ℕ) (end : ℕ) : Type 0 where
  pub distances : (v : ℕ) → Reaches es claimed end v → Fewest es claimed end v (distance es claimed end v)
  pub exits : (v : ℕ) → 0 < leaving es claimed v → LastExit es claimed end v (last_exit es claimed end v)
  pub steps : (left : List ℕ) (v x : ℕ) → 0 < leaving es claimed v → (next es claimed end left v ≡ Some x) ↔ Takes es claimed end left v x

abbrev pub FewestStands : Type 0
FewestStands = (es : List Edge) (start end : ℕ) (claimed : List ℕ) → Walkable es start end claimed → Agrees es claimed end
