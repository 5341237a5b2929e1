-- The two ends of a graph, and every node on a path between them.
use Rattle.std.specs.Prelude.{◌≡◌, ℕ, ◌<◌, List, length, Ok, Err, Result}
use Rattle.task.specs.declared.faults.GraphFault.{GraphFault}
use Rattle.task.specs.declared.faults.GraphFault.TheVariants.{NotOneStart, NotOneEnd, NodeAstray}
use Rattle.task.specs.declared.edges.Edge.{Edge}
use Rattle.task.specs.Graph.{tail_of, head_of, Node, Start, End, Path}

-- s is the only node that no edge enters
pub record OneStart (es : List Edge) (s : ℕ) : Type 0 where
  pub is : Start es s
  pub only : (v : ℕ) → Start es v → v ≡ s

-- e is the only node that no edge leaves
pub record OneEnd (es : List Edge) (e : ℕ) : Type 0 where
  pub is : End es e
  pub only : (v : ℕ) → End es v → v ≡ e

-- v lies on a path from s to e
pub record OnPath (es : List Edge) (s e v : ℕ) : Type 0 where
  pub before : List ℕ
  pub comes : Path es s v before
  pub after : List ℕ
  pub goes : Path es v e after

-- the start, the end, and every node on a path between them
pub record Ends (es : List Edge) (s e : ℕ) : Type 0 where
  pub start : OneStart es s
  pub end : OneEnd es e
  pub between : (v : ℕ) → Node es v → OnPath es s e v

-- v is the lowest node on no path between the two ends
pub record LowestAstray (es : List Edge) (v : ℕ) : Type 0 where
  pub start : ℕ
  pub starts : OneStart es start
  pub end : ℕ
  pub ends : OneEnd es end
  pub node : Node es v
  pub off : OnPath es start end v → ⊥
  pub lowest : (u : ℕ) → u < v → OnPath es start end u

-- what each answer says; the questions are asked in this order, and there is no other answer
pub data Sealed (es : List Edge) (answer : Result (ℕ × ℕ) GraphFault) : Type 0 where
  not_one_start : answer ≡ Err NotOneStart → ((s : ℕ) → OneStart es s → ⊥) → Sealed es answer
  not_one_end : answer ≡ Err NotOneEnd → (s : ℕ) → OneStart es s → ((e : ℕ) → OneEnd es e → ⊥) → Sealed es answer
  node_astray : (v : ℕ) → answer ≡ Err (NodeAstray v) → LowestAstray es v → Sealed es answer
  sealed : (s e : ℕ) → answer ≡ Ok (s, e) → Ends es s e → Sealed es answer

-- edge x lies on a path from s to e
pub record EdgeOnPath (es : List Edge) (s e x : ℕ) : Type 0 where
  pub before : List ℕ
  pub comes : Path es s (tail_of es x) before
  pub after : List ℕ
  pub goes : Path es (head_of es x) e after

-- two ends with every edge on a path between them
pub record EveryEdge (es : List Edge) (s e : ℕ) : Type 0 where
  pub apart : s ≡ e → ⊥
  pub between : (x : ℕ) → x < length es → EdgeOnPath es s e x
