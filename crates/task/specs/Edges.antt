-- The questions about a new edge.
use Rattle.std.specs.Prelude.{◌≡◌, ℕ, ◌<◌, Bool, false, ◌&&◌, ◌||◌, List, [], ◌∷◌, length, Ok, Result, ◌==◌, nat_le}
use Rattle.price.specs.Questions.{ask}
use Rattle.task.specs.declared.faults.EdgeFault.{EdgeFault}
use Rattle.task.specs.declared.faults.EdgeFault.TheVariants.{Numbers, Price}
use Rattle.task.specs.declared.edges.Edge.{Edge}
use Rattle.task.specs.declared.edges.NewEdge.{NewEdge}
use Rattle.task.specs.Graph.{tail_of, head_of}

-- the edge of these numbers
abbrev pub edge_of : NewEdge → Edge
edge_of n = record { tail = n.tail; head = n.head; block = n.block; price = record { cycles = n.cycles; reads = n.reads } }

-- an edge of these numbers, or the question that they fail
abbrev pub edge_made : NewEdge → Result Edge EdgeFault
edge_made n =
    ask (nat_le n.tail 31 && (nat_le n.head 31 && nat_le n.block 63)) Numbers
    (ask (nat_le n.cycles 65535 && nat_le n.reads 65535) Price
    (Ok (edge_of n)))

-- some edge of the list has the tail and the head of e
pub record Repeats (es : List Edge) (e : Edge) : Type 0 where
  pub edge : ℕ
  pub exists : edge < length es
  pub same_tail : tail_of es edge ≡ e.tail
  pub same_head : head_of es edge ≡ e.head

-- ---- to compute with

abbrev pub same_ends : Edge → Edge → Bool
same_ends d e = d.tail == e.tail && d.head == e.head

abbrev pub repeated : Edge → List Edge → Bool
repeated e [] = false
repeated e (d ∷ es) = same_ends d e || repeated e es
