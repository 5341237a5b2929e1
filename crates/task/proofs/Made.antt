-- What numbers that make an edge have passed.
use Rattle.std.proofs.Common.{◌≡◌, ◌≤◌, Bool, true, false, ◌&&◌, leb, Ok, Result, refl, arith}
use Rattle.std.proofs.lemmas.Bool.Decides.{nat_tests}
use Rattle.price.specs.Questions.{ask}
use Rattle.task.specs.declared.edges.Edge.{Edge}
use Rattle.task.specs.declared.edges.NewEdge.{NewEdge}
use Rattle.task.specs.Edges.{edge_made}

-- a question that was passed, and what was asked after it
pub asked : {A E : Type 0} (b : Bool) (refusal : E) (r : Result A E) (x : A) → ask b refusal r ≡ Ok x → (b ≡ true) × (r ≡ Ok x)
asked true refusal r x is = (refl, is)
asked false refusal r x is = cc

-- the numbers of an edge that was made: its nodes are 31 at most
pub record Made (n : NewEdge) : Type 0 where
  pub low_tail : n.tail ≤ 31
  pub low_head : n.head ≤ 31

pub edge_taken : (n : NewEdge) (e : Edge) → edge_made n ≡ Ok e → Made n
edge_taken n e is =
    let first = asked (leb n.tail 31 && (leb n.head 31 && leb n.block 63)) _ _ e is in
    record { low_tail = grind (arith, nat_tests, first.0); low_head = grind (arith, nat_tests, first.0) }
