-- What is asked of a case.
use Rattle.std.specs.Prelude.{ℕ, List, ℤ}
use Rattle.history.specs.declared.calls.Call.{Call}
use Rattle.task.specs.declared.edges.NewEdge.{NewEdge}
use Rattle.history.specs.declared.calls.Call.TheVariants.{Edge, Row, Seal, Claim, Void, Step, Withdraw, Told}

-- a call, by its numbers and lists
pub data Request : Type 0 where
  edge : NewEdge → Request
  row : (relation k : ℤ) (coefficients : List ℤ) → Request
  seal : Request
  claim : (turns : List ℕ) (tree : List ℤ) → Request
  void : (tree : List ℤ) → Request
  step : Request
  withdraw : Request
  told : Request

-- the call of an edge by its five numbers
abbrev pub edge_with : (tail head block cycles reads : ℕ) → Request
edge_with tail head block cycles reads = edge (record { tail = tail; head = head; block = block; cycles = cycles; reads = reads })

abbrev pub request : Call → Request
request (Edge new) = edge new
request (Row relation k coefficients) = row relation k coefficients.now
request Seal = seal
request (Claim turns tree) = claim turns.now tree.now
request (Void tree) = void tree.now
request Step = step
request Withdraw = withdraw
request Told = told
