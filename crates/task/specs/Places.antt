-- Sums over the places of a run.
use Rattle.std.specs.Prelude.{ℕ, ◌+◌, ◌<◌, cond, List, [], ◌∷◌, length, ℤ, pos, ◌+ℤ◌, ◌==◌, All}
use Rattle.price.specs.Pairs.{Pair, zero, ◌⊕◌}
use Rattle.price.specs.declared.senses.Sense.{Sense}
use Rattle.task.specs.declared.edges.Edge.{Edge}
use Rattle.task.specs.Graph.{edge_at}
use Rattle.task.specs.Turns.{edge_price}
use Rattle.task.specs.Rows.{Row, coefficient}

-- these numbers are edges
abbrev pub Exist : List Edge → List ℕ → Type 0
Exist es run = All (λ x. x < length es) run

-- the coefficients of the blocks at the places of the run, added up
abbrev pub coefficients_along : List Edge → Row → List ℕ → ℤ
coefficients_along es row [] = pos 0
coefficients_along es row (x ∷ run) = coefficient row (edge_at es x).block +ℤ coefficients_along es row run

-- the prices of the edges at the places of the run, added up
abbrev pub prices_along : Sense → List Edge → List ℕ → Pair
prices_along sense es [] = zero
prices_along sense es (x ∷ run) = edge_price sense (edge_at es x) ⊕ prices_along sense es run

-- the number of places of the run whose edge carries the block
abbrev pub places_of : List Edge → ℕ → List ℕ → ℕ
places_of es b [] = 0
places_of es b (x ∷ run) = cond ((edge_at es x).block == b) 1 0 + places_of es b run
