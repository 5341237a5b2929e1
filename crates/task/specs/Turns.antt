-- The turns of edges and of blocks, and what they cost.
use Rattle.std.specs.Prelude.{ℕ, suc, ◌+◌, Bool, cond, List, [], ◌∷◌, pos, ◌==◌, nat_eq}
use Rattle.price.specs.Pairs.{Pair, zero, ◌⊕◌, times}
use Rattle.price.specs.declared.senses.Sense.{Sense}
use Rattle.price.specs.declared.senses.Sense.TheVariants.{Longest}
use Rattle.task.specs.declared.edges.Cost.{Cost}
use Rattle.task.specs.declared.edges.Edge.{Edge}

-- the turns of edge x: its number of places in the run
abbrev pub turns : ℕ → List ℕ → ℕ
turns x [] = 0
turns x (y ∷ run) = cond (y == x) 1 0 + turns x run

-- the turns of these edges, which are numbered from x
abbrev pub turns_from : ℕ → List Edge → List ℕ → List ℕ
turns_from x [] run = []
turns_from x (e ∷ es) run = turns x run ∷ turns_from (suc x) es run

-- the turns of every edge in a run
abbrev pub turns_in : List Edge → List ℕ → List ℕ
turns_in es run = turns_from 0 es run

-- the turns of the edges that pass the test, added up
abbrev pub turns_by : (Edge → Bool) → List Edge → List ℕ → ℕ
turns_by p [] ts = 0
turns_by p (e ∷ es) [] = 0
turns_by p (e ∷ es) (t ∷ ts) = cond (p e) t 0 + turns_by p es ts

-- the turns of a block: those of all its edges
abbrev pub block_turns : List Edge → List ℕ → ℕ → ℕ
block_turns es ts b = turns_by (λ e. nat_eq e.block b) es ts

-- the price of one turn that counts in this sense
abbrev pub price_in : Sense → Edge → Cost
price_in Longest e = e.price

abbrev pub edge_price : Sense → Edge → Pair
edge_price sense e = (pos (price_in sense e).cycles, pos (price_in sense e).reads)

-- every edge's price times its turns, added up
abbrev pub price_of : Sense → List Edge → List ℕ → Pair
price_of sense [] ts = zero
price_of sense (e ∷ es) [] = zero
price_of sense (e ∷ es) (t ∷ ts) = times (pos t) (edge_price sense e) ⊕ price_of sense es ts

abbrev pub run_price : Sense → List Edge → List ℕ → Pair
run_price sense es run = price_of sense es (turns_in es run)
