-- The turns of a block, the sum of a row and the price of a run: edge by edge, and place by place.
use Rattle.std.proofs.Common.{◌≡◌, ℕ, zero, suc, cond, ◌*ℤ◌, get_or, ◌+◌, ◌<◌, Bool, cond, eqb, List, [], ◌∷◌, length, get_or, ℤ, pos, ◌+ℤ◌, refl, ◌∙◌, ap, arith}
use Rattle.std.proofs.lemmas.Int.{ints}
use Rattle.std.proofs.lemmas.Bool.Decides.{nat_tests}
use Rattle.std.proofs.lemmas.List.Elements.{All-nil, All-cons, All-weaker}
use Rattle.std.proofs.lemmas.List.Recursion.{same_from_clauses}
use Rattle.price.specs.Integers.{*ℤ-+ℤ}
use Rattle.price.specs.Pairs.{◌⊕◌}
use Rattle.price.proofs.PairSums.{parts}
use Rattle.price.specs.declared.senses.Sense.{Sense}
use Rattle.price.specs.declared.senses.Sense.TheVariants.{Longest}
use Rattle.task.specs.declared.edges.Edge.{Edge}
use Rattle.task.specs.Graph.{no_edge, head_of, edge_at, Path, Run}
use Rattle.task.specs.Lowest.{one_if}
use Rattle.task.specs.Turns.{turns_in, turns_by, block_turns, edge_price, price_of, run_price}
use Rattle.task.specs.Rows.{Row, coefficient, weigh, row_sum}
use Rattle.task.specs.Places.{Exist, coefficients_along, prices_along, places_of}
use Rattle.task.proofs.EdgeSums.{weighed, along, Counts, by_places}

-- ---- the edges of a run exist

path_exists : (es : List Edge) (u w : ℕ) (xs : List ℕ) → Path es u w xs → Exist es xs
path_exists es u w [] p = All-nil (λ x. x < length es)
path_exists es u w (x ∷ xs) p = All-cons (λ x. x < length es) x xs p.0 (path_exists es (head_of es x) w xs p.2)

pub runs_exist : (es : List Edge) (run : List ℕ) → Run es run → Exist es run
runs_exist es run r = path_exists es r.start r.end run r.leads

along_edges : (weight : Edge → ℤ) (es : List Edge) (run : List ℕ) → Exist es run → weighed weight es (turns_in es run) ≡ along weight es run
along_edges weight es run exist = by_places weight es run (All-weaker (λ x. x < length es) (Counts weight es) (λ x low high. absurd (omega arith)) run exist)

-- ---- blocks

pub turns_weighed : (p : Edge → Bool) (es : List Edge) (ts : List ℕ) → pos (turns_by p es ts) ≡ weighed (λ e. pos (one_if (p e))) es ts
turns_weighed p [] ts = refl
turns_weighed p (e ∷ es) [] = refl
turns_weighed p (e ∷ es) (t ∷ ts) = grind (arith, ints, turns_weighed p es ts)

places_weighed : (es : List Edge) (b : ℕ) (run : List ℕ) → pos (places_of es b run) ≡ along (λ e. pos (one_if (eqb e.block b))) es run
places_weighed es b [] = refl
places_weighed es b (x ∷ run) = omega (arith, ints, places_weighed es b run)

pub blocks_by_places : (es : List Edge) (run : List ℕ) → Exist es run → (b : ℕ) → block_turns es (turns_in es run) b ≡ places_of es b run
blocks_by_places es run exist b =
    omega (arith, ints, turns_weighed (λ e. eqb e.block b) es (turns_in es run), along_edges (λ e. pos (one_if (eqb e.block b))) es run exist, places_weighed es b run)

-- ---- prices

pub price_weighed : (sense : Sense) (es : List Edge) (ts : List ℕ) →
    price_of sense es ts ≡ (weighed (λ e. (edge_price sense e).0) es ts, weighed (λ e. (edge_price sense e).1) es ts)
price_weighed sense [] ts = refl
price_weighed sense (e ∷ es) [] = refl
price_weighed sense (e ∷ es) (t ∷ ts) = let rest = price_weighed sense es ts in parts (omega (arith, ints, ap (λ a. a.0) rest)) (omega (arith, ints, ap (λ a. a.1) rest))

-- what a number past the last edge reads as costs nothing in any sense
costs_nothing : (sense : Sense) → edge_price sense no_edge ≡ (pos 0, pos 0)
costs_nothing Longest = refl

pub prices_by_places : (sense : Sense) (es : List Edge) (run : List ℕ) → run_price sense es run ≡ prices_along sense es run
prices_by_places sense es run =
    price_weighed sense es (turns_in es run)
    ∙ parts (by_places (λ e. (edge_price sense e).0) es run (λ k d low high. ap (λ a. a.0) (costs_nothing sense))) (by_places (λ e. (edge_price sense e).1) es run (λ k d low high. ap (λ a. a.1) (costs_nothing sense)))
    ∙ same_from_clauses (λ xs. (along (λ e. (edge_price sense e).0) es xs, along (λ e. (edge_price sense e).1) es xs)) (prices_along sense es) (λ x a. edge_price sense (edge_at es x) ⊕ a) refl (λ x xs. refl) (λ x xs. refl) run

-- ---- rows

no_turns : (i : ℕ) (cs : List ℤ) → weigh (λ b. 0) i cs ≡ pos 0
no_turns i [] = refl
no_turns i (c ∷ cs) = omega (arith, ints, no_turns (suc i) cs)

-- t more turns of block b
abbrev more : ℕ → ℕ → (ℕ → ℕ) → ℕ → ℕ
more b t turns i = cond (eqb b i) t 0 + turns i

module _ (t : ℕ) (turns : ℕ → ℕ) where
  more_before : (b i : ℕ) (cs : List ℤ) → b < i → weigh (more b t turns) i cs ≡ weigh turns i cs
  more_before b i [] low = refl
  more_before b i (c ∷ cs) low =
      let same : more b t turns i ≡ turns i = grind (arith, nat_tests) in
      rw same (ap (λ z. c *ℤ pos (turns i) +ℤ z) (more_before b (suc i) cs (omega arith)))

  more_at : (cs : List ℤ) (k b i : ℕ) → b ≡ i + k → weigh (more b t turns) i cs ≡ get_or cs k (pos 0) *ℤ pos t +ℤ weigh turns i cs
  more_at [] k b i is = omega (arith, ints)
  more_at (c ∷ cs) zero b i is =
      let here : more b t turns i ≡ t + turns i = grind (arith, nat_tests) in
      rw here (omega (arith, ints, *ℤ-+ℤ c (pos t) (pos (turns i)), more_before b (suc i) cs (omega arith)))
  more_at (c ∷ cs) (suc k) b i is =
      let same : more b t turns i ≡ turns i = grind (arith, nat_tests) in
      rw same (omega (arith, ints, more_at cs k b (suc i) (omega arith)))

pub row_by_edges : (row : Row) (es : List Edge) (ts : List ℕ) → row_sum es row ts ≡ weighed (λ e. coefficient row e.block) es ts
row_by_edges row [] ts = no_turns 0 row.coefficients
row_by_edges row (e ∷ es) [] = no_turns 0 row.coefficients
row_by_edges row (e ∷ es) (t ∷ ts) =
    more_at t (block_turns es ts) row.coefficients e.block e.block 0 (omega arith) ∙ ap (λ z. coefficient row e.block *ℤ pos t +ℤ z) (row_by_edges row es ts)

pub rows_by_places : (es : List Edge) (run : List ℕ) → Exist es run → (row : Row) → row_sum es row (turns_in es run) ≡ coefficients_along es row run
rows_by_places es run exist row =
    row_by_edges row es (turns_in es run) ∙ along_edges (λ e. coefficient row e.block) es run exist
    ∙ same_from_clauses (along (λ e. coefficient row e.block) es) (coefficients_along es row) (λ x z. coefficient row (edge_at es x).block +ℤ z) refl (λ x xs. refl) (λ x xs. refl) run
