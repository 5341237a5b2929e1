-- Sums over edges of what each weighs × its turns: from an edge on, and by the places of a run. A sum ends with the shorter list.
use Rattle.std.proofs.Common.{◌≡◌, ℕ, zero, suc, ◌+◌, ◌<◌, ◌≤◌, min, eqb, List, [], ◌∷◌, length, get_or, drop, ℤ, pos, ◌+ℤ◌, ◌*ℤ◌, refl, ap, ◌∙◌, ⊎_elim, arith}
use Rattle.std.specs.List.{All}
use Rattle.std.proofs.lemmas.Int.{ints}
use Rattle.std.proofs.lemmas.List.{get_or_default, get_or_past, drop_more, drop_all}
use Rattle.std.proofs.lemmas.List.Elements.{All-head, All-tail}
use Rattle.std.proofs.lemmas.Bool.{cases_lt}
use Rattle.std.proofs.lemmas.Bool.Decides.{nat_tests}
use Rattle.price.specs.Integers.{*ℤ-+ℤ}
use Rattle.task.specs.declared.edges.Edge.{Edge}
use Rattle.task.specs.Graph.{no_edge, edge_at}
use Rattle.task.specs.Lowest.{one_if}
use Rattle.task.specs.Turns.{turns_from, turns_in}

-- what `es[x]` gives, and what a loop over edges has at x
pub edge_read : (es : List Edge) (x : ℕ) (e : Edge) → e ≡ get_or es x e → x < length es → e ≡ edge_at es x
edge_read es x e is low = is ∙ get_or_default es x e no_edge low

module _ (weight : Edge → ℤ) where
  abbrev pub weighed : List Edge → List ℕ → ℤ
  weighed [] ts = pos 0
  weighed (e ∷ es) [] = pos 0
  weighed (e ∷ es) (t ∷ ts) = weight e *ℤ pos t +ℤ weighed es ts

  -- ---- from an edge on

  spent : (es : List Edge) → weighed es [] ≡ pos 0
  spent [] = refl
  spent (e ∷ es) = refl

  pub weighed_next : (es : List Edge) (ts : List ℕ) (x : ℕ) → x < length es →
      weighed (drop x es) (drop x ts) ≡ weight (edge_at es x) *ℤ pos (get_or ts x 0) +ℤ weighed (drop (x + 1) es) (drop (x + 1) ts)
  weighed_next es ts x low = ⊎_elim
      (λ more. rw (drop_more es x no_edge low, drop_more ts x 0 more))
      (λ end. rw (drop_all x ts end, drop_all (x + 1) ts (omega arith), get_or_past ts x 0 end) (omega (arith, ints, spent (drop x es), spent (drop (x + 1) es))))
      (cases_lt x (length ts))

  pub weighed_done : (es : List Edge) (ts : List ℕ) (x : ℕ) → min (length es) (length ts) ≤ x → weighed (drop x es) (drop x ts) ≡ pos 0
  weighed_done es ts x h = ⊎_elim
      (λ low. rw (drop_all x ts (omega arith)) (spent (drop x es)))
      (λ end. rw (drop_all x es end))
      (cases_lt x (length es))

  -- ---- by the places of a run

  abbrev pub along : List Edge → List ℕ → ℤ
  along es [] = pos 0
  along es (x ∷ run) = weight (edge_at es x) +ℤ along es run

  no_places : (i : ℕ) (es : List Edge) → weighed es (turns_from i es []) ≡ pos 0
  no_places i [] = refl
  no_places i (e ∷ es) = omega (arith, ints, no_places (suc i) es)

  -- a place before the edges is no turn of theirs
  before : (x i : ℕ) (es : List Edge) (run : List ℕ) → x < i → turns_from i es (x ∷ run) ≡ turns_from i es run
  before x i [] run h = refl
  before x i (e ∷ es) run h = grind (arith, nat_tests, before x (suc i) es run (omega arith))

  -- what is past the last edge weighs nothing, where it counts
  abbrev pub Counts : List Edge → ℕ → Type 0
  Counts es x = length es ≤ x → weight no_edge ≡ pos 0

  one_more : (c z : ℤ) (t u : ℕ) → u ≡ t + 1 → c *ℤ pos u +ℤ z ≡ c +ℤ (c *ℤ pos t +ℤ z)
  one_more c z t u is = rw is (omega (arith, ints, *ℤ-+ℤ c (pos t) (pos 1)))

  at : (es : List Edge) (y i x : ℕ) (run : List ℕ) → x ≡ i + y → Counts es y →
      weighed es (turns_from i es (x ∷ run)) ≡ weight (edge_at es y) +ℤ weighed es (turns_from i es run)
  at [] y i x run is counts = omega (arith, ints, counts (omega arith))
  at (e ∷ es) zero i x run is counts = rw (before x (suc i) es run (omega arith)) (one_more (weight e) _ _ _ (grind (arith, nat_tests)))
  at (e ∷ es) (suc y) i x run is counts =
      let same : one_if (eqb x i) ≡ 0 = grind (arith, nat_tests) in
      rw same (omega (arith, ints, at es y (suc i) x run (omega arith) (λ h. counts (omega arith))))

  pub by_places : (es : List Edge) (run : List ℕ) → All (Counts es) run → weighed es (turns_in es run) ≡ along es run
  by_places es [] all = no_places 0 es
  by_places es (x ∷ run) all =
      at es x 0 x run (omega arith) (All-head (Counts es) x run all) ∙ ap (λ z. weight (edge_at es x) +ℤ z) (by_places es run (All-tail (Counts es) x run all))
