-- A lawful step keeps what is left balanced, and the turn of every last exit for last; the walk is at the end exactly if nothing is left.
use Rattle.std.proofs.Common.{◌≡◌, ℕ, zero, suc, ◌+◌, ◌-◌, ◌<◌, ◌≤◌, eqb, ◌↔◌, List, length, get_or, sum, refl, ◌∙◌, ⊎_elim, arith, length-set}
use Rattle.std.proofs.lemmas.List.Elements.{All-from_get_or}
use Rattle.std.proofs.lemmas.List.Sums.{get_or-le-sum_by, sum_by-le}
use Rattle.std.proofs.lemmas.Bool.{eq-eqb, cases_eq}
use Rattle.std.proofs.lemmas.Bool.Decides.{nat_tests}
use Rattle.task.specs.declared.edges.Edge.{Edge}
use Rattle.task.specs.Graph.{tail_of, head_of}
use Rattle.task.specs.Lowest.{one_if}
use Rattle.task.specs.Sound.{leaving, entering, Walkable}
use Rattle.walk.specs.Fewest.{Nearer}
use Rattle.walk.specs.Rule.{distance, last_exit}
use Rattle.walk.specs.Walks.{one_less, spare, Chosen}
use Rattle.walk.proofs.ShortestWays.{fewest_is, exit_last}
use Rattle.walk.proofs.TurnSums.{one_less_at, by_one_less, by_some, by_at}

-- what holds of the turns left where a lawful walk stands
pub record Invariant (es : List Edge) (end : ℕ) (claimed left : List ℕ) (at : ℕ) : Type 0 where
  pub sized : length left ≡ length es
  pub claims : (x : ℕ) → get_or left x 0 ≤ get_or claimed x 0
  pub balanced : (v : ℕ) → entering es left v + one_if (eqb v at) ≡ leaving es left v + one_if (eqb v end)
  pub kept : (v : ℕ) → 0 < leaving es left v → 0 < get_or left (last_exit es claimed end v) 0

module _ {es : List Edge} {start end : ℕ} {claimed : List ℕ} (walkable : Walkable es start end claimed) where
  pub nearer : (v : ℕ) → 0 < leaving es claimed v → Nearer es claimed end v (last_exit es claimed end v)
  nearer v some = (exit_last es claimed end start walkable v some).is

  pub begins : Invariant es end claimed claimed start
  begins = record { sized = walkable.sized; claims = λ x. omega arith; balanced = walkable.balanced; kept = λ v h. (nearer v h).held }

  module _ {left : List ℕ} {at : ℕ} (inv : Invariant es end claimed left at) where
    -- a node with a turn left to leave by had a claimed one
    pub claimed_too : (v : ℕ) → 0 < leaving es left v → 0 < leaving es claimed v
    claimed_too v h =
        let s = by_some (λ d. eqb d.tail v) es left h in
        omega (arith, s.held, inv.claims s.number, by_at (λ d. eqb d.tail v) es claimed s.number s.edge s.passes)

    -- off the end there is a turn left to leave by
    pub can_leave : (at ≡ end → ⊥) → 0 < leaving es left at
    can_leave off = grind (arith, nat_tests, inv.balanced at)

    module _ (off : at ≡ end → ⊥) {x : ℕ} (chosen : Chosen es (last_exit es claimed end) left at x) where
      pub held : 0 < get_or left x 0
      held = ⊎_elim (λ (more : 0 < spare (last_exit es claimed end) left at x). omega arith) (λ last. rw last.0 (inv.kept at (can_leave off))) chosen.either

      leaving_less : (v : ℕ) → leaving es (one_less left x) v + one_if (eqb v at) ≡ leaving es left v
      leaving_less v = grind (arith, nat_tests, by_one_less (λ d. eqb d.tail v) es left x chosen.edge held, chosen.leaves)

      -- the turn of an exit goes last: where it went, no edge had a turn to spare
      kept_on : (v : ℕ) → 0 < leaving es (one_less left x) v → 0 < get_or (one_less left x) (last_exit es claimed end v) 0
      kept_on v h =
          let before : 0 < leaving es left v = omega (arith, leaving_less v) in
          let exit = last_exit es claimed end v in
          let from = (nearer v (claimed_too v before)).leaves in
          let s = by_some (λ d. eqb d.tail v) es (one_less left x) h in
          grind (arith, nat_tests, from, chosen.leaves, chosen.either, inv.kept v before, one_less_at left x exit held, one_less_at left x s.number held, s.edge, s.passes, s.held)

      pub stepped : Invariant es end claimed (one_less left x) (head_of es x)
      stepped = record {
        sized = length-set left x (get_or left x 0 - 1) ∙ inv.sized;
        claims = λ y. omega (arith, one_less_at left x y held, inv.claims y);
        balanced = λ v. grind (arith, nat_tests, inv.balanced v, leaving_less v, by_one_less (λ d. eqb d.head v) es left x chosen.edge held);
        kept = kept_on;
      }

    some_left : (at ≡ end → ⊥) → 0 < sum left
    some_left off =
        let s = by_some (λ d. eqb d.tail at) es left (can_leave off) in
        omega (arith, s.held, get_or-le-sum_by (λ t. t) left s.number 0 (omega (arith, s.edge, inv.sized)))

    -- a turn left would lead, exit by exit, to one that leaves the end
    module _ (there : at ≡ end) where
      none_below : (k v : ℕ) → distance es claimed end v < k → 0 < leaving es left v → ⊥
      none_below zero v low h = omega arith
      none_below (suc k) v low h =
          let n = nearer v (claimed_too v h) in
          let u = head_of es (last_exit es claimed end v) in
          let arrives = by_at (λ d. eqb d.head u) es left (last_exit es claimed end v) n.edge (eq-eqb u u refl) in
          none_below k u (omega (arith, low, fewest_is es claimed end v (suc n.far) n.from, fewest_is es claimed end u n.far n.to))
          (omega (arith, inv.kept v h, arrives, rw there at (inv.balanced u)))

      none_left : sum left ≡ 0
      none_left = omega (
        arith,
        sum_by-le (λ t. t) 0 left (All-from_get_or (λ t. t ≤ 0) left 0 (λ x low.
            let v = tail_of es x in
            let leaves = by_at (λ d. eqb d.tail v) es left x (omega (arith, inv.sized)) (eq-eqb v v refl) in
            let none : leaving es left v ≡ 0 = grind (arith, none_below (suc (distance es claimed end v)) v) in
            omega arith)),
      )

    pub over : (at ≡ end) ↔ (sum left ≡ 0)
    over = (none_left, λ none. ⊎_elim (λ there. there) (λ off. absurd (omega (arith, some_left off))) (cases_eq at end))
