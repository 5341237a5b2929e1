-- The walk by any lawful choice stands, and the rule of step is one.
use Rattle.std.proofs.Common.{◌≡◌, ℕ, ◌<◌, eqb, List, length, None, refl, inl, inr, ⊎_elim, arith}
use Rattle.std.proofs.lemmas.Bool.{eq-eqb, cases_eq, cond-true}
use Rattle.std.proofs.lemmas.Bool.Decides.{nat_tests}
use Rattle.task.specs.declared.edges.Edge.{Edge}
use Rattle.task.specs.Graph.{tail_of}
use Rattle.walk.specs.Fewest.{Spare}
use Rattle.walk.specs.Rule.{beside, last_exit, next}
use Rattle.walk.specs.Theorem.{LawfulWalkStands, WalkStands}
use Rattle.walk.specs.Walks.{spare, Chosen, Lawful}
use Rattle.walk.proofs.FewestStands.{SpareOrLast, beside_says, taken_off}
use Rattle.walk.proofs.LawfulWalks.{complete, begun}

module _ (es : List Edge) (exit : ℕ → ℕ) (left : List ℕ) (v : ℕ) where
  none_spare : (y : ℕ) → y < length es → tail_of es y ≡ v → (Spare es left v (exit v) y → ⊥) → spare exit left v y ≡ 0
  none_spare y low e none = ⊎_elim
      (λ (z : spare exit left v y ≡ 0). z)
      (λ some. absurd (none (record { edge = low; leaves = e; held = omega arith; aside = λ is. grind (arith, nat_tests) })))
      (cases_eq (spare exit left v y) 0)

  chosen : (x : ℕ) → exit v < length es → tail_of es (exit v) ≡ v → SpareOrLast es left v (exit v) x → Chosen es exit left v x
  chosen x low from (inl s) = record { edge = s.is.edge; leaves = s.is.leaves; either = inl (grind (arith, nat_tests, s.is.held, s.is.aside)) }
  chosen x low from (inr none) = record { edge = rw none.0 low; leaves = rw none.0 from; either = inr (none.0, λ y h e. none_spare y h e (none.1 y)) }

pub next_lawful : (es : List Edge) (claimed : List ℕ) (end : ℕ) → Lawful es end (last_exit es claimed end) (next es claimed end)
next_lawful es claimed end = record {
  stops = λ left. cond-true (eqb end end) None _ (eq-eqb end end refl);
  goes = λ left v off some held low from.
      let exit = last_exit es claimed end v in
      let x = beside es left v exit in
      (x, taken_off es left v exit end off, chosen es (last_exit es claimed end) left v x low from (beside_says es left v exit));
}

pub lawful_walk_stands : LawfulWalkStands
lawful_walk_stands es start end claimed ends walkable choose lawful = record { whole = complete walkable lawful ends; parts = begun walkable lawful ends }

pub walk_stands : WalkStands
walk_stands es start end claimed ends walkable = lawful_walk_stands es start end claimed ends walkable (next es claimed end) (next_lawful es claimed end)
