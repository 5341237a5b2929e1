-- Wherever the walk of the rule stands, the next edge leads on, and only at the end there is none.
use Rattle.std.proofs.Common.{◌≡◌, ℕ, List, [], ◌∷◌, ◌++◌, Some, None, Option, sym, refl, ap, ◌∙◌, ⊎_elim}
use Rattle.std.proofs.lemmas.Bool.{cases_eq}
use Rattle.task.specs.declared.edges.Edge.{Edge}
use Rattle.task.specs.Graph.{head_of}
use Rattle.task.specs.Sound.{Walkable}
use Rattle.walk.specs.Rule.{next}
use Rattle.walk.specs.WalkAt.{WalkAt, OneMore, Stepped}
use Rattle.walk.specs.Walks.{one_less, Chooser, at_after, left_after, Follows}
use Rattle.walk.proofs.FewestStands.{fewest_stands}
use Rattle.walk.proofs.LawfulSteps.{Invariant, claimed_too, can_leave, held}
use Rattle.walk.proofs.LawfulWalks.{from_start, some_chosen, answered}
use Rattle.walk.proofs.WalkStands.{next_lawful}

-- one edge more, the one that the choice answers
one_more : (es : List Edge) (choose : Chooser) (x : ℕ) (xs : List ℕ) (left : List ℕ) (at : ℕ) → Follows es choose left at xs → choose (left_after left xs) (at_after es at xs) ≡ Some x →
    Follows es choose left at (xs ++ (x ∷ [])) × (left_after left (xs ++ (x ∷ [])) ≡ one_less (left_after left xs) x) × (at_after es at (xs ++ (x ∷ [])) ≡ head_of es x)
one_more es choose x [] left at f e = ((e, tt), refl, refl)
one_more es choose x (y ∷ xs) left at f e = let more = one_more es choose x xs (one_less left y) (head_of es y) f.1 e in ((f.0, more.0), more.1, more.2)

module _ (es : List Edge) (start end : ℕ) (claimed : List ℕ) (walkable : Walkable es start end claimed)
    (handed left : List ℕ) (at : ℕ) (stands : WalkAt es start end claimed handed left at) where
  inv : Invariant es end claimed left at
  inv = rw (stands.left_is, stands.at_is) at (from_start walkable (next_lawful es claimed end) handed stands.follows).inv

  onward : (x : ℕ) → next es claimed end left at ≡ Some x → OneMore es start end claimed handed left at x
  onward x is =
      let a = answered walkable (next_lawful es claimed end) inv is in
      let some = claimed_too walkable inv at (can_leave walkable inv a.0) in
      let more = one_more es (next es claimed end) x handed claimed start stands.follows (rw (stands.left_is, stands.at_is) is) in
      record {
        off = a.0;
        named = ((fewest_stands es start end claimed walkable).steps left at x some).0 is;
        edge = a.1.edge;
        sized = inv.sized;
        held = held walkable inv a.0 a.1;
        stands = record { follows = more.0; left_is = more.1 ∙ ap (λ l. one_less l x) stands.left_is; at_is = more.2 };
      }

  pub stepped : (r : Option ℕ) → r ≡ next es claimed end left at → Stepped es start end claimed handed left at r
  stepped None is = ⊎_elim (λ there. there) (λ off. absurd (cc ((some_chosen walkable (next_lawful es claimed end) inv off).1))) (cases_eq at end)
  stepped (Some x) is = onward x (sym is)
