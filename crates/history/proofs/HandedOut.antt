-- The walk of a claim as its history knows it: by the edges that were handed out.
use Rattle.std.proofs.Common.{◌≡◌, ℕ, suc, ◌+◌, ◌-◌, List, [], ◌∷◌, ◌++◌, All, length, get_or, Some, sym, refl, ap, ◌∙◌, subst, ap₂, arith, length-append, length-set}
use Rattle.std.proofs.lemmas.List.{nil_from_length}
use Rattle.price.specs.Pairs.{Pair}
use Rattle.price.specs.declared.senses.Sense.{Sense}
use Rattle.task.specs.Graph.{head_of}
use Rattle.task.specs.Rows.{Row, Keeps}
use Rattle.task.specs.Sealing.{Ends}
use Rattle.task.specs.Sound.{Sound, Walkable}
use Rattle.task.specs.Turns.{turns, price_of}
use Rattle.task.specs.declared.edges.Edge.{Edge}
use Rattle.task.proofs.Flows.{claims}
use Rattle.walk.specs.Fewest.{Takes}
use Rattle.walk.specs.Rule.{next}
use Rattle.walk.specs.WalkAt.{WalkAt, OneMore}
use Rattle.walk.specs.Walks.{Chooser, one_less, at_after, left_after, Follows, Begun}
use Rattle.walk.proofs.WalkStands.{walk_stands}
use Rattle.walk.proofs.WalkAt.{stepped}
use Rattle.history.specs.Known.{left_from, turns_left}
use Rattle.history.specs.Rules.{Named, HandsOut}

-- the edges before x were followed, and there x was chosen
follows_front : (es : List Edge) (choose : Chooser) (left : List ℕ) (at : ℕ) (front : List ℕ) (x : ℕ) (back : List ℕ) → Follows es choose left at (front ++ (x ∷ back)) →
    Follows es choose left at front × (choose (left_after left front) (at_after es at front) ≡ Some x)
follows_front es choose left at [] x back f = (tt, f.0)
follows_front es choose left at (y ∷ front) x back f =
    let r = follows_front es choose (one_less left y) (head_of es y) front x back f.1 in ((f.0, r.0), r.1)

length_left : (left xs : List ℕ) → length (left_after left xs) ≡ length left
length_left left [] = refl
length_left left (x ∷ xs) = length_left (one_less left x) xs ∙ length-set left x (get_or left x 0 - 1)

-- what is left and what was handed out make up the turns, edge by edge
lefts : (i : ℕ) (ts ls handed : List ℕ) → length ls ≡ length ts → ((x : ℕ) → turns (i + x) handed + get_or ls x 0 ≡ get_or ts x 0) → ls ≡ left_from i ts handed
lefts i [] [] handed long all = refl
lefts i [] (l ∷ ls) handed long all = absurd (omega arith)
lefts i (t ∷ ts) [] handed long all = absurd (omega arith)
lefts i (t ∷ ts) (l ∷ ls) handed long all =
    let here : turns i handed + l ≡ t = ap (λ j. turns j handed + l) (omega arith) ∙ all 0 in
    ap₂ (λ n ns. n ∷ ns) (omega arith) (lefts (suc i) ts ls handed (omega arith) (λ x. ap (λ j. turns j handed + get_or ls x 0) (omega arith) ∙ all (suc x)))

module _ (es : List Edge) (rows : List Row) (s e : ℕ) (claimed : List ℕ) (ends : Ends es s e) (sound : Sound es rows s e claimed) where
  pub its_claim : Walkable es s e claimed
  its_claim = claims es rows s e claimed sound ends

  module _ (handed : List ℕ) (follows : Follows es (next es claimed e) claimed s handed) where
    pub begun : Begun es s e claimed handed
    begun = (walk_stands es s e claimed ends its_claim).parts handed follows

    pub left_same : left_after claimed handed ≡ turns_left claimed handed
    left_same = lefts 0 claimed (left_after claimed handed) handed (length_left claimed handed)
        (λ x. ap (λ j. turns j handed + get_or (left_after claimed handed) x 0) (omega arith) ∙ begun.each x)

  named_after : (front : List ℕ) (x : ℕ) → Follows es (next es claimed e) claimed s front → next es claimed e (left_after claimed front) (at_after es s front) ≡ Some x → Named es claimed front x
  named_after front x follows chosen =
      let stands : WalkAt es s e claimed front (left_after claimed front) (at_after es s front) = record { follows = follows; left_is = refl; at_is = refl } in
      let more : OneMore es s e claimed front (left_after claimed front) (at_after es s front) x =
      stepped es s e claimed its_claim front (left_after claimed front) (at_after es s front) stands (Some x) (sym chosen) in
      record {
        start = s;
        starts = ends.start.is;
        end = e;
        ends = ends.end.is;
        node = at_after es s front;
        leads = (begun front follows).path;
        goes_on = more.off;
        takes = subst (λ left. Takes es claimed e left (at_after es s front) x) (left_same front follows) more.named;
      }

  pub hands_out : (sense : Sense) (p : Pair) → p ≡ price_of sense es claimed → (handed : List ℕ) → Follows es (next es claimed e) claimed s handed → HandsOut sense es rows claimed p handed
  hands_out sense p costs handed follows =
      let b = begun handed follows in
      record {
        rest = b.rest;
        keeps = record { is_run = b.is_run; keeps = subst (λ ts. All (Keeps es ts) rows) (sym b.exact) sound.keeps };
        exact = b.exact;
        price = ap (price_of sense es) b.exact ∙ sym costs;
        named = λ front x back split.
            let f = follows_front es (next es claimed e) claimed s front x back (subst (Follows es (next es claimed e) claimed s) split follows) in
            named_after front x f.0 f.1;
        whole = λ all. nil_from_length b.rest (omega (arith, b.counted, length-append handed b.rest));
      }
