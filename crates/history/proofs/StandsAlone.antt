-- What stands in a history that has one event more.
use Rattle.std.proofs.Common.{◌≡◌, ℕ, ◌⊎◌, List, [], ◌∷◌, ◌++◌, Some, None, Option, All, ◌≢◌, sym, refl, ap, ◌∙◌, subst, ap₂, inl, inr, append_assoc, append-nil}
use Rattle.std.proofs.lemmas.List.Elements.{All-nil, All-push}
use Rattle.std.specs.Option.{option_map}
use Rattle.history.specs.History.{Event, History}
use Rattle.history.specs.Known.{Bearing, opens, voids, hands, closes, quiet, bearing, Since, edge_handed, handed_out}
use Rattle.history.proofs.LastEvent.{Last, here, inside, last, nil_is_no_cons, front_of_all, end_of_all, handed_more}

abbrev Lasting : Event → Type 0
Lasting e = bearing e ≢ closes

-- what opens something neither hands out nor closes
module _ {A : Type 0} (does : Bearing → Option A) (no_hand : (x : ℕ) → does (hands x) ≡ None) (no_close : does closes ≡ None) where
  -- something opened, and the edges handed out since
  abbrev Opened : Type 0
  Opened = A × List ℕ

  -- in this history nothing stands, or this alone
  abbrev pub Alone : Option Opened → History → Type 0
  Alone None h = Since does h → ⊥
  Alone (Some o) h = Since does h × ((k : Since does h) → o ≡ (k.what, handed_out k.since))

  abbrev opened : Option A → Option Opened → Option Opened
  opened None o = o
  opened (Some a) None = Some (a, [])
  opened (Some a) (Some o) = Some o

  -- what stands behind an event of this bearing, if one thing stands at most
  abbrev pub on : Bearing → Option Opened → Option Opened
  on closes o = None
  on (hands x) o = option_map (λ o. (o.0, o.1 ++ (x ∷ []))) o
  on other o = opened (does other) o

  pub at_first : Since does [] → ⊥
  at_first k = nil_is_no_cons k.before k.event k.since k.split

  module _ (h : History) (e : Event) where
    -- what stands was opened by the last event, or stood before and was not closed by it
    data Lately (k : Since does (h ++ (e ∷ []))) : Type 0 where
      by_it : handed_out k.since ≡ [] → does (bearing e) ≡ Some k.what → Lately k
      before_it : (j : Since does h) → j.what ≡ k.what → handed_out j.since ++ edge_handed (bearing e) ≡ handed_out k.since → Lasting e → Lately k

    lately : (k : Since does (h ++ (e ∷ []))) → Lately k
    lately k = by (last h e k.before k.event k.since k.split)
      where
        by : Last h e k.before k.event k.since → Lately k
        by (here none same is) = by_it (ap handed_out none) (ap (λ x. does (bearing x)) is ∙ k.opens)
        by (inside rest more old) =
            let all = subst (All Lasting) more k.standing in
            before_it (record { before = k.before; event = k.event; what = k.what; opens = k.opens; since = rest; split = old; standing = front_of_all Lasting rest e all }) refl
            (sym (ap handed_out more ∙ handed_more rest e)) (end_of_all Lasting rest e all)

    still : Lasting e → Since does h → Since does (h ++ (e ∷ []))
    still lasting k = record {
      before = k.before;
      event = k.event;
      what = k.what;
      opens = k.opens;
      since = k.since ++ (e ∷ []);
      split = ap (λ l. l ++ (e ∷ [])) k.split ∙ append_assoc k.before (k.event ∷ k.since) (e ∷ []);
      standing = All-push Lasting k.since e k.standing lasting;
    }

    pub none_left : bearing e ≡ closes → Since does (h ++ (e ∷ [])) → ⊥
    none_left end k = by (lately k)
      where
        by : Lately k → ⊥
        by (by_it none is) = cc (ap does end)
        by (before_it j same more lasting) = lasting end

    none_yet : does (bearing e) ≡ None → (Since does h → ⊥) → Since does (h ++ (e ∷ [])) → ⊥
    none_yet shut none k = by (lately k)
      where
        by : Lately k → ⊥
        by (by_it new is) = cc
        by (before_it j same more lasting) = none j

    goes_on : does (bearing e) ≡ None → Lasting e → (o : Opened) → Alone (Some o) h → Alone (Some (o.0, o.1 ++ edge_handed (bearing e))) (h ++ (e ∷ []))
    goes_on shut lasting o (there, one) = (still lasting there, λ k. by k (lately k))
      where
        by : (k : Since does (h ++ (e ∷ []))) → Lately k → ◌≡◌ {A = Opened} (o.0, o.1 ++ edge_handed (bearing e)) (k.what, handed_out k.since)
        by k (by_it new is) = cc
        by k (before_it j same more _) = ap (λ p. (p.0, p.1 ++ edge_handed (bearing e))) (one j) ∙ ap₂ (λ a l. (a, l)) same more

    begins : (a : A) → does (bearing e) ≡ Some a → (Since does h → ⊥) → Alone (Some (a, [])) (h ++ (e ∷ []))
    begins a is none = (record { before = h; event = e; what = a; opens = is; since = []; split = refl; standing = All-nil Lasting }, λ k. by k (lately k))
      where
        by : (k : Since does (h ++ (e ∷ []))) → Lately k → ◌≡◌ {A = Opened} (a, []) (k.what, handed_out k.since)
        by k (by_it new same) = let what : a ≡ k.what = cc in ap₂ (λ x l. (x, l)) what (sym new)
        by k (before_it j same more lasting) = absurd (none j)

    other : (b : Bearing) → bearing e ≡ b → Lasting e → edge_handed b ≡ [] → (d : Option A) → does b ≡ d → (o : Option Opened) → (o ≡ None) ⊎ (d ≡ None) → Alone o h → Alone (opened d o) (h ++ (e ∷ []))
    other b is lasting none None shut None one alone = none_yet (ap does is ∙ shut) alone
    other b is lasting none None shut (Some o) one alone =
        subst (λ l. Alone (Some (o.0, l)) (h ++ (e ∷ []))) (ap (λ x. o.1 ++ x) (ap edge_handed is ∙ none) ∙ append-nil o.1) (goes_on (ap does is ∙ shut) lasting o alone)
    other b is lasting none (Some a) new None one alone = begins a (ap does is ∙ new) alone
    other b is lasting none (Some a) new (Some o) (inl one) alone = cc
    other b is lasting none (Some a) new (Some o) (inr one) alone = cc

    pub then : (b : Bearing) → bearing e ≡ b → (o : Option Opened) → (o ≡ None) ⊎ (does b ≡ None) → Alone o h → Alone (on b o) (h ++ (e ∷ []))
    then closes is o one alone = none_left is
    then (hands x) is None one alone = none_yet (ap does is ∙ no_hand x) alone
    then (hands x) is (Some o) one alone =
        subst (λ b. Alone (Some (o.0, o.1 ++ edge_handed b)) (h ++ (e ∷ []))) is (goes_on (ap does is ∙ no_hand x) (λ end. cc (is)) o alone)
    then (opens c) is o one alone = other (opens c) is (λ end. cc (is)) refl (does (opens c)) refl o one alone
    then voids is o one alone = other voids is (λ end. cc (is)) refl (does voids) refl o one alone
    then quiet is o one alone = other quiet is (λ end. cc (is)) refl (does quiet) refl o one alone
