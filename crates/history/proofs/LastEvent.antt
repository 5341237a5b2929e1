-- A history with one more event at its end.
use Rattle.std.proofs.Common.{◌≡◌, cond, List, [], ◌∷◌, ◌++◌, All, subst, arith, length-append, sym, refl, ap, ◌∙◌, append_assoc, append-nil}
use Rattle.std.proofs.lemmas.List.Elements.{All-contains, Contains-push}
use Rattle.std.proofs.lemmas.List.{get_or_append_left}
use Rattle.history.specs.History.{Event, History, accepted}
use Rattle.history.specs.Known.{edge_by, row_by, edges_of, rows_of, bearing, edge_handed, handed_out}

module _ {A : Type 0} where
  pub nil_is_no_cons : (ys : List A) (y : A) (zs : List A) → [] ≡ ys ++ (y ∷ zs) → ⊥
  nil_is_no_cons [] y zs e = cc
  nil_is_no_cons (x ∷ ys) y zs e = cc

  -- where y stands in xs with x at its end: it is that x, or it stands in xs
  pub data Last (xs : List A) (x : A) (ys : List A) (y : A) (zs : List A) : Type 0 where
    here : zs ≡ [] → xs ≡ ys → x ≡ y → Last xs x ys y zs
    inside : (rest : List A) → zs ≡ rest ++ (x ∷ []) → xs ≡ ys ++ (y ∷ rest) → Last xs x ys y zs

  under : (v w : A) (xs : List A) (x : A) (ys : List A) (y : A) (zs : List A) → v ≡ w → Last xs x ys y zs → Last (v ∷ xs) x (w ∷ ys) y zs
  under v w xs x ys y zs e (here a b c) = here a (cc) c
  under v w xs x ys y zs e (inside rest a b) = inside rest a (cc)

  pub last : (xs : List A) (x : A) (ys : List A) (y : A) (zs : List A) → xs ++ (x ∷ []) ≡ ys ++ (y ∷ zs) → Last xs x ys y zs
  last [] x [] y zs e = here (cc) refl (cc)
  last [] x (w ∷ ys) y zs e = absurd (nil_is_no_cons ys y zs (cc))
  last (v ∷ xs) x [] y zs e = inside xs (cc) (cc)
  last (v ∷ xs) x (w ∷ ys) y zs e = under v w xs x ys y zs (cc) (last xs x ys y zs (cc))

-- what holds of all of a list with x at its end
module _ {A : Type 0} (P : A → Type 0) (xs : List A) (x : A) (all : All P (xs ++ (x ∷ []))) where
  pub front_of_all : All P xs
  front_of_all = λ k d low. subst P (get_or_append_left xs (x ∷ []) d k low) (all k d (omega (arith, length-append xs (x ∷ []))))

  pub end_of_all : P x
  end_of_all = All-contains P (xs ++ (x ∷ [])) x all (Contains-push xs x)

-- what each event adds comes last
module _ {A : Type 0} (own : Event → List A) (all : History → List A) (none : all [] ≡ []) (first : (e : Event) (h : History) → all (e ∷ h) ≡ own e ++ all h) where
  added : (h : History) (e : Event) → all (h ++ (e ∷ [])) ≡ all h ++ own e
  added [] e = first e [] ∙ ap (λ l. own e ++ l) none ∙ append-nil (own e) ∙ sym (ap (λ l. l ++ own e) none)
  added (x ∷ h) e =
      first x (h ++ (e ∷ [])) ∙ ap (λ l. own x ++ l) (added h e) ∙ sym (append_assoc (own x) (all h) (own e)) ∙ sym (ap (λ l. l ++ own e) (first x h))

pub edges_more : (h : History) (e : Event) → edges_of (h ++ (e ∷ [])) ≡ edges_of h ++ cond (accepted e.answer) (edge_by e.call) []
edges_more = added (λ e. cond (accepted e.answer) (edge_by e.call) []) edges_of refl (λ e h. refl)

pub rows_more : (h : History) (e : Event) → rows_of (h ++ (e ∷ [])) ≡ rows_of h ++ cond (accepted e.answer) (row_by e.call) []
rows_more = added (λ e. cond (accepted e.answer) (row_by e.call) []) rows_of refl (λ e h. refl)

pub handed_more : (h : History) (e : Event) → handed_out (h ++ (e ∷ [])) ≡ handed_out h ++ edge_handed (bearing e)
handed_more = added (λ e. edge_handed (bearing e)) handed_out refl (λ e h. refl)
