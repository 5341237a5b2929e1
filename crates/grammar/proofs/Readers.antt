-- A reader takes from the front of a text just what a writer writes.
use Rattle.std.proofs.Common.{◌≡◌, ℕ, eqb, List, [], ◌∷◌, ◌++◌, Some, None, Option, sym, refl, ap, ◌∙◌, Bor, MatchOption}
use Rattle.std.specs.Option.{IfSome, option_and_then, option_map}
use Rattle.std.proofs.lemmas.Bool.{cond-true, eq-eqb, eqb-true}
use Rattle.std.proofs.lemmas.Option.{IfSome_then}
use Rattle.grammar.specs.Numbers.{after}
use Rattle.grammar.proofs.Chains.{and_then_holds, test_holds, none_holds}

-- ---- a mark

pub after_mark : (mark rest : List ℕ) → after mark (mark ++ rest) ≡ Some rest
after_mark [] rest = refl
after_mark (m ∷ ms) rest = cond-true (eqb m m) _ _ (eq-eqb m m refl) ∙ after_mark ms rest

pub mark_before : (mark text : List ℕ) → IfSome (after mark text) (λ rest. mark ++ rest ≡ text)
mark_before [] text = refl
mark_before (m ∷ ms) [] = tt
mark_before (m ∷ ms) (c ∷ cs) =
    test_holds (eqb m c) (after ms cs) _ (λ e. let same = eqb-true m c e in IfSome_then (after ms cs) (mark_before ms cs) (λ rest more. cc))

pub no_mark : (mark text : List ℕ) → ((rest : List ℕ) → mark ++ rest ≡ text → ⊥) → None ≡ after mark text
no_mark mark text no_rest = none_holds (after mark text) (IfSome_then (after mark text) (mark_before mark text) no_rest)

-- what `strip_prefix` says
pub after_is : (text mark : List ℕ) (r : Option (Bor (List ℕ))) →
    MatchOption r ((rest : List ℕ) → text ≡ mark ++ rest → ⊥) (λ x. text ≡ mark ++ x.now) → option_map (λ x. x.now) r ≡ after mark text
after_is text mark None h = no_mark mark text (λ rest e. h rest (sym e))
after_is text mark (Some x) h = sym (after_mark mark x.now) ∙ ap (after mark) (sym h)

-- ---- a number

-- a number ends where the text ends or at a blank
abbrev pub Ends : List ℕ → Type 0
Ends [] = Unit {0}
Ends (c ∷ cs) = c ≡ 32

-- a value and the text after it, as they stand in a text
abbrev pub Found : {A : Type 0} → (A → List ℕ) → (A → Type 0) → List ℕ → A × List ℕ → Type 0
Found written Within text p = (written p.0 ++ p.1 ≡ text) × Within p.0 × Ends p.1

pub record Reads {A : Type 0} (read : List ℕ → Option (A × List ℕ)) (written : A → List ℕ) (Within : A → Type 0) : Type 0 where
  pub sound : (text : List ℕ) → IfSome (read text) (Found written Within text)
  pub complete : (a : A) (rest : List ℕ) → Within a → Ends rest → read (written a ++ rest) ≡ Some (a, rest)

-- the same after one blank
pub reads_after : {A : Type 0} (read : List ℕ → Option (A × List ℕ)) (written : A → List ℕ) (Within : A → Type 0) → Reads read written Within →
    Reads (λ text. option_and_then read (after (32 ∷ []) text)) (λ a. 32 ∷ written a) Within
reads_after read written Within reads = record {
  sound = λ text. and_then_holds read (after (32 ∷ []) text) _ (mark_before (32 ∷ []) text) (λ more blank.
      IfSome_then (read more) (reads.sound more) (λ p s. (cc, s.1, s.2)));
  complete = reads.complete;
}
