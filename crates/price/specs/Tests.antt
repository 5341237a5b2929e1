-- Tests by what they tell, passed and failed: for proofs of the laws of a tariff.
use Rattle.std.specs.Prelude.{◌≡◌, Bool, true, false, not, ◌&&◌, ◌||◌, T, IsTrue, ◌⊎◌, refl}
use Rattle.std.proofs.Common.{inl, inr, sym, ◌∙◌, subst}
use Rattle.std.proofs.lemmas.Bool.{both_ways, not-true}

-- a test passes if it cannot fail, and fails if it cannot pass
pub holds : (t : Bool) → (T (not t) → ⊥) → T t
holds true h = tt
holds false h = h tt

pub fails : (t : Bool) → (T t → ⊥) → T (not t)
fails true h = h tt
fails false h = tt

-- no test passes and fails
pub clash : (t : Bool) → IsTrue t → IsTrue (not t) → ⊥
clash t h n = both_ways t (not-true t n) h

-- every test passes or fails
pub by_test : (t : Bool) → T t ⊎ T (not t)
by_test true = inl tt
by_test false = inr tt

-- an answer to the test t, as a call returned it
pub told_yes : {r t : Bool} → r ≡ t → r ≡ true → T t
told_yes e yes! = subst T (sym yes! ∙ e) tt

pub told_no : {r t : Bool} → r ≡ t → r ≡ false → T (not t)
told_no e no! = subst (λ b. T (not b)) (sym no! ∙ e) tt

pub is_yes : (t : Bool) → T t → true ≡ t
is_yes true h = refl
is_yes false h = absurd h

-- one of two tests passes if they cannot both fail
pub either : (t u : Bool) → (T (not t) → T (not u) → ⊥) → T t ⊎ T u
either true u h = inl tt
either false true h = inr tt
either false false h = absurd (h tt tt)

-- first by x, then by y and z
pub ranked : (x y z : Bool) → T (x || (y && z)) → T x ⊎ (T y × T z)
ranked true y z h = inl tt
ranked false true z h = inr (tt, h)
ranked false false z h = absurd h

pub unranked : (x y z : Bool) → T (not (x || (y && z))) → T (not x) × (T (not y) ⊎ T (not z))
unranked true y z h = absurd h
unranked false true z h = (tt, inr h)
unranked false false z h = (tt, inl tt)
