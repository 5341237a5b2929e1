-- What holds of the answer of a chain, by what holds of the answers in it.
use Rattle.std.proofs.Common.{◌≡◌, Bool, true, cond, Some, None, Option, refl}
use Rattle.std.specs.Option.{IfSome, option_and_then, option_map, option_map_or}
use Rattle.std.proofs.lemmas.Bool.{cond_both}

module _ {A B : Type 0} where
  pub and_then_holds : (f : A → Option B) (o : Option A) {P : A → Type 0} (Q : B → Type 0) → IfSome o P → ((x : A) → P x → IfSome (f x) Q) →
      IfSome (option_and_then f o) Q
  and_then_holds f None Q h next = tt
  and_then_holds f (Some x) Q h next = next x h

  pub map_holds : (f : A → B) (o : Option A) {P : A → Type 0} (Q : B → Type 0) → IfSome o P → ((x : A) → P x → Q (f x)) → IfSome (option_map f o) Q
  map_holds f None Q h next = tt
  map_holds f (Some x) Q h next = next x h

  pub or_holds : (f : A → Option B) (o : Option A) (other : Option B) {P : A → Type 0} (Q : B → Type 0) → IfSome o P → ((x : A) → P x → IfSome (f x) Q) →
      IfSome other Q → IfSome (option_map_or f o other) Q
  or_holds f None other Q h next last = last
  or_holds f (Some x) other Q h next last = next x h

-- what is answered only if a test passes
pub test_holds : {A : Type 0} (b : Bool) (o : Option A) (Q : A → Type 0) → (b ≡ true → IfSome o Q) → IfSome (cond b o None) Q
test_holds b o Q passed = cond_both b o None (λ r. IfSome r Q) passed (λ failed. tt)

pub none_holds : {A : Type 0} (o : Option A) → IfSome o (λ x. ⊥) → None ≡ o
none_holds None h = refl
none_holds (Some x) h = absurd h
