-- The turns of a loop that performs a list of calls.
use Rattle.std.proofs.Common.{◌≡◌, ℕ, suc, ◌+◌, ◌<◌, Bool, List, [], ◌∷◌, ◌++◌, length, get_or, take, sym, refl, ap, ◌∙◌, subst₂, add-one, arith, Result}
use Rattle.price.specs.Pairs.{Pair}
use Rattle.judge.specs.declared.refusals.Refusal.{Refusal}
use Rattle.history.specs.Answers.{Said, said}
use Rattle.history.specs.Calls.{Request, request}
use Rattle.judge.specs.Cases.{Contents}
use Rattle.history.specs.History.{History, ◌gives◌, with_call, history}
use Rattle.history.specs.Performing.{answered, after}
use Rattle.history.specs.Reaching.{Reached, one_more}
use Rattle.history.specs.declared.calls.Answer.{Answer}
use Rattle.history.specs.declared.calls.Call.{Call}

module _ (le : Pair → Pair → Bool) (unit : Pair) where
  -- one call more, with the answer that the case gave
  pub goes_on : (h : History) (c d : Contents) (q : Request) (a : Said) → a ≡ answered le unit c q → d ≡ after le unit c q → Reached le unit h c → Reached le unit (with_call h q a) d
  goes_on h c d q a is kept r = subst₂ (λ x y. Reached le unit (with_call h q x) y) (sym is) (sym kept) (one_more q r)

history_more : (calls : List Call) (answers : List (Result Answer Refusal)) (a : Result Answer Refusal) (d : Call) → length answers < length calls →
    history (take (suc (length answers)) calls) (answers ++ (a ∷ [])) ≡ with_call (history (take (length answers) calls) answers) (request (get_or calls (length answers) d)) (said a)
history_more [] answers a d h = absurd (omega arith)
history_more (c ∷ calls) [] a d h = refl
history_more (c ∷ calls) (x ∷ answers) a d h = ap (λ l. request c gives said x ∷ l) (history_more calls answers a d (omega arith))

pub history_step : (calls : List Call) (answers more : List (Result Answer Refusal)) (i : ℕ) (a : Result Answer Refusal) (d : Call) → length answers ≡ i → i < length calls → more ≡ answers ++ (a ∷ []) →
    history (take (i + 1) calls) more ≡ with_call (history (take i calls) answers) (request (get_or calls i d)) (said a)
history_step calls answers more i a d long h pushed =
    ap (λ l. history (take (i + 1) calls) l) pushed ∙ ap (λ n. history (take n calls) (answers ++ (a ∷ []))) (add-one i ∙ ap suc (sym long))
    ∙ history_more calls answers a d (omega arith) ∙ ap (λ n. with_call (history (take n calls) answers) (request (get_or calls n d)) (said a)) long
