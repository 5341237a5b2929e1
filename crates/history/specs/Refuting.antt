-- Answers of hollow programs, which the rules refute. The task is a loop of four edges whose retry turns at most three times as often as its entry.
use Rattle.std.specs.Prelude.{◌≡◌, ℕ, Bool, false, List, [], ◌∷◌, ◌++◌, ℤ, pos, negsuc, ◌≢◌}
use Rattle.history.specs.Answers.{number, ends, price, next, done, agreed, refused, told as tells}
use Rattle.judge.specs.Reports.{State}
use Rattle.history.specs.Calls.{edge_with, row, seal, claim, void, step, withdraw, told}
use Rattle.history.specs.History.{History, ◌gives◌, with_call}
use Rattle.history.specs.Rules.{Rules}
use Rattle.price.specs.Pairs.{Pair}
use Rattle.judge.specs.declared.refusals.Refusal.{Refusal}
use Rattle.judge.specs.declared.refusals.Refusal.TheVariants.{EdgeRepeated}

-- four edges, a refused fifth, a row, and the end of the draft
abbrev pub task : History
task =
    edge_with 0 1 0 20 1 gives number 0
    ∷ edge_with 1 2 1 50 4 gives number 1
    ∷ edge_with 2 1 2 5 0 gives number 2
    ∷ edge_with 2 3 3 10 2 gives number 3
    ∷ edge_with 2 3 9 9 9 gives refused EdgeRepeated
    ∷ row (pos 1) (pos 0) (negsuc 2 ∷ pos 0 ∷ pos 1 ∷ []) gives number 0
    ∷ seal gives ends 0 3
    ∷ []

abbrev pub turns : List ℕ
turns = 1 ∷ 4 ∷ 3 ∷ 1 ∷ []

-- an accepted claim at this price, backed by any tree, and one step
abbrev pub certified : List ℤ → Pair → History
certified tree p = task ++ (claim turns tree gives price p ∷ (step gives next 0 ∷ []))

-- what these turns cost
abbrev pub cost : Pair
cost = (pos 245, pos 19)

-- whatever the tariff, the tree and the claimed price
pub record Refuted (le : Pair → Pair → Bool) (tree : List ℤ) (p : Pair) : Type 0 where
  -- stage 2 or stage 3 with no claim made
  pub unclaimed : (state : State) → state.stage ≡ 2 → Rules le (told gives tells state ∷ []) → ⊥
  pub unvoided : (state : State) → state.stage ≡ 3 → Rules le (told gives tells state ∷ []) → ⊥
  -- stage 2 once the claim is withdrawn, and another stage before
  pub withdrawn : (state : State) → state.stage ≡ 2 → Rules le (with_call (with_call (certified tree p) withdraw agreed) told (tells state)) → ⊥
  pub hidden : (state : State) → (state.stage ≢ 2) → Rules le (with_call (certified tree p) told (tells state)) → ⊥
  -- a price cheaper than some run that keeps every row, or another than that of the claimed turns
  pub too_cheap : le cost p ≡ false → Rules le (certified tree p) → ⊥
  pub made_up_price : (p ≢ cost) → Rules le (certified tree p) → ⊥
  pub untold_price : (state : State) → (state.price ≢ p) → Rules le (with_call (certified tree p) told (tells state)) → ⊥
  -- a step that refuses, repeats itself, leaves out the loop, or is done too early
  pub stuck : (refusal : Refusal) → Rules le (with_call (certified tree p) step (refused refusal)) → ⊥
  pub repeats : Rules le (with_call (certified tree p) step (next 0)) → ⊥
  pub leaves_early : Rules le (with_call (with_call (certified tree p) step (next 1)) step (next 3)) → ⊥
  pub done_early : Rules le (with_call (certified tree p) step done) → ⊥
  -- made-up counts of steps and of turns left
  pub made_up_steps : (state : State) → (state.steps ≢ 1) → Rules le (with_call (certified tree p) told (tells state)) → ⊥
  pub made_up_left : (state : State) → (state.left ≢ 8) → Rules le (with_call (certified tree p) told (tells state)) → ⊥
  -- told that refuses
  pub silent : (refusal : Refusal) → Rules le (told gives refused refusal ∷ []) → ⊥
  -- void, although a run keeps every row
  pub void_with_a_run : Rules le (with_call task (void tree) agreed) → ⊥

abbrev pub HollowAnswersRefuted : Type 0
HollowAnswersRefuted = (le : Pair → Pair → Bool) (tree : List ℤ) (p : Pair) → Refuted le tree p
