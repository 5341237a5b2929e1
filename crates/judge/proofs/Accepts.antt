-- What an accepted claim and an accepted void claim say.
use Rattle.std.proofs.Common.{◌≡◌, ℕ, ◌^◌, ◌≤◌, Bool, true, List, length, ℤ, pos, All, IfOk, Ok, Err, sum, Result, sym, refl, ap, ◌∙◌, subst, arith}
use Rattle.std.proofs.lemmas.List.Elements.{All-from_get_or}
use Rattle.std.proofs.lemmas.List.Sums.{sum_by-le}
use Rattle.std.proofs.lemmas.Bool.Decides.{nat_tests}
use Rattle.price.specs.Laws.{Laws}
use Rattle.price.specs.Pairs.{Pair, zero}
use Rattle.price.specs.Ranges.{Both}
use Rattle.price.specs.declared.senses.Sense.{Sense}
use Rattle.price.specs.declared.senses.Sense.TheVariants.{Longest}
use Rattle.task.specs.EndsAnswer.{ends_answer}
use Rattle.task.specs.Rows.{Row, Keeps}
use Rattle.task.specs.Sealing.{Ends}
use Rattle.task.specs.Sound.{Sound}
use Rattle.task.specs.Turns.{price_of, turns_in}
use Rattle.task.specs.TurnsAnswer.{turns_answer}
use Rattle.task.specs.declared.edges.Edge.{Edge}
use Rattle.task.specs.declared.faults.GraphFault.{GraphFault}
use Rattle.task.specs.declared.faults.TurnsFault.{TurnsFault}
use Rattle.task.proofs.Checks.{answers, exactly as exactly_sound}
use Rattle.task.proofs.Flows.{claims}
use Rattle.task.proofs.Seals.{answer_says, exactly}
use Rattle.certificate.specs.Soundness.{NoneDearer}
use Rattle.certificate.specs.Tasks.{Answer, Task}
use Rattle.certificate.specs.TreeJudged.{TreeJudged, too_many_edges, too_many_rows, price_range, of_list}
use Rattle.certificate.specs.Verdicts as verdicts
use Rattle.certificate.proofs.Meanings.{judged}
use Rattle.certificate.proofs.AcceptedProves.{price_sound, void_sound}
use Rattle.walk.specs.Rule.{next}
use Rattle.walk.specs.Walks.{walk}
use Rattle.walk.proofs.WalkStands.{walk_stands}
use Rattle.judge.specs.Claiming.{Best, Accepted, Voided, task_between, claim_on, void_on}
use Rattle.judge.specs.Counts.{Few}
use Rattle.judge.specs.Drafting.{then_ask}
use Rattle.judge.specs.Stages.{stage_of, answers_ends, ends_held}
use Rattle.judge.specs.declared.refusals.Refusal.{Refusal}
use Rattle.judge.specs.declared.refusals.Refusal.TheVariants.{Tree, Turns}
use Rattle.judge.specs.declared.stages.Stage.{Stage}
use Rattle.judge.specs.declared.stages.Stage.TheVariants.{Sealed}

-- the ends that a case holds are those of its graph
held_ends : (es : List Edge) (s e : ℕ) (r : Result (ℕ × ℕ) GraphFault) → ends_answer es ≡ r → answers_ends r s e ≡ true → Ends es s e
held_ends es s e (Ok ends) is held =
    let first : ends.0 ≡ s = grind (arith, nat_tests) in
    let second : ends.1 ≡ e = grind (arith, nat_tests) in
    (exactly es (ends_answer es) s e (answer_says es)).0 (subst (λ both. ends_answer es ≡ Ok both) (λ i. (first i, second i)) is)
held_ends es s e (Err fault) is held = cc

pub sealed_ends : (es : List Edge) (s e : ℕ) (stage : Stage) (exits left : List ℕ) → stage ≡ Sealed s e → ends_held (stage_of stage exits left) es ≡ true → Ends es s e
sealed_ends es s e stage exits left is held = held_ends es s e (ends_answer es) refl (rw is at held)

-- both halves of a claim have passed
both_passed : (a : Result (Unit {0}) TurnsFault) (b : Answer) (c p : Pair) → then_ask Turns a (λ _. then_ask Tree b (λ _. Ok c)) ≡ Ok p → (a ≡ Ok tt) × (b ≡ Ok tt) × (c ≡ p)
both_passed (Ok _) (Ok _) c p is = (refl, refl, cc)
both_passed (Ok _) (Err fault) c p is = cc
both_passed (Err fault) b c p is = cc

tree_passed : (a : Answer) (u : Unit {0}) → then_ask Tree a (λ _. Ok u) ≡ Ok u → a ≡ Ok u
tree_passed (Ok _) u is = refl
tree_passed (Err fault) u is = cc

-- a tree that is accepted was judged for a price in its range
claimable : (le : Pair → Pair → Bool) (unit : Pair) (task : Task) (sense : Sense) (c : Pair) (xs : List ℤ) (answer : Answer) →
    TreeJudged le unit task sense c (pos 1000) xs answer → answer ≡ Ok tt → Both (2 ^ 42) c
claimable le unit task sense c xs answer (too_many_edges fault _) is = cc
claimable le unit task sense c xs answer (too_many_rows fault _ _) is = cc
claimable le unit task sense c xs answer (price_range fault _ _ _) is = cc
claimable le unit task sense c xs answer (of_list _ _ small _) is = small

module _ (sense : Sense) (no_better : Pair → Pair → Bool) (unit : Pair) (es : List Edge) (rows : List Row) (s e : ℕ) (ts : List ℕ) (xs : List ℤ) (p : Pair)
    (is : claim_on sense no_better unit (task_between es rows s e) ts xs ≡ Ok p) where
  passed : (turns_answer es rows s e ts ≡ Ok tt) × (verdicts.price_answer no_better unit (task_between es rows s e) sense (price_of sense es ts) xs ≡ Ok tt) × (price_of sense es ts ≡ p)
  passed = both_passed (turns_answer es rows s e ts) (verdicts.price_answer no_better unit (task_between es rows s e) sense (price_of sense es ts) xs) (price_of sense es ts) p is

  pub price_is : p ≡ price_of sense es ts
  price_is = sym passed.2

  pub small_price : Both (2 ^ 42) p
  small_price =
      let c = price_of sense es ts in
      let task = task_between es rows s e in
      subst (Both (2 ^ 42)) passed.2 (claimable no_better unit task sense c xs _ (judged no_better unit task sense c (pos 1000) xs) passed.1)

  -- the turns of a claim that passed are sound, and few
  pub sound_turns : Sound es rows s e ts
  sound_turns = (exactly_sound es rows s e ts (turns_answer es rows s e ts) (answers es rows s e ts (turns_answer es rows s e ts) refl)).0 passed.0

  pub few_turns : length es ≤ 64 → Few ts
  few_turns few =
      let each : All (λ t. t ≤ 1048575) ts = All-from_get_or (λ t. t ≤ 1048575) ts 0 (λ i low. sound_turns.few i (omega (arith, sound_turns.sized))) in
      let long : length ts ≤ 64 = omega (arith, sound_turns.sized) in
      record { edges = long; turns = omega (arith, sum_by-le (λ t. t) 1048575 ts each) }

  module _ (laws : Laws no_better unit) (ends : Ends es s e) where
    -- its price is the best, and a run of that price has just these turns
    pub best_between : (best : Best sense no_better es rows p) × (turns_in es best.run ≡ ts)
    best_between =
        let none_better = price_sound no_better unit (task_between es rows s e) sense (price_of sense es ts) (pos 1000) xs laws _ (judged no_better unit (task_between es rows s e) sense (price_of sense es ts) (pos 1000) xs) passed.1 (record { start = ends.start; end = ends.end }) in
        let whole = (walk_stands es s e ts ends (claims es rows s e ts sound_turns ends)).whole in (
          record {
            run = walk es (next es ts e) (sum ts) ts s;
            keeps = record { is_run = whole.is_run; keeps = subst (λ turns. All (Keeps es turns) rows) (sym whole.exact) sound_turns.keeps };
            price = ap (price_of sense es) whole.exact ∙ passed.2;
            none_better = subst (NoneDearer no_better (task_between es rows s e) sense) passed.2 none_better;
          },
          whole.exact,
        )

    pub claim_between : Accepted sense no_better es rows ts p
    claim_between = record { start = s; end = e; ends = ends; sound = sound_turns; price = sym passed.2; best = best_between.0; claimed = best_between.1 }

module _ (le : Pair → Pair → Bool) (unit : Pair) (laws : Laws le unit) (es : List Edge) (rows : List Row) where
  pub void_between : (xs : List ℤ) (s e : ℕ) → Ends es s e → void_on le unit (task_between es rows s e) xs ≡ Ok tt → Voided es rows
  void_between xs s e ends is =
      let task = task_between es rows s e in
      record {
        start = s;
        end = e;
        ends = ends;
        no_run = void_sound le unit task Longest zero xs laws _ (judged le unit task Longest zero (pos 0) xs) (tree_passed (verdicts.void_answer le unit task xs) tt is) (record { start = ends.start; end = ends.end });
      }

pub few_if_passed : (sense : Sense) (no_better : Pair → Pair → Bool) (unit : Pair) (es : List Edge) (rows : List Row) (s e : ℕ) (ts : List ℕ) (xs : List ℤ) (r : Result Pair Refusal) → length es ≤ 64 →
    r ≡ claim_on sense no_better unit (task_between es rows s e) ts xs → IfOk r (λ _. Few ts)
few_if_passed sense no_better unit es rows s e ts xs (Ok p) few is = few_turns sense no_better unit es rows s e ts xs p (sym is) few
few_if_passed sense no_better unit es rows s e ts xs (Err refusal) few is = tt
