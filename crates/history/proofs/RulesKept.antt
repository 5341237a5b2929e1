-- Every history of a fresh case keeps the rules.
use Rattle.std.proofs.Common.{◌≡◌, ℕ, ◌+◌, Bool, true, false, ◌⊎◌, ◌↔◌, List, [], ◌∷◌, ◌++◌, length, Some, None, Ok, Err, sum, Option, Result, All, sym, refl, ap, ◌∙◌, subst, subst₂, inl, inr, append-nil, arith}
use Rattle.price.specs.Laws.{Laws}
use Rattle.price.specs.Pairs.{Pair}
use Rattle.price.specs.Senses.{no_better}
use Rattle.price.specs.declared.senses.Sense.{Sense}
use Rattle.price.specs.declared.senses.Sense.TheVariants.{Longest}
use Rattle.task.specs.Rows.{Row, KeepsAll}
use Rattle.task.specs.declared.edges.Edge.{Edge}
use Rattle.walk.specs.WalkAt.{Stepped}
use Rattle.walk.specs.Walks.{Begun}
use Rattle.judge.specs.Cases.{Contents}
use Rattle.judge.specs.Claiming.{Best, claim_answer, void_answer}
use Rattle.judge.specs.Drafting.{edge_answer, row_answer, seal_answer}
use Rattle.judge.specs.Handing.{next_of, step_in, step_answer, withdraw_answer, told_in, told_answer}
use Rattle.judge.specs.Reports.{stage_number, only_stage}
use Rattle.judge.specs.Stages.{Stage, Standing, draft, sealed, standing, void as voided}
use Rattle.judge.specs.declared.refusals.Refusal.{Refusal}
use Rattle.judge.specs.declared.stages.Proof.{Proof}
use Rattle.judge.specs.declared.stages.Proof.TheVariants.{Certified}
use Rattle.history.specs.Answers.{Said, numbered, ended, priced, stepped, next_or_done, unless_refused, number, ends, price, next, done, agreed, told as tells}
use Rattle.history.specs.Calls.{Request, edge, row, seal, claim, void, step, withdraw, told}
use Rattle.history.specs.History.{Event, History, ◌gives◌, accepted, Answers, Moment, Begins}
use Rattle.history.specs.Known.{Claimed, Stands, Void, steps, turns_left}
use Rattle.history.specs.Performing.{answered}
use Rattle.history.specs.Reaching.{Reached, start, one_more}
use Rattle.history.specs.Rules.{HandsOut, Tells, Rules}
use Rattle.history.proofs.EveryCall.{meaning}
use Rattle.history.proofs.HandedOut.{begun, left_same, hands_out}
use Rattle.history.proofs.LastEvent.{nil_is_no_cons, Last, here, inside, last}
use Rattle.history.proofs.Meaning.{Low, Holds, OneClaim, ByStage, Meaning}
use Rattle.history.proofs.Stepping.{step_says}

-- ---- what led to each moment

module _ (le : Pair → Pair → Bool) (unit : Pair) where
  -- what the case held that answered an event of the history
  record Answered (past : History) (e : Event) : Type 0 where
    held : Contents
    reached : Reached le unit past held
    says : e.answer ≡ answered le unit held e.call

  answered_at : {h : History} {c : Contents} → Reached le unit h c → (past : History) (e : Event) (later : History) → h ≡ past ++ (e ∷ later) → Answered past e
  answered_at start past e later split = absurd (nil_is_no_cons past e later split)
  answered_at (one_more {h} {c} q r) past e later split = by (answered_at r past e) (last h _ past e later split)
    where
      by : ((rest : History) → h ≡ past ++ (e ∷ rest) → Answered past e) → Last h (q gives answered le unit c q) past e later → Answered past e
      by earlier (here none same is) =
          let says : e.answer ≡ answered le unit c e.call = sym (ap (λ x. x.answer) is) ∙ ap (answered le unit c) (ap (λ x. x.call) is) in
          record { held = c; reached = subst (λ l. Reached le unit l c) same r; says = says }
      by earlier (inside rest more old) = earlier rest old

  begun_at : {h : History} {c : Contents} → Reached le unit h c → (past : History) → Begins past h → (d : Contents) × Reached le unit past d
  begun_at {h} {c} r past (later, split) = by later split
    where
      by : (later : History) → h ≡ past ++ later → (d : Contents) × Reached le unit past d
      by [] s = (c, subst (λ l. Reached le unit l c) (s ∙ append-nil past) r)
      by (e ∷ l) s = let a = answered_at r past e l s in (a.held, a.reached)

  -- ---- the kind of every answer

  agreed_kind : (r : Result (Unit {0}) Refusal) → (accepted (unless_refused r) ≡ false) ⊎ (unless_refused r ≡ agreed)
  agreed_kind (Ok _) = inr refl
  agreed_kind (Err refusal) = inl refl

  numbered_kind : (r : Result ℕ Refusal) → (accepted (numbered r) ≡ false) ⊎ ((n : ℕ) × (numbered r ≡ number n))
  numbered_kind (Ok n) = inr (n, refl)
  numbered_kind (Err refusal) = inl refl

  kind : (c : Contents) (q : Request) → (accepted (answered le unit c q) ≡ false) ⊎ Answers q (answered le unit c q)
  kind c (edge new) = numbered_kind (edge_answer c new)
  kind c (row relation k cs) = numbered_kind (row_answer c relation k cs)
  kind c seal = by (seal_answer c)
    where
      by : (r : Result (ℕ × ℕ) Refusal) → (accepted (ended r) ≡ false) ⊎ ((s : ℕ) × ((e : ℕ) × (ended r ≡ ends s e)))
      by (Ok both) = inr (both.0, (both.1, refl))
      by (Err refusal) = inl refl
  kind c (claim ts xs) = by (claim_answer Longest le unit c ts xs)
    where
      by : (r : Result Pair Refusal) → (accepted (priced r) ≡ false) ⊎ ((p : Pair) × (priced r ≡ price p))
      by (Ok p) = inr (p, refl)
      by (Err refusal) = inl refl
  kind c (void xs) = agreed_kind (void_answer le unit c xs)
  kind c step = by (step_answer c)
    where
      by : (r : Result (Option ℕ) Refusal) → (accepted (stepped r) ≡ false) ⊎ ((stepped r ≡ done) ⊎ ((x : ℕ) × (stepped r ≡ next x)))
      by (Ok None) = inr (inl refl)
      by (Ok (Some x)) = inr (inr (x, refl))
      by (Err refusal) = inl refl
  kind c withdraw = agreed_kind (withdraw_answer c)
  kind c told = inr (told_answer c, refl)

-- ---- what each stage makes of told and step

-- no stage has two meanings
same_stage : (s t : Sense) (p q : Proof) → stage_number s p ≡ stage_number t q → (s ≡ t) × (p ≡ q)
same_stage Longest Longest Certified Certified is = (refl, refl)

past_sealed : (s : Sense) (p : Proof) → stage_number s p ≡ 2
past_sealed Longest Certified = refl

module _ (le : Pair → Pair → Bool) (h : History) where
  -- what is held of the claim that stands, by what was claimed
  record Facts (es : List Edge) (rows : List Row) (s e : ℕ) (held : Standing) (what : Claimed) (handed : List ℕ) : Type 0 where
    sense_is : held.sense ≡ what.sense
    proof_is : held.proof ≡ what.proof
    price_is : held.price ≡ what.price
    holds : Holds le es rows s e held what.turns handed

  facts : (es : List Edge) (rows : List Row) (s e : ℕ) (held : Standing) → (by : OneClaim le h es rows s e held) → (k : Stands h) → Facts es rows s e held k.what (steps k)
  facts es rows s e held by k = subst (λ o. Facts es rows s e held o.0 o.1) (by.stood.0.1 k) (record { sense_is = refl; proof_is = refl; price_is = refl; holds = by.holds })

  -- a case in which a claim stands
  record Underway (c : Contents) (k : Stands h) : Type 0 where
    start : ℕ
    end : ℕ
    held : Standing
    stage_is : c.stage ≡ standing start end held
    its : Facts c.edges c.rows start end held k.what (steps k)

  underway : (c : Contents) → Meaning le h c → (k : Stands h) → Underway c k
  underway c m k = by c.stage refl m.stage
    where
      by : (stage : Stage) → c.stage ≡ stage → ByStage le h c.edges c.rows stage → Underway c k
      by draft is none = absurd (none.0 k)
      by (sealed s e) is (none, two) = absurd (none.0 k)
      by (standing s e held) is there = record { start = s; end = e; held = held; stage_is = is; its = facts c.edges c.rows s e held there k }
      by (voided s e) is (handed, (stood, two, no_run)) = absurd (stood.0 k)

  best_there : (c : Contents) (k : Stands h) → Underway c k → k.what.proof ≡ Certified → Best k.what.sense (no_better k.what.sense le) c.edges c.rows k.what.price
  best_there c k u proved =
      subst₂ (λ sense p. Best sense (no_better sense le) c.edges c.rows p) u.its.sense_is u.its.price_is (u.its.holds.best (u.its.proof_is ∙ proved))

  none_void : (c : Contents) → Meaning le h c → Void h → (run : List ℕ) → KeepsAll c.edges c.rows run → ⊥
  none_void c m v = by c.stage m.stage
    where
      by : (stage : Stage) → ByStage le h c.edges c.rows stage → (run : List ℕ) → KeepsAll c.edges c.rows run → ⊥
      by draft none run keeps = none.1 v
      by (sealed s e) (none, two) run keeps = none.1 v
      by (standing s e held) there run keeps = there.stood.1 v
      by (voided s e) (handed, (stood, two, no_run)) run keeps = no_run run keeps

  -- where no claim stands told shows the stage alone
  idle_tells : (n : ℕ) → ((s : Sense) (p : Proof) → n ≡ stage_number s p → ⊥) → (Stands h → ⊥) → ((n ≡ 3) ↔ Void h) → Tells h (only_stage n)
  idle_tells n other none voids = record {
    stands = λ s p. (λ is. absurd (other s p is), λ k. absurd (none k.0));
    price = λ k. absurd (none k);
    void = voids;
    steps_told = λ k. absurd (none k);
    left_told = λ k. absurd (none k);
    together = λ k. absurd (none k);
    idle = λ _. (refl, refl, refl);
  }

  module _ (es : List Edge) (rows : List Row) where
    module _ (s e : ℕ) (held : Standing) (k : Stands h) (its : Facts es rows s e held k.what (steps k)) where
      its_begun : Begun es s e k.what.turns (steps k)
      its_begun = begun es rows s e k.what.turns its.holds.ends its.holds.sound (steps k) its.holds.stands.follows

      left_is : held.walk.left ≡ turns_left k.what.turns (steps k)
      left_is = sym its.holds.stands.left_is ∙ left_same es rows s e k.what.turns its.holds.ends its.holds.sound (steps k) its.holds.stands.follows

      sums : sum held.walk.left + length (steps k) ≡ held.walk.all
      sums = omega (arith, its_begun.left, ap sum its.holds.stands.left_is, its.holds.all_is)

      ends_when : (held.walk.at ≡ e) ↔ (length (steps k) ≡ sum k.what.turns)
      ends_when = (λ there. its_begun.done.0 (its.holds.stands.at_is ∙ there), λ all. sym its.holds.stands.at_is ∙ its_begun.done.1 all)

    tells_by : (stage : Stage) → ByStage le h es rows stage → Tells h (told_in stage)
    tells_by draft none = idle_tells 0 (λ t p is. omega (arith, past_sealed t p)) none.0 (λ is. absurd (omega arith), λ v. absurd (none.1 v))
    tells_by (sealed s e) (none, two) = idle_tells 1 (λ t p is. omega (arith, past_sealed t p)) none.0 (λ is. absurd (omega arith), λ v. absurd (none.1 v))
    tells_by (voided s e) (handed, (stood, two, no_run)) = idle_tells 3 (λ t p is. omega (arith, past_sealed t p)) stood.0 (λ _. stood.1.0, λ _. refl)
    tells_by (standing s e held) by =
        let its : (k : Stands h) → Facts es rows s e held k.what (steps k) = facts es rows s e held by in
        let there : Stands h = by.stood.0.0 in
        record {
          stands = λ t p. (
            λ is. let same = same_stage held.sense t held.proof p is in (there, sym (its there).sense_is ∙ same.0, sym (its there).proof_is ∙ same.1),
            λ k. (λ i. stage_number (((its k.0).sense_is ∙ k.1) i) (((its k.0).proof_is ∙ k.2) i)),
          );
          price = λ k. (its k).price_is;
          void = (λ is. absurd (omega (arith, past_sealed held.sense held.proof)), λ v. absurd (by.stood.1 v));
          steps_told = λ k. omega (arith, sums s e held k (its k));
          left_told = λ k. ap sum (left_is s e held k (its k));
          together = λ k. omega (arith, sums s e held k (its k), (its k).holds.all_is);
          idle = λ none. absurd (none there);
        }

    module _ (low : All Low es) (s e : ℕ) (held : Standing) (k : Stands h) (its : Facts es rows s e held k.what (steps k)) where
      step_goes : accepted (stepped (step_in (standing s e held) es)) ≡ true
      step_goes = by (next_of es e held.walk)
        where
          by : (r : Option ℕ) → accepted (next_or_done r) ≡ true
          by None = refl
          by (Some x) = refl

      step_ends : (stepped (step_in (standing s e held) es) ≡ done) ↔ (length (steps k) ≡ sum k.what.turns)
      step_ends = by (next_of es e held.walk) (step_says le es rows s e held k.what.turns (steps k) low its.holds (next_of es e held.walk) refl)
        where
          by : (r : Option ℕ) → Stepped es s e k.what.turns (steps k) held.walk.left held.walk.at r → (next_or_done r ≡ done) ↔ (length (steps k) ≡ sum k.what.turns)
          by None there = (λ _. (ends_when s e held k its).0 there, λ _. refl)
          by (Some x) more = (λ is. cc, λ all. absurd (more.off ((ends_when s e held k its).1 all)))

-- ---- the rules

module _ (le : Pair → Pair → Bool) (unit : Pair) (laws : Laws le unit) where
  pub kept : {h : History} {c : Contents} → Reached le unit h c → Rules le h
  kept {h} {c} r = record {
    kinds = λ past q a m. let d = there past q a m in subst (λ x. (accepted x ≡ false) ⊎ Answers q x) (sym d.says) (kind le unit d.held q);
    told_accepts = λ past a m. ap accepted (there past told a m).says;
    told_tells = λ past state m. let d = there past told (tells state) m in let says = d.says in
        let same : told_answer d.held ≡ state = cc in
        subst (Tells past) same (tells_by le past d.held.edges d.held.rows d.held.stage (meaning le unit laws d.reached).stage);
    best = λ past b k proved. let d = begun_at le unit r past b in let n = meaning le unit laws d.1 in
        subst₂ (λ es rows. Best k.what.sense (no_better k.what.sense le) es rows k.what.price) (sym n.edges) (sym n.rows) (best_there le past d.0 k (underway le past d.0 n k) proved);
    hands_out = λ past b k. let d = begun_at le unit r past b in let n = meaning le unit laws d.1 in let u = underway le past d.0 n k in let holds = u.its.holds in
        subst₂ (λ es rows. HandsOut k.what.sense es rows k.what.turns k.what.price (steps k)) (sym n.edges) (sym n.rows)
        (subst₂ (λ sense p. HandsOut sense d.0.edges d.0.rows k.what.turns p (steps k)) u.its.sense_is u.its.price_is
        (hands_out d.0.edges d.0.rows u.start u.end k.what.turns holds.ends holds.sound u.held.sense u.held.price holds.costs (steps k) holds.stands.follows));
    step_accepts = λ past a m k. let d = there past step a m in let n = meaning le unit laws d.reached in let u = underway le past d.held n k in
        ap accepted d.says ∙ ap (λ stage. accepted (stepped (step_in stage d.held.edges))) u.stage_is
        ∙ step_goes le past d.held.edges d.held.rows n.low u.start u.end u.held k u.its;
    step_done = λ past a m k. let d = there past step a m in let n = meaning le unit laws d.reached in let u = underway le past d.held n k in
        subst (λ x. (x ≡ done) ↔ (length (steps k) ≡ sum k.what.turns)) (sym (d.says ∙ ap (λ stage. stepped (step_in stage d.held.edges)) u.stage_is))
        (step_ends le past d.held.edges d.held.rows n.low u.start u.end u.held k u.its);
    no_run = λ past b v. let d = begun_at le unit r past b in let n = meaning le unit laws d.1 in
        subst₂ (λ es rows. (run : List ℕ) → KeepsAll es rows run → ⊥) (sym n.edges) (sym n.rows) (none_void le past d.0 n v);
  }
    where
      there : (past : History) (q : Request) (a : Said) → Moment h past q a → Answered le unit past (q gives a)
      there past q a m = answered_at le unit r past (q gives a) m.0 m.1
