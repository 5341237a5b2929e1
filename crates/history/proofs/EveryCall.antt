-- Every call keeps what a case holds by its history.
use Rattle.std.proofs.Common.{◌≡◌, ℕ, Bool, true, List, [], ◌∷◌, ◌++◌, length, ltb, ℤ, Some, None, Ok, Err, Option, Result, sym, refl, ap, ◌∙◌, subst, inl, inr, append-nil}
use Rattle.std.proofs.lemmas.List.Elements.{All-nil, All-push}
use Rattle.price.specs.Laws.{Laws}
use Rattle.price.specs.Pairs.{Pair}
use Rattle.price.specs.declared.senses.Sense.TheVariants.{Longest}
use Rattle.task.specs.Edges.{edge_of, edge_made}
use Rattle.task.specs.EndsAnswer.{ends_answer}
use Rattle.std.specs.Option.{option_to_list}
use Rattle.task.specs.NewRows.{row_of}
use Rattle.task.specs.Rows.{Row}
use Rattle.task.specs.declared.edges.Edge.{Edge}
use Rattle.task.specs.declared.edges.NewEdge.{NewEdge}
use Rattle.task.specs.declared.faults.GraphFault.{GraphFault}
use Rattle.task.proofs.Made.{asked, edge_taken}
use Rattle.task.proofs.Seals.{answer_says, exactly}
use Rattle.judge.specs.Cases.{Contents}
use Rattle.judge.specs.Claiming.{claim_answer, claim_kept, void_answer, void_kept}
use Rattle.judge.specs.Drafting.{then_ask, edge_answer, edge_kept, row_answer, row_kept, seal_answer, seal_kept}
use Rattle.judge.specs.Handing.{next_of, walk_on, step_answer, step_kept, told_answer, withdraw_answer, withdraw_kept}
use Rattle.judge.specs.Stages.{Stage, is_draft, draft, sealed, standing, void as voided}
use Rattle.judge.specs.declared.refusals.Refusal.{Refusal}
use Rattle.judge.specs.declared.refusals.Refusal.TheVariants.{Graph}
use Rattle.judge.proofs.Accepts.{sound_turns, price_is, best_between, void_between}
use Rattle.history.specs.Answers.{numbered, ended, priced, unless_refused, stepped, next_or_done, number, ends, price, next, done, agreed, refused, told as tells}
use Rattle.history.specs.Calls.{Request, edge, row, seal, claim, void, step, withdraw, told}
use Rattle.history.specs.History.{Event, History, ◌gives◌, with_call}
use Rattle.history.specs.Known.{opens, voids, hands, closes, claimed_by, voided_by, edges_of, rows_of}
use Rattle.history.specs.Performing.{answered, after}
use Rattle.history.specs.Reaching.{Reached, start, one_more}
use Rattle.history.proofs.LastEvent.{edges_more, rows_more}
use Rattle.history.proofs.Meaning.{Low, ByStage, Meaning, claim_of, stands_then, stays, moved, unmoved}
use Rattle.history.proofs.StandsAlone.{at_first}
use Rattle.history.proofs.Stepping.{stands_from, holds_first, holds_next}

is_drafted : (stage : Stage) → is_draft stage ≡ true → stage ≡ draft
is_drafted draft is = refl
is_drafted (sealed s e) is = cc
is_drafted (standing s e held) is = cc
is_drafted (voided s e) is = cc

then_passed : {A B F : Type 0} (refusal : F → Refusal) (r : Result A F) (more : A → Result B Refusal) (y : B) → then_ask refusal r more ≡ Ok y → (x : A) × (r ≡ Ok x)
then_passed refusal (Ok x) more y is = (x, refl)
then_passed refusal (Err fault) more y is = cc

same_ends : (r : Result (ℕ × ℕ) GraphFault) (both : ℕ × ℕ) → then_ask Graph r (λ ends. Ok ends) ≡ Ok both → r ≡ Ok both
same_ends (Ok found) both is = cc
same_ends (Err fault) both is = cc

module _ (le : Pair → Pair → Bool) (unit : Pair) (laws : Laws le unit) (h : History) where
  -- a refused call
  still_so : (q : Request) (r : Refusal) (c : Contents) → Meaning le h c → Meaning le (with_call h q (refused r)) c
  still_so q r c m = unmoved le h (q gives refused r) c refl refl refl m

  -- a draft stays one, whatever its edges and rows
  drafted : (c : Contents) (es : List Edge) (rows : List Row) → is_draft c.stage ≡ true → Meaning le h c → ByStage le h es rows c.stage
  drafted c es rows is m =
      let d = is_drafted c.stage is in
      subst (ByStage le h es rows) (sym d) (subst (ByStage le h c.edges c.rows) d m.stage)

  -- ---- drafting

  by_edge : (new : NewEdge) (c : Contents) (r : Result ℕ Refusal) → edge_answer c new ≡ r → Meaning le h c → Meaning le (with_call h (edge new) (numbered r)) (edge_kept r c new)
  by_edge new c (Err refusal) is m = still_so _ refusal c m
  by_edge new c (Ok n) is m =
      let event = edge new gives number n in
      let first = asked (is_draft c.stage) _ _ n is in
      let made = then_passed _ (edge_made new) _ n (asked (ltb (length c.edges) 64) _ _ n first.1).1 in
      let taken = edge_taken new made.0 made.1 in
      record {
        edges = edges_more h event ∙ ap (λ l. l ++ (edge_of new ∷ [])) m.edges;
        rows = rows_more h event ∙ append-nil (rows_of h) ∙ m.rows;
        low = All-push Low c.edges (edge_of new) m.low (record { tail = taken.low_tail; head = taken.low_head });
        stage = stays le h event refl (c.edges ++ (edge_of new ∷ [])) c.rows c.stage (drafted c (c.edges ++ (edge_of new ∷ [])) c.rows first.0 m);
      }

  by_row : (relation k : ℤ) (cs : List ℤ) (c : Contents) (r : Result ℕ Refusal) → row_answer c relation k cs ≡ r → Meaning le h c →
      Meaning le (with_call h (row relation k cs) (numbered r)) (row_kept r c relation k cs)
  by_row relation k cs c (Err refusal) is m = still_so _ refusal c m
  by_row relation k cs c (Ok n) is m =
      let event = row relation k cs gives number n in
      let added = option_to_list (row_of relation k cs) in
      record {
        edges = edges_more h event ∙ append-nil (edges_of h) ∙ m.edges;
        rows = rows_more h event ∙ ap (λ l. l ++ added) m.rows;
        low = m.low;
        stage = stays le h event refl c.edges (c.rows ++ added) c.stage (drafted c c.edges (c.rows ++ added) (asked (is_draft c.stage) _ _ n is).0 m);
      }

  by_seal : (c : Contents) (r : Result (ℕ × ℕ) Refusal) → seal_answer c ≡ r → Meaning le h c → Meaning le (with_call h seal (ended r)) (seal_kept r c)
  by_seal c (Err refusal) is m = still_so seal refusal c m
  by_seal c (Ok both) is m =
      let first = asked (is_draft c.stage) _ _ both is in
      let none : ByStage le h c.edges c.rows draft = subst (ByStage le h c.edges c.rows) (is_drafted c.stage first.0) m.stage in
      let two = (exactly c.edges (ends_answer c.edges) both.0 both.1 (answer_says c.edges)).0 (same_ends (ends_answer c.edges) both first.1) in
      let event = seal gives ends both.0 both.1 in
      moved le h event c (sealed both.0 both.1) refl refl (stays le h event refl c.edges c.rows draft none, two) m

  -- ---- claims

  by_claim : (ts : List ℕ) (xs : List ℤ) (c : Contents) (r : Result Pair Refusal) → claim_answer Longest le unit c ts xs ≡ r → Meaning le h c →
      Meaning le (with_call h (claim ts xs) (priced r)) (claim_kept Longest r c ts)
  by_claim ts xs c (Err refusal) is m = still_so (claim ts xs) refusal c m
  by_claim ts xs c (Ok p) is m = go c.stage is m.stage
    where
      go : (stage : Stage) → claim_answer Longest le unit (record c { stage = stage }) ts xs ≡ Ok p → ByStage le h c.edges c.rows stage →
          Meaning le (with_call h (claim ts xs) (price p)) (claim_kept Longest (Ok p) (record c { stage = stage }) ts)
      go draft passed by = cc
      go (standing s e other) passed by = cc
      go (voided s e) passed by = cc
      go (sealed s e) passed (none, two) =
          let event = claim ts xs gives price p in
          let held = stands_from Longest p c.edges s e ts in
          moved le h event c (standing s e held) refl refl
          (record {
            turns = ts;
            handed = [];
            stood = stands_then le h event (opens (claim_of held ts)) refl None None (inl refl) (inl refl) none;
            holds = holds_first Longest le c.edges c.rows s e ts p two (sound_turns Longest le unit c.edges c.rows s e ts xs p passed) (price_is Longest le unit c.edges c.rows s e ts xs p passed)
                (best_between Longest le unit c.edges c.rows s e ts xs p passed laws two).0;
          }) m

  by_void : (xs : List ℤ) (c : Contents) (r : Result (Unit {0}) Refusal) → void_answer le unit c xs ≡ r → Meaning le h c → Meaning le (with_call h (void xs) (unless_refused r)) (void_kept r c)
  by_void xs c (Err refusal) is m = still_so (void xs) refusal c m
  by_void xs c (Ok _) is m = go c.stage is m.stage
    where
      go : (stage : Stage) → void_answer le unit (record c { stage = stage }) xs ≡ Ok tt → ByStage le h c.edges c.rows stage →
          Meaning le (with_call h (void xs) agreed) (void_kept (Ok tt) (record c { stage = stage }))
      go draft passed by = cc
      go (standing s e other) passed by = cc
      go (voided s e) passed by = cc
      go (sealed s e) passed (none, two) =
          let event = void xs gives agreed in
          moved le h event c (voided s e) refl refl
          ([], (stands_then le h event voids refl None None (inl refl) (inl refl) none, two, (void_between le unit laws c.edges c.rows xs s e two passed).no_run)) m

  -- ---- steps, and claims taken back

  by_step : (c : Contents) → Meaning le h c → Meaning le (with_call h step (stepped (step_answer c))) (step_kept (step_answer c) c)
  by_step c m = go c.stage m
    where
      go : (stage : Stage) → Meaning le h (record c { stage = stage }) →
          Meaning le (with_call h step (stepped (step_answer (record c { stage = stage })))) (step_kept (step_answer (record c { stage = stage })) (record c { stage = stage }))
      go draft n = still_so step _ _ n
      go (sealed s e) n = still_so step _ _ n
      go (voided s e) n = still_so step _ _ n
      go (standing s e held) n = taken_or_done (next_of c.edges e held.walk) refl n.stage
        where
          taken_or_done : (r : Option ℕ) → next_of c.edges e held.walk ≡ r → ByStage le h c.edges c.rows (standing s e held) →
              Meaning le (with_call h step (next_or_done r)) (record c { stage = standing s e (record held { walk = walk_on c.edges held.walk r }) })
          taken_or_done None is by = unmoved le h (step gives done) _ refl refl refl n
          taken_or_done (Some x) is by =
              let event = step gives next x in
              moved le h event _ _ refl refl
              (record {
                turns = by.turns;
                handed = by.handed ++ (x ∷ []);
                stood = stands_then le h event (hands x) refl (Some (claim_of held by.turns, by.handed)) None (inr refl) (inl refl) by.stood;
                holds = holds_next le c.edges c.rows s e held by.turns by.handed n.low by.holds x is;
              }) n

  by_withdraw : (c : Contents) → Meaning le h c → Meaning le (with_call h withdraw (unless_refused (withdraw_answer c))) (withdraw_kept c)
  by_withdraw c m = go c.stage m m.stage
    where
      event : Event
      event = withdraw gives agreed

      go : (stage : Stage) → Meaning le h (record c { stage = stage }) → ByStage le h c.edges c.rows stage →
          Meaning le (with_call h withdraw (unless_refused (withdraw_answer (record c { stage = stage })))) (withdraw_kept (record c { stage = stage }))
      go draft n by = still_so withdraw _ _ n
      go (sealed s e) n by = still_so withdraw _ _ n
      go (standing s e held) n by = moved le h event _ (sealed s e) refl refl (stands_then le h event closes refl (Some (claim_of held by.turns, by.handed)) None (inr refl) (inl refl) by.stood, by.holds.ends) n
      go (voided s e) n (handed, (stood, two, no_run)) = moved le h event _ (sealed s e) refl refl (stands_then le h event closes refl None (Some (tt, handed)) (inl refl) (inr refl) stood, two) n

  by_call : (c : Contents) (q : Request) → Meaning le h c → Meaning le (with_call h q (answered le unit c q)) (after le unit c q)
  by_call c (edge new) = by_edge new c (edge_answer c new) refl
  by_call c (row relation k cs) = by_row relation k cs c (row_answer c relation k cs) refl
  by_call c seal = by_seal c (seal_answer c) refl
  by_call c (claim ts xs) = by_claim ts xs c (claim_answer Longest le unit c ts xs) refl
  by_call c (void xs) = by_void xs c (void_answer le unit c xs) refl
  by_call c step = by_step c
  by_call c withdraw = by_withdraw c
  by_call c told = unmoved le h (told gives tells (told_answer c)) c refl refl refl

module _ (le : Pair → Pair → Bool) (unit : Pair) (laws : Laws le unit) where
  pub meaning : {h : History} {c : Contents} → Reached le unit h c → Meaning le h c
  meaning start = record { edges = refl; rows = refl; low = All-nil Low; stage = (at_first claimed_by (λ x. refl) refl, at_first voided_by (λ x. refl) refl) }
  meaning (one_more {h} {c} q r) = by_call le unit laws h c q (meaning r)
