-- The rules refute hollow answers.
use Rattle.std.proofs.Common.{◌≡◌, ℕ, zero, suc, ◌+◌, ◌<◌, Bool, List, [], ◌∷◌, ◌++◌, map, get_or, ℤ, sym, refl, ap, ◌∙◌, inl, inr, ◌≢◌, arith}
use lib.Signed.{le_z_yes}
use Rattle.std.proofs.lemmas.List.Elements.{All-nil, All-cons, All-map}
use Rattle.judge.specs.declared.stages.Proof.TheVariants.{Certified}
use Rattle.price.specs.Pairs.{Pair}
use Rattle.price.specs.declared.senses.Sense.TheVariants.{Longest}
use Rattle.task.specs.Graph.{tail_of, head_of, Start, End, Path}
use Rattle.task.specs.Rows.{Keeps, KeepsAll}
use Rattle.task.specs.Sound.{no_row}
use Rattle.task.specs.Turns.{turns as turns_of, price_of, turns_in}
use Rattle.task.specs.declared.edges.Edge.{Edge}
use Rattle.history.specs.Answers.{next, price as priced, agreed}
use Rattle.history.specs.Calls.{claim, void, step, withdraw}
use Rattle.history.specs.History.{Event, History, ◌gives◌, with_call}
use Rattle.history.specs.Known.{edges_of, rows_of, closes, bearing, claimed_by, voided_by, Stands, Void}
use Rattle.history.specs.Refuting.{task, turns, certified, Refuted, HollowAnswersRefuted}
use Rattle.history.specs.Rules.{HandsOut}
use Rattle.history.proofs.StandsAlone.{at_first, none_left}

abbrev graph : List Edge
graph = edges_of task

abbrev the_run : List ℕ
the_run = 0 ∷ 1 ∷ 2 ∷ 1 ∷ 2 ∷ 1 ∷ 2 ∷ 1 ∷ 3 ∷ []

each_edge : (P : ℕ → Type 0) → P 0 → P 1 → P 2 → P 3 → (i : ℕ) → i < 4 → P i
each_edge P a b c d zero h = a
each_edge P a b c d (suc zero) h = b
each_edge P a b c d (suc (suc zero)) h = c
each_edge P a b c d (suc (suc (suc zero))) h = d
each_edge P a b c d (suc (suc (suc (suc i)))) h = absurd (omega arith)

the_start : Start graph 0
the_start = record {
  node = record { edge = 0; exists = omega arith; named = inl (omega arith) };
  not_entered = each_edge (λ i. head_of graph i ≡ 0 → ⊥) (λ e. omega arith) (λ e. omega arith) (λ e. omega arith) (λ e. omega arith);
}

the_end : End graph 3
the_end = record {
  node = record { edge = 3; exists = omega arith; named = inr (omega arith) };
  not_left = each_edge (λ i. tail_of graph i ≡ 3 → ⊥) (λ e. omega arith) (λ e. omega arith) (λ e. omega arith) (λ e. omega arith);
}

it_keeps : KeepsAll graph (rows_of task) the_run
it_keeps = record {
  is_run = record {
    some = omega arith;
    start = 0;
    starts = the_start;
    end = 3;
    ends = the_end;
    leads = (omega arith, refl, (omega arith, refl, (omega arith, refl, (omega arith, refl, (omega arith, refl, (omega arith, refl, (omega arith, refl, (omega arith, refl, (omega arith, refl, refl)))))))));
  };
  keeps = All-cons (Keeps graph turns) (get_or (rows_of task) 0 no_row) [] (le_z_yes tt) (All-nil (Keeps graph turns));
}

abbrev NoEnd : Event → Type 0
NoEnd e = bearing e ≢ closes

module _ (tree : List ℤ) (p : Pair) where
  -- the claim stands, also after more steps
  stands_with : (more : List ℕ) → Stands (certified tree p ++ map (λ x. step gives next x) more)
  stands_with more = record {
    before = task;
    event = claim turns tree gives priced p;
    what = record { sense = Longest; proof = Certified; turns = turns; price = p };
    opens = refl;
    since = step gives next 0 ∷ map (λ x. step gives next x) more;
    split = refl;
    standing = All-cons NoEnd (step gives next 0) (map (λ x. step gives next x) more) (λ end. cc) (All-map NoEnd (λ x. step gives next x) more (λ k d low end. cc));
  }

  abbrev now : History
  now = certified tree p

  it_stands : Stands now
  it_stands = stands_with []

module _ (le : Pair → Pair → Bool) (tree : List ℤ) (p : Pair) where
  -- once off the loop no edge leads on, and turns are left over
  no_way_back : HandsOut Longest graph (rows_of task) turns p (0 ∷ 1 ∷ 3 ∷ []) → ⊥
  no_way_back out = by out.rest out.keeps.is_run.leads out.exact
    where
      by : (rest : List ℕ) → Path graph out.keeps.is_run.start out.keeps.is_run.end (0 ∷ 1 ∷ 3 ∷ rest) → turns_in graph (0 ∷ 1 ∷ 3 ∷ rest) ≡ turns → ⊥
      by [] path exact = let e : ◌≡◌ {A = ℕ} 1 4 = ap (λ l. get_or l 1 0) exact in omega arith
      by (y ∷ ys) path exact = the_end.not_left y path.2.2.2.0 path.2.2.2.1

  refuted : Refuted le tree p
  unfolding it_stands stands_with
  refuted = record {
    unclaimed = λ state two rules. at_first claimed_by (λ x. refl) refl (((rules.told_tells [] state ([], refl)).stands Longest Certified).0 two).0;
    unvoided = λ state three rules. at_first voided_by (λ x. refl) refl ((rules.told_tells [] state ([], refl)).void.0 three);
    withdrawn = λ state two rules. let past = with_call (now tree p) withdraw agreed in
        none_left claimed_by (λ x. refl) refl (now tree p) (withdraw gives agreed) refl (((rules.told_tells past state ([], refl)).stands Longest Certified).0 two).0;
    hidden = λ state other rules. other (((rules.told_tells (now tree p) state ([], refl)).stands Longest Certified).1 (it_stands tree p, refl, refl));
    too_cheap = λ dearer rules. cc ((rules.best (now tree p) ([], refl) (it_stands tree p) refl).none_better the_run it_keeps);
    made_up_price = λ other rules. let out = rules.hands_out (now tree p) ([], refl) (it_stands tree p) in other (sym out.price ∙ ap (price_of Longest graph) out.exact);
    untold_price = λ state other rules. other ((rules.told_tells (now tree p) state ([], refl)).price (it_stands tree p));
    stuck = λ refusal rules. cc (rules.step_accepts (now tree p) _ ([], refl) (it_stands tree p));
    repeats = λ rules. let out = rules.hands_out (certified tree p ++ (step gives next 0 ∷ [])) ([], refl) (stands_with tree p (0 ∷ [])) in
        let e : 1 + (1 + turns_of 0 out.rest) ≡ 1 = ap (λ l. get_or l 0 0) out.exact in omega arith;
    leaves_early = λ rules. no_way_back (rules.hands_out (certified tree p ++ (step gives next 1 ∷ (step gives next 3 ∷ []))) ([], refl) (stands_with tree p (1 ∷ 3 ∷ [])));
    done_early = λ rules. let e : ◌≡◌ {A = ℕ} 1 9 = (rules.step_done (now tree p) _ ([], refl) (it_stands tree p)).0 refl in omega arith;
    made_up_steps = λ state other rules. other ((rules.told_tells (now tree p) state ([], refl)).steps_told (it_stands tree p));
    made_up_left = λ state other rules. other ((rules.told_tells (now tree p) state ([], refl)).left_told (it_stands tree p));
    silent = λ refusal rules. cc (rules.told_accepts [] _ ([], refl));
    void_with_a_run = λ rules. rules.no_run (with_call task (void tree) agreed) ([], refl) voided the_run it_keeps;
  }
    where
      voided : Void (with_call task (void tree) agreed)
      voided = record { before = task; event = void tree gives agreed; what = tt; opens = refl; since = []; split = refl; standing = All-nil NoEnd }

pub hollow_answers_refuted : HollowAnswersRefuted
hollow_answers_refuted = refuted
