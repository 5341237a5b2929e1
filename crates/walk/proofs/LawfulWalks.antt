-- A walk by any lawful choice is a run with exactly the claimed turns, and edges that the choice answered one by one begin it.
use Rattle.std.proofs.Common.{◌≡◌, ℕ, zero, suc, ◌+◌, ◌≤◌, ◌↔◌, List, [], ◌∷◌, ◌++◌, length, get_or, take, drop, Some, sum, sym, refl, ap, ◌∙◌, subst, le_of_suc-le-suc, not-suc-le-zero, arith}
use Rattle.std.proofs.lemmas.List.{take-append-drop, take_all}
use Rattle.std.proofs.lemmas.List.Sums.{get_or-le-sum_by}
use Rattle.task.specs.declared.edges.Edge.{Edge}
use Rattle.task.specs.Graph.{head_of, Path, Run}
use Rattle.task.specs.Sealing.{Ends}
use Rattle.task.specs.Sound.{Walkable}
use Rattle.task.specs.Turns.{turns, turns_in}
use Rattle.walk.specs.Rule.{last_exit}
use Rattle.walk.specs.Walks.{one_less, Chooser, walk, at_after, left_after, Held, Chosen, Lawful, Sofar, Complete, Follows, Begun}
use Rattle.walk.proofs.TurnSums.{one_less_at, sum_one_less, turns_each}
use Rattle.walk.proofs.LawfulSteps.{Invariant, nearer, begins, claimed_too, can_leave, held, stepped, over}

-- ---- of any choice

module _ (es : List Edge) (choose : Chooser) where
  -- fewer steps begin the walk
  walk_take : (k n : ℕ) (left : List ℕ) (at : ℕ) → k ≤ n → walk es choose k left at ≡ take k (walk es choose n left at)
  walk_take zero n left at h = refl
  walk_take (suc k) zero left at h = absurd (not-suc-le-zero h)
  walk_take (suc k) (suc n) left at h = let ih = λ (x : ℕ). walk_take k n (one_less left x) (head_of es x) (le_of_suc-le-suc h) in grind (arith, ih)

  -- the walk is what the choice answers one by one, and the other way round
  walk_follows : (k : ℕ) (left : List ℕ) (at : ℕ) → Follows es choose left at (walk es choose k left at)
  walk_follows zero left at = tt
  walk_follows (suc k) left at = let ih = λ (x : ℕ). walk_follows k (one_less left x) (head_of es x) in grind (arith, ih)

  follows_walk : (xs : List ℕ) (left : List ℕ) (at : ℕ) → Follows es choose left at xs → walk es choose (length xs) left at ≡ xs
  follows_walk [] left at f = refl
  follows_walk (x ∷ xs) left at f = rw f.0 (ap (λ ys. x ∷ ys) (follows_walk xs (one_less left x) (head_of es x) f.1))

-- ---- of a lawful choice

-- what holds after the edges xs
pub record Went (es : List Edge) (end : ℕ) (claimed left : List ℕ) (at : ℕ) (xs : List ℕ) : Type 0 where
  pub held : Held left xs
  pub inv : Invariant es end claimed (left_after left xs) (at_after es at xs)
  pub sums : sum (left_after left xs) + length xs ≡ sum left
  pub path : Path es at (at_after es at xs) xs
  pub used : (x : ℕ) → turns x xs + get_or (left_after left xs) x 0 ≡ get_or left x 0

module _ {es : List Edge} {start end : ℕ} {claimed : List ℕ} (walkable : Walkable es start end claimed) {choose : Chooser} (lawful : Lawful es end (last_exit es claimed end) choose) where
  -- off the end the choice answers an edge
  pub some_chosen : {left : List ℕ} {at : ℕ} → Invariant es end claimed left at → (at ≡ end → ⊥) → (x : ℕ) × (choose left at ≡ Some x) × Chosen es (last_exit es claimed end) left at x
  some_chosen {left} {at} inv off =
      let can = can_leave walkable inv off in
      let n = nearer walkable at (claimed_too walkable inv at can) in
      lawful.goes left at off can (inv.kept at can) n.edge n.leaves

  -- where it answers one, the walk is off the end, and that edge is chosen
  pub answered : {left : List ℕ} {at x : ℕ} → Invariant es end claimed left at → choose left at ≡ Some x → (at ≡ end → ⊥) × Chosen es (last_exit es claimed end) left at x
  answered {left} {at} {x} inv is =
      let off : at ≡ end → ⊥ = λ e. cc (lawful.stops left) in
      let goes = some_chosen inv off in
      let same : goes.0 ≡ x = cc (goes.1) in
      (off, subst (Chosen es (last_exit es claimed end) left at) same goes.2)

  went : (xs : List ℕ) {left : List ℕ} {at : ℕ} → Invariant es end claimed left at → Follows es choose left at xs → Went es end claimed left at xs
  went [] inv f = record { held = tt; inv = inv; sums = omega arith; path = refl; used = λ x. omega arith }
  went (x ∷ xs) {left} inv f =
      let a = answered inv f.0 in
      let has = held walkable inv a.0 a.1 in
      let w = went xs (stepped walkable inv a.0 a.1) f.1 in
      record {
        held = (has, w.held);
        inv = w.inv;
        sums = omega (arith, w.sums, sum_one_less left x (omega (arith, a.1.edge, inv.sized)) has);
        path = (a.1.edge, a.1.leaves, w.path);
        used = λ y. omega (arith, w.used y, one_less_at left x y has);
      }

  -- no step is missing while turns are left
  counted : (k : ℕ) {left : List ℕ} {at : ℕ} → Invariant es end claimed left at → k ≤ sum left → length (walk es choose k left at) ≡ k
  counted zero inv h = refl
  counted (suc k) {left} {at} inv h =
      let off : at ≡ end → ⊥ = λ e. omega (arith, h, (over walkable inv).0 e) in
      let goes = some_chosen inv off in
      let has = held walkable inv off goes.2 in
      let less = sum_one_less left goes.0 (omega (arith, goes.2.edge, inv.sized)) has in
      rw goes.1 (ap suc (counted k (stepped walkable inv off goes.2) (omega (arith, h, less))))

  module _ (xs : List ℕ) (follows : Follows es choose claimed start xs) where
    pub from_start : Went es end claimed claimed start xs
    from_start = went xs (begins walkable) follows

    done : (at_after es start xs ≡ end) ↔ (length xs ≡ sum claimed)
    done =
        let all = over walkable from_start.inv in
        (λ e. omega (arith, from_start.sums, all.0 e), λ h. all.1 (omega (arith, from_start.sums)))

  abbrev taken : ℕ → List ℕ
  taken k = walk es choose k claimed start

  abbrev follows : (k : ℕ) → Follows es choose claimed start (taken k)
  follows k = walk_follows es choose k claimed start

  sofar : (k : ℕ) → k ≤ sum claimed → Sofar es end claimed (taken (sum claimed)) start k (taken k)
  sofar k low =
      let long : length (taken k) ≡ k = counted k (begins walkable) low in
      record {
        begins = walk_take es choose k (sum claimed) claimed start low;
        counted = long;
        left = omega (arith, long, (from_start (taken k) (follows k)).sums);
        done = rw long at (done (taken k) (follows k));
      }

  module _ (ends : Ends es start end) where
    pub complete : Complete es start end claimed choose (taken (sum claimed))
    complete =
        let n = sum claimed in
        let w = from_start (taken n) (follows n) in
        let long : length (taken n) ≡ n = counted n (begins walkable) (omega arith) in
        let there = (done (taken n) (follows n)).1 long in
        record {
          is_run = record {
            some = grind (arith, long, (over walkable (begins walkable)).1, walkable.apart);
            start = start;
            starts = ends.start.is;
            end = end;
            ends = ends.end.is;
            leads = rw there at w.path;
          };
          exact = turns_each es (taken n) claimed walkable.sized
              (λ x h. omega (arith, w.used x, w.sums, long, get_or-le-sum_by (λ t. t) (left_after claimed (taken n)) x 0 (omega (arith, h, w.inv.sized))));
          held = w.held;
          sofar = sofar;
          rests = λ more.
              let few = (from_start (taken (n + more)) (follows (n + more))).sums in
              sym (walk_take es choose n (n + more) claimed start (omega arith) ∙ take_all n (taken (n + more)) (omega (arith, few)));
        }

    -- what has been handed out is the first of that run
    pub begun : (handed : List ℕ) → Follows es choose claimed start handed → Begun es start end claimed handed
    begun handed f =
        let n = length handed in
        let run = taken (sum claimed) in
        let w = from_start handed f in
        let few : n ≤ sum claimed = omega (arith, w.sums) in
        let first : handed ≡ take n run = sym (follows_walk es choose handed claimed start f) ∙ walk_take es choose n (sum claimed) claimed start few in
        let whole : handed ++ drop n run ≡ run = ap (λ xs. xs ++ drop n run) first ∙ take-append-drop n run in
        record {
          few = few;
          left = w.sums;
          each = w.used;
          path = w.path;
          rest = drop n run;
          is_run = subst (Run es) (sym whole) complete.is_run;
          exact = ap (turns_in es) whole ∙ complete.exact;
          counted = ap length whole ∙ counted (sum claimed) (begins walkable) (omega arith);
          done = done handed f;
        }
