-- Passes over the edges that lower entries until nothing changes come to the distances.
use Rattle.std.proofs.Common.{All, ◌^◌, ◌≡◌, ℕ, zero, suc, ◌+◌, ◌<◌, ◌≤◌, Bool, true, false, cond, eqb, List, [], ◌∷◌, length, get_or, set, refl, ap, ◌∙◌, add-one, arith, length-set}
use Rattle.std.proofs.lemmas.List.Elements.{All-head, All-tail}
use Rattle.std.proofs.lemmas.List.Sums.{sum_by-set}
use Rattle.std.proofs.lemmas.Bool.{both_ways, false_from_ne_true}
use Rattle.std.proofs.lemmas.Bool.Decides.{nat_tests}
use Rattle.task.specs.declared.edges.Edge.{Edge}
use Rattle.task.specs.Graph.{tail_of, head_of, Path}
use Rattle.walk.specs.Rule.{near, distance}
use Rattle.walk.specs.Tables.{DistancesTabled, Relaxed, HoldsBelow, DistancePass}
use Rattle.walk.proofs.ExitTables.{set_at}
use Rattle.walk.proofs.LowestNumbers.{from_all}
use Rattle.walk.proofs.ShortestWays.{HasTurn, near_on, near_way}

-- ---- one pass, from the last edge to the first

module _ (es : List Edge) (ts before after : List ℕ) (settled : Bool) (n x : ℕ) (pass : DistancePass es ts before after settled n) (low : x < length es) (some : 0 < get_or ts x 0)
    (tail head : ℕ) (leaves : tail_of es x ≡ tail) (enters : head_of es x ≡ head) (small : tail < length after) (small' : head < length after)
    (less : get_or after head 0 + 1 < get_or after tail 0) where
  holds_on : (p : ℕ → ℕ → Bool) (top v : ℕ) → (get_or after head 0 < top → p (get_or after head 0 + 1) tail ≡ true) → (get_or after v 0 < top → p (get_or after v 0) v ≡ true) →
      (entry : ℕ) → entry ≡ cond (eqb v tail) (get_or after head 0 + 1) (get_or after v 0) → entry < top → p entry v ≡ true
  holds_on p top v here there entry is few = grind (arith, nat_tests)

  pub pass_lowers : DistancePass es ts before (set after tail (get_or after head 0 + 1)) false x
  pass_lowers =
      let near = get_or after head 0 + 1 in
      record {
        sized = length-set after tail near ∙ pass.sized;
        lower = λ v. grind (arith, nat_tests, set_at after tail v near small, pass.lower v);
        holds = λ p top spreads so v h few.
            let on = pass.holds p top spreads so in
            let here : get_or after head 0 < top → p near tail ≡ true =
            λ lt. rw (← leaves, ← enters) (spreads x low some (get_or after (head_of es x) 0) (rw enters (on head small' lt))) in
            holds_on p top v here (on v (omega (arith, h, length-set after tail near))) _ (set_at after tail v near small) few;
        done = λ s. absurd (both_ways false refl s);
        fewer = omega (arith, pass.fewer, less, sum_by-set (λ t. t) after tail near 0 small);
      }

-- ---- until nothing changes

-- no entry is too low, and the end has none
pub record Nearing (es : List Edge) (ts : List ℕ) (end : ℕ) (far : List ℕ) : Type 0 where
  pub sized : length far ≡ 32
  pub most : (v : ℕ) → v < 32 → get_or far v 0 ≤ length es + 2
  pub holds : HoldsBelow (near es ts end) (length es + 2) far
  pub at_end : get_or far end 0 ≡ 0

module _ (es : List Edge) (ts : List ℕ) (end : ℕ) where
  -- at first every other node is as far as can be
  module _ (far : List ℕ) (long : length far ≡ 32) (all : (v : ℕ) → v < 32 → get_or far v 0 ≡ length es + 2) (i : ℕ) (is : i ≡ end) (low : i < 32) where
    first_at : (v : ℕ) → v < 32 → get_or (set far i 0) v 0 ≡ cond (eqb v i) 0 (length es + 2)
    first_at v h = set_at far i v 0 (omega arith) ∙ ap (cond (eqb v i) 0) (all v h)

    first_holds : (v entry : ℕ) → entry ≡ cond (eqb v i) 0 (length es + 2) → entry < length es + 2 → near es ts end entry v ≡ true
    first_holds v zero e few = grind (arith, nat_tests)
    first_holds v (suc entry) e few = absurd (grind (arith, nat_tests))

    pub only_end : Nearing es ts end (set far i 0)
    only_end = record {
      sized = length-set far i 0 ∙ long;
      most = λ v h. grind (arith, nat_tests, first_at v h);
      holds = λ v h few. first_holds v _ (first_at v (omega (arith, h, length-set far i 0))) few;
      at_end = rw (← is) (grind (arith, nat_tests, first_at i low));
    }

    pub only_end_small : length es < 2 ^ 62 → (v : ℕ) → v < 32 → get_or (set far i 0) v 0 < 2 ^ 63
    only_end_small few v h = omega (arith, only_end.most v h)

  pub nearing_on : (before after : List ℕ) (settled : Bool) → Nearing es ts end before → DistancePass es ts before after settled 0 → Nearing es ts end after
  nearing_on before after settled r pass = record {
    sized = pass.sized ∙ r.sized;
    most = λ v h. omega (arith, r.most v h, pass.lower v);
    holds = pass.holds (near es ts end) (length es + 2) (λ x low some k h. rw add-one (near_on es ts end k (tail_of es x) x low refl some h)) r.holds;
    at_end = omega (arith, r.at_end, pass.lower end);
  }

  -- when nothing shrinks any more, the entries are the distances
  module _ (far : List ℕ) (r : Nearing es ts end far) (done : (x : ℕ) → x < length es → Relaxed es ts far x) where
    not_higher : (xs : List ℕ) (v : ℕ) → Path es v end xs → All (HasTurn ts) xs → get_or far v 0 ≤ length xs
    not_higher [] v e all = rw e (omega (arith, r.at_end))
    not_higher (x ∷ xs) v p all = rw (← p.1) (omega (arith, done x p.0 (All-head (HasTurn ts) x xs all), not_higher xs (head_of es x) p.2 (All-tail (HasTurn ts) x xs all)))

    entry_is : (v : ℕ) → v < 32 → get_or far v 0 ≡ distance es ts end v
    unfolding distance
    entry_is v low = from_all (λ k. near es ts end k v) (length es + 2) 0 (get_or far v 0) (omega arith) (record {
      most = r.most v low;
      met = r.holds v (omega (arith, low, r.sized));
      misses = λ k a h. false_from_ne_true (near es ts end k v) (λ t. let w = near_way es ts end k v t in omega (arith, h, w.1, not_higher w.0.0 v w.0.1 w.0.2));
    })

    pub all_far : DistancesTabled es ts end far
    all_far = record { all = entry_is; most = r.most }
