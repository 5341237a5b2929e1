-- Marks that spread over live edges, pass by pass.
use Rattle.std.proofs.Common.{◌≡◌, ℕ, suc, ◌+◌, ◌<◌, ◌≤◌, Bool, true, false, not, ◌⊎◌, List, [], ◌∷◌, length, get_or, set, replicate, refl, ap, ◌∙◌, ⊎_elim, arith, length-set}
use Rattle.std.specs.List.{All}
use Rattle.std.proofs.lemmas.Bool.Decides.{same_from_decides}
use Rattle.std.proofs.lemmas.Grind.{get_or-set_at}
use Rattle.std.proofs.lemmas.List.Elements.{All-replicate}
use Rattle.std.proofs.lemmas.List.{get_or-set_same, get_or-set_other, get_or_past, length-replicate}
use Rattle.std.proofs.lemmas.List.Sums.{sum_by-set}
use Rattle.std.proofs.lemmas.Bool.{both_ways}
use Rattle.task.specs.declared.edges.Edge.{Edge}
use Rattle.task.specs.declared.edges.Side.{Side}
use Rattle.task.specs.Lowest.{one_if}
use Rattle.task.specs.Sides.{other_side, end_of, is_live, reaches}
use Rattle.task.specs.Spreading.{Spread, is_marked, unmarked, IsToMark, Pass}
use Rattle.task.specs.Ways.{Way}
use Rattle.task.proofs.Reach.{within_way, way_reach, spread_way}

-- ---- one mark more

one_if_most : (b : Bool) → one_if (not b) ≤ 1
one_if_most true = omega arith
one_if_most false = omega arith

module _ (marks : List Bool) (u v : ℕ) where
  mark_kept : u < length marks → is_marked marks v ≡ true → is_marked (set marks u true) v ≡ true
  mark_kept small m = grind (arith, get_or-set_at marks u v true false, get_or-set_other marks u v true false)

  mark_cases : is_marked (set marks u true) v ≡ true → (v ≡ u) ⊎ (is_marked marks v ≡ true)
  mark_cases m = grind (arith, get_or-set_other marks u v true false)

-- ---- one pass, either way

module _ (es : List Edge) (ts : List ℕ) (side : Side) (before after : List Bool) (settled : Bool) (n x : ℕ) (pass : Pass es ts side before after settled n) where
  -- one mark more: nothing is told of edges yet, or of none
  pub pass_marks : (u m : ℕ) (then : Bool) → (then ≡ true → length es ≤ m) → x < length es → IsToMark es ts side after x u → Pass es ts side before (set after u true) then m
  pass_marks u m then late low marks = record {
    sized = length-set after u true ∙ pass.sized;
    keeps = λ v mark. mark_kept after u v marks.small (pass.keeps v mark);
    right = λ p spreads so v mark. ⊎_elim
        (λ (e : v ≡ u). rw (e, marks.from) (spreads x low marks.live (pass.right p spreads so _ marks.to)))
        (λ was. pass.right p spreads so v was)
        (mark_cases after u v mark);
    done = λ s y from below. absurd (omega (arith, late s));
    fewer =
        let one : unmarked (set after u true) + one_if (not (get_or after u false)) ≡ unmarked after + 0 = sum_by-set (λ m. one_if (not m)) after u true false marks.small in
        omega (arith, pass.fewer, one, ap (λ b. one_if (not b)) marks.blank, one_if_most then);
  }

-- ---- until nothing changes

-- every mark is right, and the goal has one; once settled, every edge has spread
pub record Marked (es : List Edge) (ts : List ℕ) (side : Side) (goal : ℕ) (marks : List Bool) (settled : Bool) : Type 0 where
  pub sized : length marks ≡ 32
  pub right : (v : ℕ) → is_marked marks v ≡ true → reaches es ts side goal v ≡ true
  pub at_goal : is_marked marks goal ≡ true
  pub done : settled ≡ true → (x : ℕ) → x < length es → Spread es ts side (is_marked marks) x

module _ (es : List Edge) (ts : List ℕ) (side : Side) (goal : ℕ) where
  pub reached_way : (v : ℕ) → reaches es ts side goal v ≡ true → (xs : List ℕ) × Way (length es) (end_of es side) (end_of es (other_side side)) (is_live ts) v goal xs
  unfolding reaches
  reached_way v h = within_way (length es) (end_of es side) (end_of es (other_side side)) (is_live ts) goal (suc (length es)) v h

  pub way_reached : (v : ℕ) (xs : List ℕ) → Way (length es) (end_of es side) (end_of es (other_side side)) (is_live ts) v goal xs → reaches es ts side goal v ≡ true
  unfolding reaches
  way_reached v xs w = way_reach (length es) (end_of es side) (end_of es (other_side side)) (is_live ts) goal v xs w

  reaches_on : (x : ℕ) → x < length es → is_live ts x ≡ true → reaches es ts side goal (end_of es (other_side side) x) ≡ true → reaches es ts side goal (end_of es side x) ≡ true
  reaches_on x low on h = let way = reached_way (end_of es (other_side side) x) h in way_reached (end_of es side x) (x ∷ way.0) (low, refl, on, way.1)

  pub only_goal : goal < 32 → Marked es ts side goal (set (replicate 32 false) goal true) false
  only_goal low =
      let none : All (λ b. b ≡ false) (replicate 32 false) = All-replicate (λ b. b ≡ false) 32 false refl in
      let blank : (v : ℕ) → get_or (replicate 32 false) v false ≡ false = λ v. grind (arith, none v false, get_or_past (replicate 32 false) v false) in
      record {
        sized = length-set (replicate 32 false) goal true ∙ length-replicate 32 false;
        right = λ v m. ⊎_elim (λ (e : v ≡ goal). rw e (way_reached goal [] refl)) (λ was. absurd (both_ways _ (blank v) was)) (mark_cases (replicate 32 false) goal v m);
        at_goal = get_or-set_same (replicate 32 false) goal true false (omega (arith, length-replicate 32 false));
        done = λ s. absurd (both_ways false refl s);
      }

  pub marked_on : (before after : List Bool) (was settled : Bool) → Marked es ts side goal before was → Pass es ts side before after settled 0 → Marked es ts side goal after settled
  marked_on before after was settled marked pass = record {
    sized = pass.sized ∙ marked.sized;
    right = pass.right (reaches es ts side goal) reaches_on marked.right;
    at_goal = pass.keeps goal marked.at_goal;
    done = λ s x low. pass.done s x (omega arith) low;
  }

  -- a pass of which nothing is told
  pub marked_more : (before after : List Bool) (was told : Bool) (n : ℕ) → Marked es ts side goal before was → Pass es ts side before after told n → Marked es ts side goal after false
  marked_more before after was told n marked pass = record {
    sized = pass.sized ∙ marked.sized;
    right = pass.right (reaches es ts side goal) reaches_on marked.right;
    at_goal = pass.keeps goal marked.at_goal;
    done = λ s. absurd (both_ways false refl s);
  }

  -- when nothing more spreads, the marks are the nodes from which the goal is reached
  pub all_marked : (marks : List Bool) → Marked es ts side goal marks true → (v : ℕ) → get_or marks v false ≡ reaches es ts side goal v
  all_marked marks r v = same_from_decides (get_or marks v false) (reaches es ts side goal v) (
    r.right v,
    λ q.
        let way = reached_way v q in
        spread_way (length es) (end_of es side) (end_of es (other_side side)) (is_live ts) goal (λ u. get_or marks u false) r.at_goal (r.done refl) way.0 v way.1,
  ) (λ q. q, λ q. q)
