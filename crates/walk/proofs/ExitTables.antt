-- Going over the edges from the last to the first, the table comes to hold the last exit of every node.
use Rattle.std.proofs.Common.{◌≡◌, ℕ, ◌+◌, ◌<◌, ◌≤◌, true, false, ◌&&◌, cond, eqb, List, length, get_or, set, replicate, ◌∙◌, arith, length-set}
use Rattle.std.proofs.lemmas.List.{get_or-set_same, get_or-set_other, get_or-replicate, length-replicate}
use Rattle.std.proofs.lemmas.List.FromFn.{fill_by_all, get_or-map-range_with_len}
use Rattle.std.proofs.lemmas.Bool.Decides.{nat_tests}
use Rattle.task.specs.declared.edges.Edge.{Edge}
use Rattle.task.specs.Graph.{tail_of, head_of}
use Rattle.walk.specs.Rule.{leads_nearer, last_exit}
use Rattle.walk.specs.Tables.{DistancesTabled, ExitsTabled, nearer_by, exit_table}
use Rattle.walk.proofs.LowestNumbers.{LowestFrom, from_next, from_all}

-- one entry that is set, among the others
pub set_at : (xs : List ℕ) (i k n : ℕ) → i < length xs → get_or (set xs i n) k 0 ≡ cond (eqb k i) n (get_or xs k 0)
set_at xs i k n low = grind (arith, nat_tests, get_or-set_same xs i n 0, get_or-set_other xs i k n 0)

-- of the edges from x on, the table has for each node the lowest that leads one nearer, or the number of edges
pub record ExitsFrom (es : List Edge) (ts : List ℕ) (end : ℕ) (exits : List ℕ) (x : ℕ) : Type 0 where
  pub sized : length exits ≡ 32
  pub all : (v : ℕ) → v < 32 → LowestFrom (leads_nearer es ts end v) (length es) x (get_or exits v 0)

module _ (es : List Edge) (ts : List ℕ) (end : ℕ) where
  pub exits_none : ExitsFrom es ts end (replicate 32 (length es)) (length es)
  exits_none = record {
    sized = length-replicate 32 (length es);
    all = λ v low. let e = get_or-replicate 32 v (length es) 0 low in record { most = omega (arith, e); met = λ h. absurd (omega (arith, e)); misses = λ y a b. absurd (omega (arith, e)) };
  }

  pub exits_all : (exits : List ℕ) (x : ℕ) → x ≤ 0 → ExitsFrom es ts end exits x → ExitsTabled es ts end exits
  exits_all exits x done f = record { all = λ v low. from_all (leads_nearer es ts end v) (length es) x (get_or exits v 0) done (f.all v low) }

  module _ (far exits : List ℕ) (x m : ℕ) (right : DistancesTabled es ts end far) (low : head_of es x < 32) (edge : x < length es) (next : m ≤ x + 1)
      (f : ExitsFrom es ts end exits m) where
    -- edge x leads from v to a node one nearer exactly if it leaves v and does so by the table
    leads_by : (v : ℕ) → v < 32 → leads_nearer es ts end v x ≡ eqb (tail_of es x) v && nearer_by es ts far x
    leads_by v h = grind (arith, nat_tests, right.all (head_of es x) low, right.all v h)

    -- so its number is the exit of its tail, and of no other node
    exits_next : (after : List ℕ) → length after ≡ 32 → ((v : ℕ) → v < 32 → get_or after v 0 ≡ cond (eqb (tail_of es x) v && nearer_by es ts far x) x (get_or exits v 0)) → ExitsFrom es ts end after x
    exits_next after long is = record { sized = long; all = λ v h. from_next (leads_nearer es ts end v) (length es) x m _ _ (rw (leads_by v h) (is v h)) edge next (f.all v h) }

    pub exits_pass : nearer_by es ts far x ≡ false → ExitsFrom es ts end exits x
    exits_pass miss = exits_next exits f.sized (λ v h. grind (arith, nat_tests, miss))

    pub exits_set : (tail : ℕ) → tail_of es x ≡ tail → tail < 32 → nearer_by es ts far x ≡ true → ExitsFrom es ts end (set exits tail x) x
    exits_set tail leaves small met = exits_next (set exits tail x) (length-set exits tail x ∙ f.sized) (λ v h. grind (arith, nat_tests, met, set_at exits tail v x (omega (arith, f.sized))))

  -- ---- the table as a list, and by its entries

  pub is_table : (exits : List ℕ) → length exits ≡ 32 → ExitsTabled es ts end exits → exits ≡ exit_table es ts end
  unfolding exit_table
  is_table exits long tabled = fill_by_all (last_exit es ts end) exits 32 0 long tabled.all

  pub table_tabled : ExitsTabled es ts end (exit_table es ts end)
  unfolding exit_table
  table_tabled = record { all = λ v low. get_or-map-range_with_len (last_exit es ts end) 0 32 v v 0 low (omega arith) }
