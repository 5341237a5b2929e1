-- The distance of a node is the length of its shortest way to the end, and its last exit is the lowest edge to a node one nearer.
use Rattle.std.proofs.Common.{All, ◌≡◌, ℕ, zero, suc, ◌+◌, ◌<◌, ◌≤◌, true, eqb, List, [], ◌∷◌, length, get_or, ◌∙◌, ⊎_elim, arith}
use Rattle.std.proofs.lemmas.List.Elements.{All-nil, All-cons, All-head, All-tail}
use Rattle.std.proofs.lemmas.Bool.{eqb-true, eq-eqb, ltb-true, lt-ltb, and_parts}
use Rattle.std.proofs.lemmas.Bool.Decides.{nat_tests}
use Rattle.task.specs.declared.edges.Edge.{Edge}
use Rattle.task.specs.Graph.{tail_of, head_of, Path}
use Rattle.task.specs.Sound.{leaving, Reaches, Walkable}
use Rattle.task.proofs.Lowest.{lowest_passes, lowest_le}
use Rattle.task.proofs.Reach as ways
use Rattle.walk.specs.Fewest.{Fewest, Nearer, LastExit}
use Rattle.walk.specs.Rule.{has_turns, near, distance, leads_nearer, last_exit}
use Rattle.walk.proofs.LowestNumbers.{lowest_says}
use Rattle.walk.proofs.TurnSums.{by_some}

abbrev pub HasTurn : List ℕ → ℕ → Type 0
HasTurn ts x = 0 < get_or ts x 0

module _ (es : List Edge) (claimed : List ℕ) (end : ℕ) where
  pub near_on : (k v x : ℕ) → x < length es → tail_of es x ≡ v → 0 < get_or claimed x 0 → near es claimed end k (head_of es x) ≡ true → near es claimed end (suc k) v ≡ true
  near_on k v x low e held on =
      let hop = ways.hop_from (length es) (tail_of es) (head_of es) (has_turns claimed) end v x e (lt-ltb 0 (get_or claimed x 0) held) in
      ways.within_on (length es) (tail_of es) (head_of es) (has_turns claimed) end k v (record { number = x; link = low; hops = hop; near = on })

  path_near : (xs : List ℕ) (v : ℕ) → Path es v end xs → All (HasTurn claimed) xs → near es claimed end (length xs) v ≡ true
  path_near [] v e all = eq-eqb v end e
  path_near (x ∷ xs) v p all = near_on (length xs) v x p.0 p.1 (All-head (HasTurn claimed) x xs all) (path_near xs (head_of es x) p.2 (All-tail (HasTurn claimed) x xs all))

  abbrev onward : (v x : ℕ) → x < length es → tail_of es x ≡ v → 0 < get_or claimed x 0 → Reaches es claimed end (head_of es x) → Reaches es claimed end v
  onward v x low e held way = (x ∷ way.0, (low, e, way.1), All-cons (HasTurn claimed) x way.0 held way.2)

  pub near_way : (k v : ℕ) → near es claimed end k v ≡ true → (way : Reaches es claimed end v) × (length way.0 ≤ k)
  near_way zero v h = (([], eqb-true v end h, All-nil (HasTurn claimed)), omega arith)
  near_way (suc k) v h = ⊎_elim
      (λ e. (([], e, All-nil (HasTurn claimed)), omega arith))
      (λ on.
      let x = on.number in
      let s = near_way k (head_of es x) on.near in
      let hop = and_parts (eqb (tail_of es x) v) (has_turns claimed x) on.hops in
      (onward v x on.link (eqb-true (tail_of es x) v hop.0) (ltb-true 0 (get_or claimed x 0) hop.1) s.0, omega (arith, s.1)))
      (ways.within_cases (length es) (tail_of es) (head_of es) (has_turns claimed) end k v h)

  distance_le : (k v : ℕ) → near es claimed end k v ≡ true → distance es claimed end v ≤ k
  unfolding distance
  distance_le k v h = lowest_le (λ i. near es claimed end i v) (length es + 2) k h

  -- a node that reaches the end is within its distance
  distance_near : (k v : ℕ) → near es claimed end k v ≡ true → near es claimed end (distance es claimed end v) v ≡ true
  unfolding distance
  distance_near k v h =
      let bound = ways.within_bound (length es) (tail_of es) (head_of es) (has_turns claimed) end k v h in
      lowest_passes (λ i. near es claimed end i v) (length es + 2) (omega (arith, distance_le (suc (length es)) v bound))

  no_longer : (v : ℕ) (way : Reaches es claimed end v) → distance es claimed end v ≤ length way.0
  no_longer v way = distance_le (length way.0) v (path_near way.0 v way.1 way.2)

  pub fewest : (v : ℕ) → Reaches es claimed end v → Fewest es claimed end v (distance es claimed end v)
  fewest v way =
      let s = near_way (distance es claimed end v) v (distance_near (length way.0) v (path_near way.0 v way.1 way.2)) in
      record { way = s.0; long = omega (arith, s.1, no_longer v s.0); fewest = no_longer v }

  -- there is only one such number
  pub fewest_is : (v d : ℕ) → Fewest es claimed end v d → distance es claimed end v ≡ d
  fewest_is v d f = let g = fewest v f.way in omega (arith, no_longer v f.way, f.long, f.fewest g.way, g.long)

  -- ---- the last exit

  leads : (v x : ℕ) → tail_of es x ≡ v → 0 < get_or claimed x 0 → distance es claimed end (head_of es x) + 1 ≡ distance es claimed end v → leads_nearer es claimed end v x ≡ true
  leads v x e held one = grind (arith, nat_tests)

  leads_parts : (v x : ℕ) → leads_nearer es claimed end v x ≡ true → (tail_of es x ≡ v) × (0 < get_or claimed x 0) × (distance es claimed end v ≡ suc (distance es claimed end (head_of es x)))
  leads_parts v x t = (grind (arith, nat_tests), grind (arith, nat_tests), grind (arith, nat_tests))

  nearer_leads : (v x : ℕ) → Nearer es claimed end v x → leads_nearer es claimed end v x ≡ true
  nearer_leads v x n = leads v x n.leaves n.held (omega (arith, fewest_is v (suc n.far) n.from, fewest_is (head_of es x) n.far n.to))

  -- the first edge of a shortest way leads one nearer
  some_nearer : (v : ℕ) → (v ≡ end → ⊥) → (xs : List ℕ) → Path es v end xs → All (HasTurn claimed) xs → length xs ≡ distance es claimed end v →
      (x : ℕ) × (x < length es) × (leads_nearer es claimed end v x ≡ true)
  some_nearer v off [] e all long = absurd (off e)
  some_nearer v off (x ∷ xs) p all long =
      let way : Reaches es claimed end (head_of es x) = (xs, p.2, All-tail (HasTurn claimed) x xs all) in
      let g = fewest (head_of es x) way in
      let held = All-head (HasTurn claimed) x xs all in
      let one : distance es claimed end (head_of es x) + 1 ≡ distance es claimed end v = omega (arith, long, no_longer (head_of es x) way, g.long, no_longer v (onward v x p.0 p.1 held g.way)) in
      (x, p.0, leads v x p.1 held one)

  module _ (start : ℕ) (walkable : Walkable es start end claimed) (v : ℕ) where
    is_nearer : (x : ℕ) → x < length es → leads_nearer es claimed end v x ≡ true → Nearer es claimed end v x
    is_nearer x low t =
        let l = leads_parts v x t in
        let way = walkable.reaches x low l.1 in
        record { edge = low; leaves = l.0; held = l.1; far = distance es claimed end (head_of es x); from = rw l.2 at (fewest v (onward v x low l.0 l.1 way)); to = fewest (head_of es x) way }

    module _ (some : 0 < leaving es claimed v) where
      pub off_end : v ≡ end → ⊥
      off_end e = let s = by_some (λ d. eqb d.tail v) es claimed some in walkable.no_way_on s.number s.edge (eqb-true (tail_of es s.number) v s.passes ∙ e)

      pub exit_last : LastExit es claimed end v (last_exit es claimed end v)
      exit_last =
          let test = leads_nearer es claimed end v in
          let s = by_some (λ d. eqb d.tail v) es claimed some in
          let f = fewest v (onward v s.number s.edge (eqb-true (tail_of es s.number) v s.passes) s.held (walkable.reaches s.number s.edge s.held)) in
          let n = some_nearer v off_end f.way.0 f.way.1 f.way.2 f.long in
          lowest_says test (length es) (Nearer es claimed end v) is_nearer (nearer_leads v) (omega (arith, n.1, lowest_le test (length es) n.0 n.2))
