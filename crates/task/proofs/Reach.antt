-- The goal is reached over live links exactly if it is within one more of them than there are.
use Rattle.std.proofs.Common.{◌≡◌, ℕ, zero, suc, ◌<◌, ◌≤◌, Bool, true, false, ◌&&◌, eqb, ◌⊎◌, List, [], ◌∷◌, length, sym, refl, subst, inl, inr, ⊎_elim, arith}
use Rattle.std.specs.List.{AllByRecursion, IsDistinct, list_any}
use Rattle.std.proofs.lemmas.Bool.{both_ways, eqb-true, eq-eqb, ltb-true, and_parts, and_from, or_cases, or_left, or_parts, cases_Bool}
use Rattle.std.proofs.lemmas.Bool.Decides.{nat_tests}
use Rattle.std.proofs.lemmas.Map.Keys.{IsDistinct-tail, IsDistinct-cons}
use Rattle.std.proofs.lemmas.Map.Steps.{length-le_from_distinct_below}
use Rattle.task.specs.Lowest.{lowest}
use Rattle.task.specs.Ways.{Way, hop, within}
use Rattle.task.proofs.Lowest.{lowest_passes, lowest_le}

module _ (n : ℕ) (from to : ℕ → ℕ) (live : ℕ → Bool) (goal : ℕ) where
  pub hop_from : (v x : ℕ) → from x ≡ v → live x ≡ true → hop n from to live v x ≡ true
  hop_from v x e h = and_from (eqb (from x) v) (live x) (eq-eqb (from x) v e) h

  hop_tells : (v x : ℕ) → hop n from to live v x ≡ true → (from x ≡ v) × (live x ≡ true)
  hop_tells v x h = let parts = and_parts (eqb (from x) v) (live x) h in (eqb-true (from x) v parts.0, parts.1)

  -- a live link from v to a node within k
  pub record Onward (k v : ℕ) : Type 0 where
    pub number : ℕ
    pub link : number < n
    pub hops : hop n from to live v number ≡ true
    pub near : within n from to live goal k (to number) ≡ true

  pub within_end : (k v : ℕ) → v ≡ goal → within n from to live goal k v ≡ true
  within_end zero v e = eq-eqb v goal e
  within_end (suc k) v e = or_left (eqb v goal) _ (eq-eqb v goal e)

  -- link x is live, leaves v, and leads to a node within k
  abbrev leads : ℕ → ℕ → ℕ → Bool
  leads k v x = hop n from to live v x && within n from to live goal k (to x)

  pub within_on : (k v : ℕ) → Onward k v → within n from to live goal (suc k) v ≡ true
  within_on k v on = grind (arith, nat_tests, on.link, lowest_le (leads k v) n on.number (and_from _ _ on.hops on.near))

  pub within_cases : (k v : ℕ) → within n from to live goal (suc k) v ≡ true → (v ≡ goal) ⊎ Onward k v
  within_cases k v h = ⊎_elim
      (λ e. inl (eqb-true v goal e))
      (λ t.
      let x = lowest (leads k v) n in
      let parts = and_parts (hop n from to live v x) _ (lowest_passes (leads k v) n (ltb-true x n t)) in
      inr (record { number = x; link = ltb-true x n t; hops = parts.0; near = parts.1 }))
      (or_cases (eqb v goal) _ h)

  -- a way that is no longer than k
  way_within : (xs : List ℕ) (k v : ℕ) → length xs ≤ k → Way n from to live v goal xs → within n from to live goal k v ≡ true
  way_within [] k v short e = within_end k v e
  way_within (x ∷ xs) zero v short w = absurd (omega arith)
  way_within (x ∷ xs) (suc k) v short w = within_on k v (record { number = x; link = w.0; hops = hop_from v x w.1 w.2; near = way_within xs k (to x) (omega arith) w.3 })

  pub within_way : (k v : ℕ) → within n from to live goal k v ≡ true → (xs : List ℕ) × Way n from to live v goal xs
  within_way zero v h = ([], eqb-true v goal h)
  within_way (suc k) v h = ⊎_elim
      (λ e. ([], e))
      (λ on. let rest = within_way k (to on.number) on.near in let hops = hop_tells v on.number on.hops in (on.number ∷ rest.0, (on.link, hops.0, hops.1, rest.1)))
      (within_cases k v h)

  -- ---- a way that takes no link twice

  record Simple (v : ℕ) : Type 0 where
    links : List ℕ
    way : Way n from to live v goal links
    once : IsDistinct eqb links

  -- a link of such a way exists, and the way from its last place on is one
  from_link : (x : ℕ) (xs : List ℕ) (v : ℕ) → Way n from to live v goal xs → IsDistinct eqb xs → list_any (eqb x) xs ≡ true → (x < n) × Simple (from x)
  from_link x [] v w once h = absurd (both_ways false refl h)
  from_link x (y ∷ ys) v w once h = ⊎_elim
      (λ same. let is : x ≡ y = eqb-true x y same in rw is (w.0, record { links = y ∷ ys; way = (w.0, refl, w.2, w.3); once = once }))
      (λ later. from_link x ys (to y) w.3 (IsDistinct-tail eqb y ys once) later)
      (or_cases (eqb x y) (list_any (eqb x) ys) h)

  apart : (x : ℕ) (xs : List ℕ) → list_any (eqb x) xs ≡ false → AllByRecursion (λ y. eqb x y ≡ false) xs
  apart x [] h = tt
  apart x (y ∷ ys) h = let parts = or_parts (eqb x y) (list_any (eqb x) ys) h in (parts.0, apart x ys parts.1)

  simple : (xs : List ℕ) (v : ℕ) → Way n from to live v goal xs → Simple v
  simple [] v w = record { links = []; way = w; once = unfold IsDistinct in tt }
  simple (x ∷ xs) v w =
      let rest = simple xs (to x) w.3 in
      ⊎_elim
      (λ again. rw w.1 at ((from_link x rest.links (to x) rest.way rest.once again).1))
      (λ new. record { links = x ∷ rest.links; way = (w.0, w.1, w.2, rest.way); once = IsDistinct-cons eqb x rest.links (apart x rest.links new) rest.once })
      (cases_Bool (list_any (eqb x) rest.links))

  -- ---- both ways

  pub way_reach : (v : ℕ) (xs : List ℕ) → Way n from to live v goal xs → within n from to live goal (suc n) v ≡ true
  way_reach v xs w =
      let short = simple xs v w in
      way_within short.links (suc n) v (omega (arith, length-le_from_distinct_below short.links n short.once (λ q h. (from_link q short.links v short.way short.once h).0))) short.way

  pub within_bound : (k v : ℕ) → within n from to live goal k v ≡ true → within n from to live goal (suc n) v ≡ true
  within_bound k v h = let way = within_way k v h in way_reach v way.0 way.1

  -- marks that hold of the goal and spread back over every live link hold wherever the goal is reached
  pub spread_way : (marks : ℕ → Bool) → marks goal ≡ true → ((x : ℕ) → x < n → live x ≡ true → marks (to x) ≡ true → marks (from x) ≡ true) →
      (xs : List ℕ) (v : ℕ) → Way n from to live v goal xs → marks v ≡ true
  spread_way marks at spread [] v e = subst (λ u. marks u ≡ true) (sym e) at
  spread_way marks at spread (x ∷ xs) v w = subst (λ u. marks u ≡ true) w.1 (spread x w.0 w.2 (spread_way marks at spread xs (to x) w.3))

-- ---- the same way, the other way round

-- a way, and what was taken before it
pub way_back : (n : ℕ) (from to : ℕ → ℕ) (live : ℕ → Bool) (u w z : ℕ) (xs ys : List ℕ) → Way n from to live u w xs → Way n to from live u z ys → (zs : List ℕ) × Way n to from live w z zs
way_back n from to live u w z [] ys p q = (ys, rw p at q)
way_back n from to live u w z (x ∷ xs) ys p q = way_back n from to live (to x) w z xs (x ∷ ys) p.3 (p.0, refl, p.2, rw p.1 q)
