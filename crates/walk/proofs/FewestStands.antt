-- The distance, the last exit and the rule, as they are computed, are what paths and lowest numbers say.
use Rattle.std.proofs.Common.{◌≡◌, ℕ, ◌<◌, ◌≤◌, true, eqb, ltb, ◌⊎◌, List, length, Some, None, sym, ap, ◌∙◌, subst, inl, inr, ⊎_elim, arith}
use Rattle.std.proofs.lemmas.Bool.{cases_lt, cond-true, cond-false, lt-ltb, le-ltb, ne_eqb}
use Rattle.std.proofs.lemmas.Bool.Decides.{nat_tests}
use Rattle.std.proofs.lemmas.Option.{same_Some}
use Rattle.task.specs.declared.edges.Edge.{Edge}
use Rattle.task.specs.Sound.{leaving, Walkable}
use Rattle.task.proofs.Lowest.{lowest_le}
use Rattle.walk.specs.Fewest.{Lowest, Nearer, Spare, Takes, FewestStands}
use Rattle.walk.specs.Rule.{spares, first_beside, beside, taken, last_exit, next}
use Rattle.walk.proofs.LowestNumbers.{only_lowest, lowest_says}
use Rattle.walk.proofs.ShortestWays.{fewest, off_end, exit_last}

-- ---- the edge that is taken, given the last exit

abbrev pub SpareOrLast : List Edge → List ℕ → ℕ → ℕ → ℕ → Type 0
SpareOrLast es left v last x = Lowest (Spare es left v last) x ⊎ ((x ≡ last) × ((y : ℕ) → Spare es left v last y → ⊥))

module _ (es : List Edge) (left : List ℕ) (v last : ℕ) where
  only_one : (x y : ℕ) → SpareOrLast es left v last x → SpareOrLast es left v last y → x ≡ y
  only_one x y (inl p) (inl q) = only_lowest (Spare es left v last) x y p q
  only_one x y (inl p) (inr q) = absurd (q.1 x p.is)
  only_one x y (inr p) (inl q) = absurd (p.1 y q.is)
  only_one x y (inr p) (inr q) = p.0 ∙ sym q.0

  is_spare : (x : ℕ) → x < length es → spares es left v last x ≡ true → Spare es left v last x
  is_spare x low t = record { edge = low; leaves = grind (arith, nat_tests); held = grind (arith, nat_tests); aside = λ e. grind (arith, nat_tests) }

  spare_passes : (x : ℕ) → Spare es left v last x → spares es left v last x ≡ true
  spare_passes x s = grind (arith, nat_tests)

  pub beside_says : SpareOrLast es left v last (beside es left v last)
  beside_says =
      let test = spares es left v last in
      let x = first_beside es left v last in
      ⊎_elim
      (λ (low : x < length es). inl (rw (cond-true (ltb x (length es)) x last (lt-ltb x (length es) low)) (lowest_says test (length es) (Spare es left v last) is_spare spare_passes low)))
      (λ (high : length es ≤ x). inr (cond-false (ltb x (length es)) x last (le-ltb x (length es) high), λ y s. omega (arith, s.edge, lowest_le test (length es) y (spare_passes y s))))
      (cases_lt x (length es))

  pub taken_off : (end : ℕ) → (v ≡ end → ⊥) → taken es left v end last ≡ Some (beside es left v last)
  taken_off end off = cond-false (eqb v end) None (Some (beside es left v last)) (ne_eqb v end off)

-- ---- by the rule

module _ (es : List Edge) (start end : ℕ) (claimed : List ℕ) (walkable : Walkable es start end claimed) (left : List ℕ) (v x : ℕ) (some : 0 < leaving es claimed v) where
  answers : next es claimed end left v ≡ Some (beside es left v (last_exit es claimed end v))
  answers = taken_off es left v (last_exit es claimed end v) end (off_end es claimed end start walkable v some)

  takes : next es claimed end left v ≡ Some x → Takes es claimed end left v x
  takes e =
      let exit = last_exit es claimed end v in
      let same = same_Some (beside es left v exit) x (sym answers ∙ e) in
      record { last = exit; is_last = exit_last es claimed end start walkable v some; takes = subst (SpareOrLast es left v exit) same (beside_says es left v exit) }

  taken_so : Takes es claimed end left v x → next es claimed end left v ≡ Some x
  taken_so t =
      let exit = last_exit es claimed end v in
      let same = only_lowest (Nearer es claimed end v) t.last exit t.is_last (exit_last es claimed end start walkable v some) in
      answers ∙ ap Some (only_one es left v exit (beside es left v exit) x (beside_says es left v exit) (subst (λ last. SpareOrLast es left v last x) same t.takes))

pub fewest_stands : FewestStands
fewest_stands es start end claimed walkable = record {
  distances = fewest es claimed end;
  exits = exit_last es claimed end start walkable;
  steps = λ left v x some. (takes es start end claimed walkable left v x some, taken_so es start end claimed walkable left v x some);
}
