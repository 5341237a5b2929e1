-- The records of a tree, one after another: they spell it, stand where they may, and have its tests.
use Rattle.std.proofs.Common.{◌≡◌, ℕ, zero, suc, ◌+◌, ◌≤◌, List, [], ◌∷◌, ◌++◌, length, ℤ, pos, nat_abs, ap, ◌∙◌, subst, append_assoc, arith, length-append}
use Rattle.std.specs.List.{flat_map}
use Rattle.std.proofs.lemmas.List.{append-nil}
use Rattle.std.proofs.lemmas.List.Concat.{flat_map-append}
use Rattle.certificate.specs.Ahead.{records, numbers, written, AllHavePlace}
use Rattle.certificate.specs.RangeTests.{record_tests, tests}
use Rattle.certificate.specs.Splits.{Branch, first_of, second_of, onward}
use Rattle.certificate.specs.Trees.{Tree, leaf, split, TreeRecord, leaf_record, split_record, spelled, Fits}
use Rattle.certificate.proofs.Onward.{onward_first, onward_second}

pub written_tree : (t : Tree) → written (records t) ≡ spelled t
written_tree (leaf d ps ms) = append-nil (pos 0 ∷ d ∷ (ps ++ ms))
written_tree (split e m a b) = ap (λ xs. pos 1 ∷ e ∷ m ∷ xs) (flat_map-append numbers (records a) (records b) ∙ (λ i. written_tree a i ++ written_tree b i))

pub tests_tree : (edges : ℕ) (top : ℤ) (t : Tree) → flat_map (record_tests edges top) (records t) ≡ tests edges top t
tests_tree edges top (leaf d ps ms) = append-nil (record_tests edges top (leaf_record d ps ms))
tests_tree edges top (split e m a b) =
    ap (λ bs. record_tests edges top (split_record e m) ++ bs)
    (flat_map-append (record_tests edges top) (records a) (records b) ∙ (λ i. tests_tree edges top a i ++ tests_tree edges top b i))

module _ (nodes rows : ℕ) where
  -- a tree, and then what stands behind it
  pub stand : (k : ℕ) (t : Tree) (ts : List Branch) (rs : List TreeRecord) → Fits k nodes (rows + length ts) t → length ts + k ≤ 12 → AllHavePlace nodes rows (onward ts) rs → AllHavePlace nodes rows ts (records t ++ rs)
  stand zero (leaf d ps ms) ts rs f h then = (f, then)
  stand (suc k) (leaf d ps ms) ts rs f h then = (f, then)
  stand zero (split e m a b) ts rs f h then = absurd f
  stand (suc k) (split e m a b) ts rs f h then =
      let pushed : (t : Branch) → rows + length ts + 1 ≡ rows + length (ts ++ (t ∷ [])) = λ t. simp length-append (omega arith) in
      let down : (t : Branch) → length (ts ++ (t ∷ [])) + k ≤ 12 = λ t. simp length-append (omega arith) in
      let low : Branch = first_of (nat_abs e) (nat_abs m) in
      let high : Branch = second_of (nat_abs e) (nat_abs m) in
      let last : AllHavePlace nodes rows (ts ++ (high ∷ [])) (records b ++ rs) =
      stand k b (ts ++ (high ∷ [])) rs (subst (λ (n : ℕ). Fits k nodes n b) (pushed high) f.1) (down high) (rw onward_second then) in
      let both : AllHavePlace nodes rows (ts ++ (low ∷ [])) (records a ++ (records b ++ rs)) =
      stand k a (ts ++ (low ∷ [])) (records b ++ rs) (subst (λ (n : ℕ). Fits k nodes n a) (pushed low) f.0) (down low) (rw onward_first last) in
      (omega arith, rw (append_assoc (records a) (records b) rs) both)
