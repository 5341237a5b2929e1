-- Records in range can be judged.
use Rattle.std.proofs.Common.{◌≡◌, ℕ, zero, suc, ◌+◌, ◌≤◌, Bool, true, false, List, [], ◌∷◌, ◌++◌, length, ℤ, pos, negsuc, nat_abs, ◌≤ℤ◌, Ok, sym, refl, subst, arith, length-append, int_le}
use Rattle.std.specs.Bool.{IsTrue}
use Rattle.std.proofs.lemmas.List.{get_or_append_left, get_or-append-add}
use Rattle.std.specs.List.{All, flat_map}
use Rattle.std.proofs.lemmas.Int.{ints}
use Rattle.std.proofs.lemmas.List.Elements.{All-nil, All-cons, All-head, All-tail}
use Rattle.std.proofs.lemmas.Bool.{and_parts}
use Rattle.task.specs.Coefficients.{in_range}
use Rattle.certificate.specs.RangeTests.{up_to, near, record_tests, tests}
use Rattle.certificate.specs.Ahead.{records}
use Rattle.certificate.specs.Ready.{Small, Bounded}
use Rattle.certificate.specs.Tasks.{Answer}
use Rattle.certificate.specs.Trees.{Tree, TreeRecord, leaf_record, split_record}
use Rattle.certificate.specs.Verdicts.{range_answer}
use Rattle.certificate.proofs.TreeRecords.{tests_tree}
use Rattle.task.proofs.Smalls.{within_is}

pub all_front : {X : Type 0} (P : X → Type 0) (xs ys : List X) → All P (xs ++ ys) → All P xs
all_front P xs ys h k d low = subst P (get_or_append_left xs ys d k low) (h k d (omega (arith, length-append xs ys)))

pub all_behind : {X : Type 0} (P : X → Type 0) (xs ys : List X) → All P (xs ++ ys) → All P ys
all_behind P xs ys h k d low = subst P (get_or-append-add xs ys k d) (h (length xs + k) d (omega (arith, length-append xs ys)))

all_pass : (p : ℕ) (bs : List Bool) → range_answer p bs ≡ Ok tt → All IsTrue bs
all_pass p [] e = All-nil IsTrue
all_pass p (true ∷ bs) e = All-cons IsTrue true bs refl (all_pass (p + 1) bs e)
all_pass p (false ∷ bs) e = cc

small : (xs : List ℤ) → All IsTrue (near xs) → Small xs
small [] h k = (omega (arith, ints), omega (arith, ints))
small (x ∷ xs) h zero = within_is 67108864 x (All-head IsTrue (in_range 67108864 x) (near xs) h)
small (x ∷ xs) h (suc k) = small xs (All-tail IsTrue (in_range 67108864 x) (near xs) h) k

pub limited : (high z : ℤ) (n : ℕ) → high ≤ℤ pos n → up_to high z ≡ true → nat_abs z ≤ n
limited high (pos k) n h e = let t = and_parts (int_le (pos 0) (pos k)) (int_le (pos k) high) e in grind (arith, ints, t)
limited high (negsuc k) n h e = let t = and_parts (int_le (pos 0) (negsuc k)) (int_le (negsuc k) high) e in grind (arith, ints, t)

module _ (edges : ℕ) (top : ℤ) (few : top ≤ℤ pos 1000) where
  of_record : (r : TreeRecord) → All IsTrue (record_tests edges top r) → Bounded r
  of_record (leaf_record d ps ms) h =
      let rest = all_behind IsTrue (true ∷ up_to top d ∷ []) (near ps ++ near ms) h in
      (limited top d 1000 few (h 1 true (omega arith)), small ps (all_front IsTrue (near ps) (near ms) rest), small ms (all_behind IsTrue (near ps) (near ms) rest))
  of_record (split_record a m) h = limited (pos 1048575) m 1048575 (omega (arith, ints)) (h 2 true (omega arith))

  pub record_bounded : (p : ℕ) (r : TreeRecord) → range_answer p (record_tests edges top r) ≡ Ok tt → Bounded r
  record_bounded p r e = of_record r (all_pass p (record_tests edges top r) e)

  all_bounded : (rs : List TreeRecord) → All IsTrue (flat_map (record_tests edges top) rs) → All Bounded rs
  all_bounded [] h = All-nil Bounded
  all_bounded (r ∷ rs) h =
      let rest : List Bool = flat_map (record_tests edges top) rs in
      All-cons Bounded r rs (of_record r (all_front IsTrue (record_tests edges top r) rest h)) (all_bounded rs (all_behind IsTrue (record_tests edges top r) rest h))

  pub tree_bounded : (t : Tree) → ◌≡◌ {A = Answer} (Ok tt) (range_answer 0 (tests edges top t)) → All Bounded (records t)
  tree_bounded t e = all_bounded (records t) (subst (All IsTrue) (sym (tests_tree edges top t)) (all_pass 0 (tests edges top t) (sym e)))
