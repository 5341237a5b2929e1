-- The first number out of range: of a leaf, and of records one after another.
use Rattle.std.proofs.Common.{◌≡◌, ℕ, ◌+◌, Bool, true, false, cond, not, List, [], ◌∷◌, ◌++◌, length, position, ℤ, Some, None, Ok, Err, Option, sym, ap, ◌∙◌, refl, arith, length-append}
use Rattle.std.specs.List.{flat_map}
use Rattle.std.proofs.lemmas.List.{length-map}
use Rattle.std.specs.List.{position_from}
use Rattle.std.proofs.lemmas.Iterator.Adapters.{position_from-zero}
use Rattle.price.specs.Questions.{ask}
use Rattle.task.specs.Coefficients.{in_range}
use Rattle.certificate.specs.declared.faults.TreeFault.TheVariants.{Range}
use Rattle.certificate.specs.declared.records.Records.{Records}
use Rattle.certificate.specs.Ahead.{numbers, place_of}
use Rattle.certificate.specs.RangeTests.{near, far, record_tests}
use Rattle.certificate.specs.Tasks.{Answer}
use Rattle.certificate.specs.Trees.{TreeRecord, leaf_record, split_record}
use Rattle.certificate.specs.Verdicts.{before, range_answer}
use Rattle.certificate.proofs.FirstOfTwo.{first_append, FirstOf, first_of}

-- ---- a list of potentials or of multipliers

abbrev pub refused : ℕ → Option ℕ → Answer
refused place None = Ok tt
refused place (Some i) = Err (Range (place + i))

range_from : (place n : ℕ) (xs : List ℤ) → range_answer (place + n) (near xs) ≡ refused place (position_from far n xs)
range_from place n [] = refl
range_from place n (x ∷ xs) =
    let e : place + n + 1 ≡ place + (n + 1) = omega arith in
    let rest = ap (λ (k : ℕ). range_answer k (near xs)) e ∙ range_from place (n + 1) xs in
    elim (in_range 67108864 x) as (λ b. ask b (Range (place + n)) (range_answer (place + n + 1) (near xs)) ≡ refused place (cond (not b) (Some n) (position_from far (n + 1) xs))) [ true ↦ rest | false ↦ refl ]

pub range_first : (place : ℕ) (xs : List ℤ) → range_answer place (near xs) ≡ refused place (position far xs)
range_first place xs =
    let e : place ≡ place + 0 = omega arith in
    ap (λ (k : ℕ). range_answer k (near xs)) e ∙ range_from place 0 xs ∙ ap (refused place) (sym (position_from-zero far xs))

-- ---- records

near_long : (xs : List ℤ) → length (near xs) ≡ length xs
near_long xs = length-map xs (in_range 67108864)

-- a leaf whose scale has passed
pub leaf_range : (p : ℕ) (ok : Bool) (ps ms : List ℤ) → ok ≡ true →
    range_answer (p + 1) (ok ∷ (near ps ++ near ms)) ≡ before (range_answer (p + 2) (near ps)) (range_answer (p + 2 + length ps) (near ms))
leaf_range p ok ps ms yes! =
    let e : p + 1 + 1 ≡ p + 2 = omega arith in
    let l : p + 2 + length (near ps) ≡ p + 2 + length ps = let n = near_long ps in omega arith in
    ap (λ b. range_answer (p + 1) (b ∷ (near ps ++ near ms))) yes! ∙ ap (λ (k : ℕ). range_answer k (near ps ++ near ms)) e
    ∙ first_append (λ i b. b) Range (p + 2) (near ps) (near ms) ∙ ap (λ (k : ℕ). before (range_answer (p + 2) (near ps)) (range_answer k (near ms))) l

-- a test for each number
tests_long : (edges : ℕ) (top : ℤ) (r : TreeRecord) → length (record_tests edges top r) ≡ length (numbers r)
tests_long edges top (leaf_record d ps ms) = let p = near_long ps in let q = near_long ms in simp length-append (omega arith)
tests_long edges top (split_record e m) = omega arith

-- the answer is that of the records ahead
pub record Asking (edges : ℕ) (top : ℤ) (all : Answer) (r : Records) (rs : List TreeRecord) : Type 0 where
  pub same : all ≡ range_answer (place_of r) (flat_map (record_tests edges top) rs)

-- the record in front, and those behind it
pub first_asked : {edges : ℕ} {top : ℤ} {all : Answer} {r : Records} {q : TreeRecord} {qs : List TreeRecord} {p : ℕ} → Asking edges top all r (q ∷ qs) → p ≡ place_of r →
    FirstOf all (range_answer p (record_tests edges top q)) (range_answer (place_of r + length (numbers q)) (flat_map (record_tests edges top) qs))
first_asked {edges} {top} {all} {r} {q} {qs} {p} a place =
    first_of all _ _ (a.same ∙ first_append (λ i b. b) Range (place_of r) (record_tests edges top q) (flat_map (record_tests edges top) qs)
    ∙ (λ i. before (range_answer (sym place i) (record_tests edges top q)) (range_answer (place_of r + tests_long edges top q i) (flat_map (record_tests edges top) qs))))
