-- The readers of numbers take just decimal numerals.
use Rattle.std.proofs.Common.{◌≡◌, ℕ, zero, suc, ◌+◌, ◌-◌, ◌*◌, ◌/◌, ◌%◌, ◌<◌, ◌≤◌, ◌&&◌, eqb, ltb, nat_lt, List, [], ◌∷◌, ◌++◌, ℤ, pos, negsuc, Some, decimal, Option, refl, ap, ◌∙◌, append_assoc, arith}
use Rattle.std.specs.Char.{is_ascii_digit}
use Rattle.std.specs.Fmt.{signed_decimal}
use Rattle.std.specs.Option.{IfSome, option_and_then}
use Rattle.std.proofs.lemmas.Fmt.{decimal_digit, decimal_step, decimal_by_steps}
use Rattle.std.proofs.lemmas.Int.{ints}
use Rattle.std.proofs.lemmas.Option.{IfSome_then, none-some}
use Rattle.std.proofs.lemmas.Bool.{cond-true, cond_both, eq-eqb, eqb-true, lt-ltb, ltb-true}
use Rattle.std.proofs.lemmas.Bool.Decides.{nat_tests}
use Rattle.grammar.specs.Numbers.{digit, with_digit, digits_on, natural_front, positive, negative, sized, integer_front, after}
use Rattle.grammar.specs.Spelling.{Natural, Integer}
use Rattle.grammar.proofs.Chains.{and_then_holds, map_holds, or_holds, test_holds}
use Rattle.grammar.proofs.Readers.{mark_before, no_mark, Ends, Found, Reads}

-- ---- one digit

digit_is : (n : ℕ) → n < 10 → digit (48 + n) ≡ Some n
digit_is n h = grind (arith, nat_tests)

digit_sound : (c : ℕ) → IfSome (digit c) (λ n. (n < 10) × (decimal n ≡ c ∷ []))
digit_sound c = test_holds (is_ascii_digit c) (Some (c - 48)) _ (λ tells. grind (arith, nat_tests, decimal_digit))

with_digit_is : (n : ℕ) → 10 ≤ n → n < 4294967296 → with_digit (n / 10) (48 + n % 10) ≡ Some n
with_digit_is n h small = grind (arith, nat_tests)

with_digit_sound : (n c : ℕ) → IfSome (with_digit n c) (λ m. Natural m × (decimal m ≡ decimal n ++ (c ∷ [])))
with_digit_sound n c =
    let m = n * 10 + (c - 48) in
    test_holds (nat_lt 0 n && (is_ascii_digit c && nat_lt m 4294967296)) (Some m) _ (λ fits. grind (arith, nat_tests, decimal_step))

-- ---- natural numbers

digit_more : (n : ℕ) (rest : List ℕ) → 10 ≤ n → n < 4294967296 → digits_on (n / 10) ((48 + n % 10) ∷ rest) ≡ digits_on n rest
digit_more n rest h small = grind (arith, nat_tests, with_digit_is)

front_decimal : (n : ℕ) → n < 4294967296 → (rest : List ℕ) → natural_front (decimal n ++ rest) ≡ digits_on n rest
front_decimal n small =
    decimal_by_steps (λ n ds. n < 4294967296 → (rest : List ℕ) → natural_front (ds ++ rest) ≡ digits_on n rest)
    (λ n h _ rest. ap (option_and_then (λ m. digits_on m rest)) (digit_is n h))
    (λ n ds h front small rest. rw append_assoc (front (omega arith) ((48 + n % 10) ∷ rest) ∙ digit_more n rest h small))
    n (omega arith) small

digits_ended : (n : ℕ) (rest : List ℕ) → Ends rest → digits_on n rest ≡ Some (n, rest)
digits_ended n [] ends = refl
digits_ended n (c ∷ cs) ends = cond-true (eqb c 32) _ _ (eq-eqb c 32 ends)

digits_sound : (n : ℕ) (text : List ℕ) → Natural n → IfSome (digits_on n text) (Found decimal Natural (decimal n ++ text))
digits_sound n [] small = (refl, small, tt)
digits_sound n (c ∷ cs) small =
    cond_both (eqb c 32) _ _ (λ o. IfSome o (Found decimal Natural (decimal n ++ (c ∷ cs)))) (λ e. (refl, small, eqb-true c 32 e)) (λ no.
    and_then_holds _ (with_digit n c) _ (with_digit_sound n c) (λ m more.
    IfSome_then (digits_on m cs) (digits_sound m cs more.0) (λ p s. (cc (append_assoc (decimal n) (c ∷ []) cs), s.1, s.2))))

natural_sound : (text : List ℕ) → IfSome (natural_front text) (Found decimal Natural text)
natural_sound [] = tt
natural_sound (c ∷ cs) =
    and_then_holds _ (digit c) _ (digit_sound c) (λ n first.
    IfSome_then (digits_on n cs) (digits_sound n cs (omega arith)) (λ p s. (cc, s.1, s.2)))

pub reads_natural : Reads natural_front decimal Natural
reads_natural = record { sound = natural_sound; complete = λ n rest small ends. front_decimal n small rest ∙ digits_ended n rest ends }

-- ---- integers

-- what a sign makes of a size
positive_sound : (n : ℕ) → IfSome (positive n) (λ z. (signed_decimal z ≡ decimal n) × Integer z)
positive_sound n = test_holds (ltb n 2147483648) _ _ (λ h. let less = ltb-true n 2147483648 h in (refl, (omega (arith, ints), omega (arith, ints))))

negative_sound : (n : ℕ) → IfSome (negative n) (λ z. (signed_decimal z ≡ 45 ∷ decimal n) × Integer z)
negative_sound zero = tt
negative_sound (suc n) = test_holds (ltb n 2147483648) _ _ (λ h. let less = ltb-true n 2147483648 h in (refl, (omega (arith, ints), omega (arith, ints))))

-- a sign of either kind: `mark` is what it writes before the size
sized_sound : (sign : ℕ → Option ℤ) (mark : List ℕ) → ((n : ℕ) → IfSome (sign n) (λ z. (signed_decimal z ≡ mark ++ decimal n) × Integer z)) →
    (text : List ℕ) → IfSome (sized sign text) (Found signed_decimal Integer (mark ++ text))
sized_sound sign mark signs text =
    and_then_holds _ (natural_front text) _ (natural_sound text) (λ q found.
    map_holds _ (sign q.0) _ (signs q.0) (λ z s. (cc (append_assoc mark (decimal q.0) q.1), s.1, found.2)))

integer_sound : (text : List ℕ) → IfSome (integer_front text) (Found signed_decimal Integer text)
integer_sound text =
    or_holds _ (after (45 ∷ []) text) _ _ (mark_before (45 ∷ []) text)
    (λ digits e. IfSome_then (sized negative digits) (sized_sound negative (45 ∷ []) negative_sound digits) (λ p s. (s.0 ∙ e, s.1, s.2)))
    (sized_sound positive [] positive_sound text)

integer_complete : (z : ℤ) (rest : List ℕ) → Integer z → Ends rest → integer_front (signed_decimal z ++ rest) ≡ Some (z, rest)
integer_complete (pos n) rest small ends =
    let less : n < 2147483648 = omega (arith, ints, small.1) in
    let size = reads_natural.complete n rest (omega arith) ends in
    let unsigned = no_mark (45 ∷ []) (decimal n ++ rest) (λ digits e. none-some (n, rest) (ap natural_front e ∙ size)) in
    rw (← unsigned, size, lt-ltb n 2147483648 less)
integer_complete (negsuc k) rest small ends =
    let less : k < 2147483648 = omega (arith, ints, small.0) in
    rw (reads_natural.complete (suc k) rest (omega arith) ends, lt-ltb k 2147483648 less)

pub reads_integer : Reads integer_front signed_decimal Integer
reads_integer = record { sound = integer_sound; complete = integer_complete }
