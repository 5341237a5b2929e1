-- What the rows charge, from the front and by the sum of the code.
use Rattle.std.proofs.Common.{◌≡◌, ℕ, zero as none, suc, ◌+◌, ◌*◌, List, [], ◌∷◌, map, length, get_or, ℤ, pos, sym, refl, ap, ◌∙◌, arith}
use Rattle.price.specs.Pairs.{Pair, zero, ◌⊕◌, times}
use Rattle.price.proofs.PairSums.{parts, ⊕-assoc, ⊕-zero, zero-⊕, times_zero}
use Rattle.certificate.specs.Columns.{charged}
use Rattle.certificate.specs.Lines.{Line, charge, pairs}

-- without multipliers nothing is charged
charged_none : (xs : List ℤ) (n : ℕ) → charged xs [] n ≡ zero
charged_none xs none = refl
charged_none xs (suc n) = ap (λ s. s ⊕ times (get_or xs n (pos 0)) zero) (charged_none xs n) ∙ zero-⊕ (times (get_or xs n (pos 0)) zero) ∙ times_zero (get_or xs n (pos 0))

-- the first row, and the others
charged_shift : (x : ℤ) (xs : List ℤ) (m : Pair) (ms : List Pair) (n : ℕ) → charged (x ∷ xs) (m ∷ ms) (suc n) ≡ times x m ⊕ charged xs ms n
charged_shift x xs m ms none = zero-⊕ (times x m) ∙ sym (⊕-zero (times x m))
charged_shift x xs m ms (suc n) =
    ap (λ s. s ⊕ times (get_or xs n (pos 0)) (get_or ms n zero)) (charged_shift x xs m ms n)
    ∙ ⊕-assoc (times x m) (charged xs ms n) (times (get_or xs n (pos 0)) (get_or ms n zero))

charge_front : (f : Line → ℤ) (lines : List Line) (ms : List Pair) → charge f lines ms ≡ charged (map f lines) ms (length lines)
charge_front f [] ms = refl
charge_front f (r ∷ rs) [] = sym (charged_none (map f (r ∷ rs)) (suc (length rs)))
charge_front f (r ∷ rs) (m ∷ ms) = ap (λ s. times (f r) m ⊕ s) (charge_front f rs ms) ∙ sym (charged_shift (f r) (map f rs) m ms (length rs))

pub charge_is : (f : Line → ℤ) (lines : List Line) (xs : List ℤ) (ms : List Pair) (n : ℕ) → map f lines ≡ xs → length lines ≡ n → charge f lines ms ≡ charged xs ms n
charge_is f lines xs ms n e l = charge_front f lines ms ∙ (λ i. charged (e i) ms (l i))

pub pairs_at : (ps : List ℤ) (i : ℕ) → get_or (pairs ps) i zero ≡ (get_or ps (2 * i) (pos 0), get_or ps (2 * i + 1) (pos 0))
pairs_at [] i = refl
pairs_at (a ∷ []) none = refl
pairs_at (a ∷ []) (suc i) =
    let e : 2 * suc i ≡ suc (2 * i + 1) = omega arith in
    let d : 2 * suc i + 1 ≡ suc (2 * i + 2) = omega arith in
    sym (parts (ap (λ (k : ℕ). get_or (a ∷ []) k (pos 0)) e) (ap (λ (k : ℕ). get_or (a ∷ []) k (pos 0)) d))
pairs_at (a ∷ b ∷ ps) none = refl
pairs_at (a ∷ b ∷ ps) (suc i) =
    let e : 2 * suc i ≡ suc (suc (2 * i)) = omega arith in
    let d : 2 * suc i + 1 ≡ suc (suc (2 * i + 1)) = omega arith in
    pairs_at ps i ∙ sym (parts (ap (λ (k : ℕ). get_or (a ∷ b ∷ ps) k (pos 0)) e) (ap (λ (k : ℕ). get_or (a ∷ b ∷ ps) k (pos 0)) d))
