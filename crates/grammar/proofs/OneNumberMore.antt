-- What was read and what is still to read make up the answer: one number more is read.
use Rattle.std.proofs.Common.{◌≡◌, ℕ, zero, suc, ◌≤◌, List, [], ◌∷◌, ◌++◌, length, ℤ, Some, None, Option, sym, refl, ap, append_assoc, arith}
use Rattle.std.specs.Option.{option_map}
use Rattle.grammar.specs.Numbers.{natural_after, integer_after}
use Rattle.grammar.specs.Reading.{naturals_front, integers_in}

-- numbers that were read before
abbrev pub joined : List ℕ → Option (List ℕ × List ℕ) → Option (List ℕ × List ℕ)
joined ns o = option_map (λ q. (ns ++ q.0, q.1)) o

abbrev pub behind : List ℤ → Option (List ℤ) → Option (List ℤ)
behind zs o = option_map (λ ys. zs ++ ys) o

joined_one : (ns : List ℕ) (n : ℕ) (o : Option (List ℕ × List ℕ)) → joined ns (joined (n ∷ []) o) ≡ joined (ns ++ (n ∷ [])) o
joined_one ns n None = refl
joined_one ns n (Some q) = ap (λ ms. Some (ms, q.1)) (sym (append_assoc ns (n ∷ []) q.0))

pub naturals_more : (ns : List ℕ) (k left n : ℕ) (text rest : List ℕ) → k ≡ suc left → Some (n, rest) ≡ natural_after text →
    joined ns (naturals_front k text) ≡ joined (ns ++ (n ∷ [])) (naturals_front left rest)
naturals_more ns k left n text rest less e = rw (less, ← e) (joined_one ns n (naturals_front left rest))

behind_one : (zs : List ℤ) (z : ℤ) (o : Option (List ℤ)) → behind zs (behind (z ∷ []) o) ≡ behind (zs ++ (z ∷ [])) o
behind_one zs z None = refl
behind_one zs z (Some ys) = ap Some (sym (append_assoc zs (z ∷ []) ys))

pub integers_more : (zs : List ℤ) (room left : ℕ) (z : ℤ) (text rest : List ℕ) → room ≡ suc left → 1 ≤ length text → Some (z, rest) ≡ integer_after text →
    behind zs (integers_in room text) ≡ behind (zs ++ (z ∷ [])) (integers_in left rest)
integers_more zs room left z [] rest less some e = absurd (omega arith)
integers_more zs room left z (c ∷ cs) rest less some e = rw (less, ← e) (behind_one zs z (integers_in left rest))

-- where no number can be read
pub integers_none : (room : ℕ) (text : List ℕ) → 1 ≤ room → 1 ≤ length text → None ≡ integer_after text → integers_in room text ≡ None
integers_none room [] some long e = absurd (omega arith)
integers_none zero (c ∷ cs) some long e = absurd (omega arith)
integers_none (suc room) (c ∷ cs) some long e = rw (← e) refl
