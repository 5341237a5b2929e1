-- The number at the front of a text: it ends where the text ends or at a blank.
use Rattle.std.specs.Prelude.{ℕ, zero, suc, ◌+◌, ◌-◌, ◌*◌, cond, ◌&&◌, List, [], ◌∷◌, ℤ, pos, negsuc, Some, None, Option, ◌==◌, nat_lt}
use Rattle.std.specs.Char.{is_ascii_digit}
use Rattle.std.specs.Option.{option_and_then, option_map, option_map_or}

-- the value of a digit
abbrev pub digit : ℕ → Option ℕ
digit c = cond (is_ascii_digit c) (Some (c - 48)) None

-- a number with one more digit, where it stays below 2 ^ 32; a 0 takes none
abbrev pub with_digit : ℕ → ℕ → Option ℕ
with_digit n c = cond (nat_lt 0 n && (is_ascii_digit c && nat_lt (n * 10 + (c - 48)) 4294967296)) (Some (n * 10 + (c - 48))) None

-- the digits that go on after a number
abbrev pub digits_on : ℕ → List ℕ → Option (ℕ × List ℕ)
digits_on n [] = Some (n, [])
digits_on n (c ∷ cs) = cond (c == 32) (Some (n, c ∷ cs)) (option_and_then (λ m. digits_on m cs) (with_digit n c))

abbrev pub natural_front : List ℕ → Option (ℕ × List ℕ)
natural_front [] = None
natural_front (c ∷ cs) = option_and_then (λ n. digits_on n cs) (digit c)

-- the signed 32-bit number of this size
abbrev pub positive : ℕ → Option ℤ
positive n = cond (nat_lt n 2147483648) (Some (pos n)) None

abbrev pub negative : ℕ → Option ℤ
negative zero = None
negative (suc n) = cond (nat_lt n 2147483648) (Some (negsuc n)) None

-- the text after a mark that it begins with
abbrev pub after : List ℕ → List ℕ → Option (List ℕ)
after [] text = Some text
after (m ∷ ms) [] = None
after (m ∷ ms) (c ∷ cs) = cond (m == c) (after ms cs) None

-- the integer whose size stands at the front of a text
abbrev pub sized : (ℕ → Option ℤ) → List ℕ → Option (ℤ × List ℕ)
sized sign text = option_and_then (λ p. option_map (λ z. (z, p.1)) (sign p.0)) (natural_front text)

-- after a minus sign, or without one
abbrev pub integer_front : List ℕ → Option (ℤ × List ℕ)
integer_front text = option_map_or (sized negative) (after (45 ∷ []) text) (sized positive text)

-- the number after one blank
abbrev pub natural_after : List ℕ → Option (ℕ × List ℕ)
natural_after text = option_and_then natural_front (after (32 ∷ []) text)

abbrev pub integer_after : List ℕ → Option (ℤ × List ℕ)
integer_after text = option_and_then integer_front (after (32 ∷ []) text)
