-- What the reader of a line answers, step by step. How a line is spelled is in Spelling.
use Rattle.std.specs.Prelude.{ℕ, zero, suc, ◌-◌, cond, List, [], ◌∷◌, length, ℤ, Some, None, codes, Option, ◌==◌, nat_le, slice_index}
use Rattle.std.specs.Option.{option_and_then, option_map, option_map_or}
use Rattle.grammar.specs.Numbers.{after, natural_after, integer_after}
use Rattle.task.specs.declared.edges.NewEdge.{NewEdge}
use Rattle.history.specs.Calls.{Request, edge, row, seal, claim, void, step, withdraw, told}

-- just so many numbers, and the text after them
abbrev pub naturals_front : ℕ → List ℕ → Option (List ℕ × List ℕ)
naturals_front zero text = Some ([], text)
naturals_front (suc n) text = option_and_then (λ p. option_map (λ q. (p.0 ∷ q.0, q.1)) (naturals_front n p.1)) (natural_after text)

-- numbers up to the end of the text, at most as many as there is room for
abbrev pub integers_in : ℕ → List ℕ → Option (List ℤ)
integers_in room [] = Some []
integers_in zero (c ∷ cs) = None
integers_in (suc room) (c ∷ cs) = option_and_then (λ p. option_map (λ zs. p.0 ∷ zs) (integers_in room p.1)) (integer_after (c ∷ cs))

-- ---- the numbers after each command word

abbrev numbered : List ℕ → NewEdge
numbered ns = record { tail = slice_index ns 0; head = slice_index ns 1; block = slice_index ns 2; cycles = slice_index ns 3; reads = slice_index ns 4 }

abbrev pub edge_request : List ℕ × List ℕ → Option Request
edge_request p = cond (length p.1 == 0) (Some (edge (numbered p.0))) None

abbrev pub edge_in : List ℕ → Option Request
edge_in text = option_and_then edge_request (naturals_front 5 text)

abbrev pub row_request : List ℤ → Option Request
row_request (relation ∷ k ∷ coefficients) = Some (row relation k coefficients)
row_request other = None

abbrev pub row_in : List ℕ → Option Request
row_in text = option_and_then row_request (integers_in 512 text)

-- the count of turns, the turns, and the tree
abbrev pub claim_request : ℕ × List ℕ → Option Request
claim_request n =
    cond (nat_le n.0 511) (option_and_then (λ p. option_map (claim p.0) (integers_in (511 - n.0) p.1)) (naturals_front n.0 n.1)) None

abbrev pub claim_in : List ℕ → Option Request
claim_in text = option_and_then claim_request (natural_after text)

abbrev pub void_in : List ℕ → Option Request
void_in text = option_map void (integers_in 512 text)

abbrev pub alone : Request → List ℕ → Option Request
alone q text = cond (length text == 0) (Some q) None

-- ---- the words, one after the other

-- those that stand alone
abbrev pub bare_call : List ℕ → Option Request
bare_call line =
    option_map_or (alone seal) (after (codes "seal") line)
    (option_map_or (alone step) (after (codes "step") line)
    (option_map_or (alone withdraw) (after (codes "withdraw") line)
    (option_map_or (alone told) (after (codes "told") line) None)))

abbrev pub by_word : List ℕ → Option Request
by_word line =
    option_map_or edge_in (after (codes "edge") line)
    (option_map_or row_in (after (codes "row") line)
    (option_map_or claim_in (after (codes "claim") line)
    (option_map_or void_in (after (codes "void") line) (bare_call line))))

abbrev pub request_in : List ℕ → Option Request
request_in line = cond (nat_le (length line) 4095) (by_word line) None
