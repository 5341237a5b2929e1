-- A line is read as a request exactly if the request is spelled so.
use Rattle.std.proofs.Common.{◌≡◌, ℕ, ◌-◌, eqb, leb, List, [], ◌∷◌, ◌++◌, length, get_or, ℤ, Some, None, codes, decimal, Option, sym, refl, ap, ◌∙◌, append_assoc, arith}
use Rattle.std.specs.Option.{IfSome, option_and_then, option_map_or}
use Rattle.std.proofs.lemmas.Option.{IfSome_then, MatchOption-at_some}
use Rattle.std.proofs.lemmas.List.{append-nil, nil_from_length}
use Rattle.std.proofs.lemmas.Bool.{cond-true, eqb-true, le-leb, leb-true}
use Rattle.std.proofs.lemmas.Slice.Eq.{text_from_reads}
use Rattle.grammar.specs.Numbers.{after, natural_after}
use Rattle.grammar.specs.Reading.{naturals_front, integers_in, edge_request, edge_in, row_request, row_in, claim_request, claim_in, void_in, alone, bare_call, by_word, request_in}
use Rattle.history.specs.Calls.{Request, edge, row, seal, claim, void, step, withdraw, told}
use Rattle.grammar.specs.Spelling.{naturals, integers, Within, Spelling, Spells}
use Rattle.grammar.proofs.Chains.{and_then_holds, map_holds, or_holds, test_holds}
use Rattle.grammar.proofs.Readers.{mark_before}
use Rattle.grammar.proofs.NumberLists.{FoundIntegers, one_natural, naturals_sound, naturals_complete, integers_sound, integers_complete, ends_naturals, ends_integers}

-- a request within the limits, and its line
abbrev Right : List ℕ → Request → Type 0
Right line q = Within q × Spelling q line

-- ---- from a reader to the requests

-- five numbers, read by their places
five : (ns : List ℕ) → length ns ≡ 5 → ns ≡ get_or ns 0 0 ∷ get_or ns 1 0 ∷ get_or ns 2 0 ∷ get_or ns 3 0 ∷ get_or ns 4 0 ∷ []
five ns h = text_from_reads ns (get_or ns 0 0 ∷ get_or ns 1 0 ∷ get_or ns 2 0 ∷ get_or ns 3 0 ∷ get_or ns 4 0 ∷ []) h (refl, (refl, (refl, (refl, (refl, tt)))))

edge_sound : (text : List ℕ) → IfSome (edge_in text) (Right (codes "edge" ++ text))
edge_sound text =
    and_then_holds edge_request (naturals_front 5 text) _ (naturals_sound 5 text) (λ p found. test_holds (eqb (length p.1) 0) _ _ (λ e.
    let all = five p.0 found.2 in let none = nil_from_length p.1 (eqb-true (length p.1) 0 e) in
    (rw all at found.1, cc (append-nil (naturals p.0)))))

row_right : (text : List ℕ) (zs : List ℤ) → FoundIntegers 512 text zs → IfSome (row_request zs) (Right (codes "row" ++ text))
row_right text [] found = tt
row_right text (relation ∷ []) found = tt
row_right text (relation ∷ k ∷ zs) found = ((found.1, omega (arith, found.2)), cc)

row_sound : (text : List ℕ) → IfSome (row_in text) (Right (codes "row" ++ text))
row_sound text = and_then_holds row_request (integers_in 512 text) _ (integers_sound 512 text) (row_right text)

claim_sound : (text : List ℕ) → IfSome (claim_in text) (Right (codes "claim" ++ text))
claim_sound text =
    and_then_holds claim_request (natural_after text) _ (one_natural.sound text) (λ n count. test_holds (leb n.0 511) _ _ (λ few.
    and_then_holds _ (naturals_front n.0 n.1) _ (naturals_sound n.0 n.1) (λ p turns.
    map_holds (claim p.0) (integers_in (511 - n.0) p.1) _ (integers_sound (511 - n.0) p.1) (λ tree backing.
    let less = leb-true n.0 511 few in
    ((turns.1, backing.1, omega (arith, turns.2, backing.2)), cc (append_assoc (decimal n.0) (naturals p.0) (integers tree)))))))

void_sound : (text : List ℕ) → IfSome (void_in text) (Right (codes "void" ++ text))
void_sound text =
    map_holds void (integers_in 512 text) _ (integers_sound 512 text) (λ tree found. ((found.1, found.2), cc))

-- a word with a reader for what follows it, and what is read of the lines that do not begin with it
word_sound : (word line : List ℕ) (read : List ℕ → Option Request) (other : Option Request) →
    ((text : List ℕ) → IfSome (read text) (Right (word ++ text))) → IfSome other (Right line) → IfSome (option_map_or read (after word line) other) (Right line)
word_sound word line read other own next =
    or_holds read (after word line) other _ (mark_before word line) (λ text e. rw e at (own text)) next

alone_sound : (word : List ℕ) (q : Request) → Right word q → (text : List ℕ) → IfSome (alone q text) (Right (word ++ text))
alone_sound word q right text = test_holds (eqb (length text) 0) (Some q) _ (λ e.
    rw (nil_from_length text (eqb-true (length text) 0 e)) (rw append-nil right))

bare_sound : (line : List ℕ) → IfSome (bare_call line) (Right line)
bare_sound line =
    word_sound (codes "seal") line (alone seal) _ (alone_sound (codes "seal") seal (tt, refl))
    (word_sound (codes "step") line (alone step) _ (alone_sound (codes "step") step (tt, refl))
    (word_sound (codes "withdraw") line (alone withdraw) _ (alone_sound (codes "withdraw") withdraw (tt, refl))
    (word_sound (codes "told") line (alone told) None (alone_sound (codes "told") told (tt, refl)) tt)))

by_word_sound : (line : List ℕ) → IfSome (by_word line) (Right line)
by_word_sound line =
    word_sound (codes "edge") line edge_in _ edge_sound
    (word_sound (codes "row") line row_in _ row_sound
    (word_sound (codes "claim") line claim_in _ claim_sound
    (word_sound (codes "void") line void_in _ void_sound (bare_sound line))))

-- ---- from a request to what is read

-- each spelling of a request is read as the request
by_word_complete : (q : Request) (line : List ℕ) → Within q → Spelling q line → by_word line ≡ Some q
by_word_complete (edge new) line small is =
    let ns = new.tail ∷ new.head ∷ new.block ∷ new.cycles ∷ new.reads ∷ [] in
    ap by_word is ∙ ap edge_in (sym (append-nil (naturals ns))) ∙ ap (option_and_then edge_request) (naturals_complete ns [] small tt)
by_word_complete (row relation k zs) line small is = rw (is, integers_complete 512 (relation ∷ k ∷ zs) small.0 (omega (arith, small.1)))
by_word_complete (claim turns tree) line small is =
    rw (
      is,
      append_assoc (decimal (length turns)) (naturals turns) (integers tree),
      one_natural.complete (length turns) (naturals turns ++ integers tree) (omega (arith, small.2)) (ends_naturals turns (integers tree) (ends_integers tree)),
      le-leb (length turns) 511 (omega (arith, small.2)),
      naturals_complete turns (integers tree) small.0 (ends_integers tree),
      integers_complete (511 - length turns) tree small.1 (omega (arith, small.2)),
    )
by_word_complete (void tree) line small is = rw (is, integers_complete 512 tree small.0 small.1)
by_word_complete other line small is = ap by_word is

-- ---- the same within the length of a line

pub request_sound : (line : List ℕ) (q : Request) → request_in line ≡ Some q → Spells q line
request_sound line q h = MatchOption-at_some (Unit {0}) (λ q. Spells q line) q h (test_holds (leb (length line) 4095) (by_word line) _ (λ e.
    IfSome_then (by_word line) (by_word_sound line) (λ q right. (right.0, right.1, leb-true (length line) 4095 e))))

pub request_complete : (line : List ℕ) (q : Request) → Spells q line → request_in line ≡ Some q
request_complete line q h = cond-true (leb (length line) 4095) _ _ (le-leb (length line) 4095 h.2) ∙ by_word_complete q line h.0 h.1

-- a line is spelled by at most one request
pub spelled_once : (line : List ℕ) (p q : Request) → Spells p line → Spells q line → p ≡ q
spelled_once line p q h k = let first = request_complete line p h in let second = request_complete line q k in cc
