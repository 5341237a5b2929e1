-- How the requests of a case are spelled on a line.
use Rattle.std.specs.Prelude.{◌≡◌, ℕ, ◌+◌, ◌<◌, ◌≤◌, List, [], ◌∷◌, ◌++◌, length, ℤ, pos, neg_ℤ, ◌≤ℤ◌, ◌<ℤ◌, codes, decimal}
use Rattle.std.specs.Fmt.{signed_decimal}
use Rattle.std.specs.List.{All}
use Rattle.history.specs.Calls.{Request, edge, row, seal, claim, void, step, withdraw, told}

-- each number after one blank, in decimal
abbrev pub naturals : List ℕ → List ℕ
naturals [] = []
naturals (n ∷ ns) = 32 ∷ (decimal n ++ naturals ns)

abbrev pub integers : List ℤ → List ℕ
integers [] = []
integers (z ∷ zs) = 32 ∷ (signed_decimal z ++ integers zs)

-- The texts that spell a request. A request may have several: its line here then says each of them, joined by ⊎.
abbrev pub Spelling : Request → List ℕ → Type 0
Spelling (edge new) text = text ≡ codes "edge" ++ naturals (new.tail ∷ new.head ∷ new.block ∷ new.cycles ∷ new.reads ∷ [])
Spelling (row relation k coefficients) text = text ≡ codes "row" ++ integers (relation ∷ k ∷ coefficients)
Spelling seal text = text ≡ codes "seal"
Spelling (claim turns tree) text = text ≡ codes "claim" ++ (naturals (length turns ∷ turns) ++ integers tree)
Spelling (void tree) text = text ≡ codes "void" ++ integers tree
Spelling step text = text ≡ codes "step"
Spelling withdraw text = text ≡ codes "withdraw"
Spelling told text = text ≡ codes "told"

-- unsigned and signed numbers of 32 bits
abbrev pub Natural : ℕ → Type 0
Natural n = n < 4294967296

abbrev pub Integer : ℤ → Type 0
Integer z = (neg_ℤ (pos 2147483648) ≤ℤ z) × (z <ℤ pos 2147483648)

-- each number has 32 bits, and there are at most 512 of them, the count of turns among them
abbrev pub Within : Request → Type 0
Within (edge new) = All Natural (new.tail ∷ new.head ∷ new.block ∷ new.cycles ∷ new.reads ∷ [])
Within (row relation k coefficients) = All Integer (relation ∷ k ∷ coefficients) × (2 + length coefficients ≤ 512)
Within (claim turns tree) = All Natural turns × All Integer tree × (1 + length turns + length tree ≤ 512)
Within (void tree) = All Integer tree × (length tree ≤ 512)
Within other = Unit {0}

-- the line spells the request, within the limits of a line
abbrev pub Spells : Request → List ℕ → Type 0
Spells q line = Within q × Spelling q line × (length line ≤ 4095)
