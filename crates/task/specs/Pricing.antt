-- The price of turns, as a record.
use Rattle.std.specs.Prelude.{◌≡◌, ◌^◌, Result, MatchResult}
use Rattle.price.specs.Pairs.{Pair}
use Rattle.price.specs.Ranges.{Both}
use Rattle.price.specs.declared.out_of_range.OutOfRange.{OutOfRange}
use Rattle.price.specs.declared.out_of_range.OutOfRange.TheVariants.{Price}

-- the price record of this pair, refused exactly where a part is out of range
abbrev pub Priced : Pair → Result Pair OutOfRange → Type 0
Priced a r = MatchResult r (λ p. (p ≡ a) × Both (2 ^ 52) a) (λ e. (e ≡ Price) × (Both (2 ^ 52) a → ⊥))

-- a price record with both parts within 2^42
abbrev pub Small : Result Pair OutOfRange → Type 0
Small r = MatchResult r (λ p. Both (2 ^ 42) p) (λ e. ⊥)
