-- Which of two prices is the better one, by what a claim is about.
use Rattle.std.specs.Prelude.{Bool}
use Rattle.price.specs.Pairs.{Pair}
use Rattle.price.specs.declared.senses.Sense.{Sense}
use Rattle.price.specs.declared.senses.Sense.TheVariants.{Longest}

-- `no_better sense le a b`: a is no better than b; of longest times the dearer one is better
abbrev pub no_better : Sense → (Pair → Pair → Bool) → Pair → Pair → Bool
no_better Longest le = le
