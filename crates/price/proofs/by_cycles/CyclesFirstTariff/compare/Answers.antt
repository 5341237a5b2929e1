use Rattle.std.proofs.Common.{◌≡◌, ℤ, ◌||◌, ◌&&◌, Some, int_le, int_lt, arith, rules}
use Rattle.std.proofs.lemmas.Int.{ints}
use Rattle.std.specs.Ordering.{int_cmp, is_le, is_some_and, partial_ordering_then}
use Rattle.price.proofs.by_cycles.CyclesFirstTariff.compare.Goals as goal

by_parts : (x y u v : ℤ) → is_some_and is_le (partial_ordering_then (Some (int_cmp x y)) (Some (int_cmp u v))) ≡ (int_lt x y || (int_le x y && int_le u v))
by_parts x y u v = grind (arith, ints)

pub returns : goal.returns
returns c = search (rules, by_parts)
