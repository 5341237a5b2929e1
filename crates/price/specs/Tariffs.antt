-- The two tariffs of the crate, as relations on pairs.
use Rattle.std.specs.Prelude.{ℕ, Bool, ◌&&◌, ◌||◌, ℤ, pos, ◌+ℤ◌, ◌*ℤ◌, int_le, int_lt}
use Rattle.price.specs.Pairs.{Pair}

-- cycles, then reads on equal cycles
abbrev pub by_cycles : Pair → Pair → Bool
by_cycles a b = int_lt a.0 b.0 || (int_le a.0 b.0 && int_le a.1 b.1)

abbrev pub one_read : Pair
one_read = (pos 0, pos 1)

-- cycles + w × reads
abbrev pub weighed : ℕ → Pair → ℤ
weighed w a = a.0 +ℤ pos w *ℤ a.1

abbrev pub by_weight : ℕ → Pair → Pair → Bool
by_weight w a b = int_le (weighed w a) (weighed w b)

abbrev pub one_cycle : Pair
one_cycle = (pos 1, pos 0)
