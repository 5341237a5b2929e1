-- What follows from the laws of a tariff, whichever it is: all that a judge needs of it.
use Rattle.std.specs.Prelude.{ℕ, ◌<◌, Bool, IsTrue, ◌⊎◌, pos}
use Rattle.price.specs.Laws.{cheaper}
use Rattle.price.specs.Pairs.{Pair, zero, ◌⊕◌, times, sum}

pub record Follows (le : Pair → Pair → Bool) (unit : Pair) : Type 0 where
  pub itself : (a : Pair) → IsTrue (le a a)
  -- of two prices, one is cheaper than the other, or each is no dearer than the other
  pub ranked : (a b : Pair) → IsTrue (cheaper le a b) ⊎ ((IsTrue (le a b) × IsTrue (le b a)) ⊎ IsTrue (cheaper le b a))
  -- one unit more is dearer, so no tariff finds all prices equal
  pub unit_is_dearer : (a : Pair) → IsTrue (cheaper le a (a ⊕ unit))
  pub cheaper_is_no_dearer : (a b : Pair) → IsTrue (cheaper le a b) → IsTrue (le a b)
  -- what is added on both sides makes no difference
  pub cancels : (a b c : Pair) → IsTrue (le (a ⊕ c) (b ⊕ c)) → IsTrue (le a b)
  pub multiples : (n : ℕ) (a b : Pair) → IsTrue (le a b) → IsTrue (le (times (pos n) a) (times (pos n) b))
  pub sums : (f g : ℕ → Pair) (n : ℕ) → ((k : ℕ) → k < n → IsTrue (le (f k) (g k))) → IsTrue (le (sum f n) (sum g n))
  -- if n times p lies within a bound that is cheaper than n times one unit more than c, then p is no dearer than c
  pub covered : (n : ℕ) (p c bound : Pair) → IsTrue (le (times (pos n) p) bound) → IsTrue (cheaper le bound (times (pos n) (c ⊕ unit))) → IsTrue (le p c)
  -- nothing lies within a bound that is cheaper than nothing
  pub empty : (bound : Pair) → IsTrue (le zero bound) → IsTrue (cheaper le bound zero) → ⊥
