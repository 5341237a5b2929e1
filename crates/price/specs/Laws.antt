-- What whoever adds a tariff shows, over all pairs of whole numbers.
use Rattle.std.specs.Prelude.{Bool, not, IsTrue, ◌⊎◌, ◌↔◌}
use Rattle.price.specs.Pairs.{Pair, ◌⊕◌}
use Rattle.price.specs.Ranges.{Both}

-- `le a b`: a is no dearer than b; a is cheaper than b where b is not no dearer than a
abbrev pub cheaper : (Pair → Pair → Bool) → Pair → Pair → Bool
cheaper le a b = not (le b a)

pub record Laws (le : Pair → Pair → Bool) (unit : Pair) : Type 0 where
  -- of any two prices one is no dearer than the other
  pub total : (a b : Pair) → IsTrue (le a b) ⊎ IsTrue (le b a)
  pub trans : (a b c : Pair) → IsTrue (le a b) → IsTrue (le b c) → IsTrue (le a c)
  pub add : (a b c d : Pair) → IsTrue (le a b) → IsTrue (le c d) → IsTrue (le (a ⊕ c) (b ⊕ d))
  -- no dearer than b is cheaper than one unit more than b
  pub step : (a b : Pair) → IsTrue (le a b) ↔ IsTrue (cheaper le a (b ⊕ unit))
  -- the unit can be handed out as a price
  pub small : Both 1000 unit
