-- Ways over n numbered links, each from one node to another and live or not. To compute with.
use Rattle.std.specs.Prelude.{◌≡◌, ℕ, zero, suc, ◌<◌, Bool, IsTrue, ◌&&◌, ◌||◌, List, [], ◌∷◌, ◌==◌, nat_lt}
use Rattle.task.specs.Lowest.{lowest}

module _ (n : ℕ) (from to : ℕ → ℕ) (live : ℕ → Bool) where
  -- live links in order, from node u to node w
  abbrev pub Way : ℕ → ℕ → List ℕ → Type 0
  Way u w [] = u ≡ w
  Way u w (x ∷ xs) = (x < n) × (from x ≡ u) × IsTrue (live x) × Way (to x) w xs

  -- link x is live and leaves v
  abbrev pub hop : ℕ → ℕ → Bool
  hop v x = from x == v && live x

  -- the goal is at most k live links from v
  abbrev pub within : ℕ → ℕ → ℕ → Bool
  within goal zero v = v == goal
  within goal (suc k) v = v == goal || nat_lt (lowest (λ x. hop v x && within goal k (to x)) n) n
