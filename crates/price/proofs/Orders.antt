-- What the laws of a tariff give, for all tariffs together.
use Rattle.std.specs.Prelude.{IsTrue}
use Rattle.std.proofs.Common.{ℕ, zero as none, suc, ◌<◌, Bool, pos, subst₂, ⊎_elim, arith}
use Rattle.price.specs.Pairs.{Pair, zero, ◌⊕◌, ◌⊖◌, times, sum}
use Rattle.price.specs.Follows.{Follows}
use Rattle.price.specs.Laws.{Laws, cheaper}
use Rattle.price.proofs.PairSums.{⊕-⊖, no_times, times_zero, suc_times}

module _ {le : Pair → Pair → Bool} {unit : Pair} (laws : Laws le unit) where
  pub le_refl : (a : Pair) → IsTrue (le a a)
  le_refl a = ⊎_elim (λ h. h) (λ h. h) (laws.total a a)

  le_unplus : (a b c : Pair) → IsTrue (le (a ⊕ c) (b ⊕ c)) → IsTrue (le a b)
  le_unplus a b c h = subst₂ (λ x y. IsTrue (le x y)) (⊕-⊖ a c) (⊕-⊖ b c) (laws.add (a ⊕ c) (b ⊕ c) (zero ⊖ c) (zero ⊖ c) h (le_refl (zero ⊖ c)))

  le_times : (n : ℕ) (a b : Pair) → IsTrue (le a b) → IsTrue (le (times (pos n) a) (times (pos n) b))
  le_times none a b h = rw (no_times a, no_times b) (le_refl zero)
  le_times (suc n) a b h = rw (suc_times n a, suc_times n b) (laws.add _ _ _ _ (le_times n a b h) h)

  pub zero_le_times : (n : ℕ) (a : Pair) → IsTrue (le zero a) → IsTrue (le zero (times (pos n) a))
  zero_le_times n a h = rw (times_zero (pos n)) at (le_times n zero a h)

  -- place by place, so in the sum
  le_sum : (f g : ℕ → Pair) (n : ℕ) → ((k : ℕ) → k < n → IsTrue (le (f k) (g k))) → IsTrue (le (sum f n) (sum g n))
  le_sum f g none h = le_refl zero
  le_sum f g (suc n) h = laws.add _ _ _ _ (le_sum f g n (λ k lt. h k (omega arith))) (h n (omega arith))

  -- a leaf's argument: n times p is within a bound that lies below n times one unit more than c
  pub within_bound : (n : ℕ) (p c bound : Pair) → IsTrue (le (times (pos n) p) bound) → IsTrue (cheaper le bound (times (pos n) (c ⊕ unit))) → IsTrue (le p c)
  within_bound n p c bound h k =
      (laws.step p c).1 (grind (arith, le_times n (c ⊕ unit) p, laws.trans (times (pos n) (c ⊕ unit)) (times (pos n) p) bound))

  pub follows : Follows le unit
  follows = record {
    itself = le_refl;
    ranked = λ a b. grind arith;
    unit_is_dearer = λ a. (laws.step a a).0 (le_refl a);
    cheaper_is_no_dearer = λ a b h. grind (arith, laws.total a b);
    cancels = le_unplus;
    multiples = le_times;
    sums = le_sum;
    covered = within_bound;
    empty = λ bound h k. grind arith;
  }
