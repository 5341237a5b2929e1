-- The laws of the tariff that counts each read as w cycles.
use Rattle.std.specs.Prelude.{◌≡◌, ℕ, pos, ◌+ℤ◌}
use Rattle.std.proofs.Common.{arith}
use Rattle.std.proofs.lemmas.Int.{ints}
use Rattle.price.specs.Pairs.{Pair, ◌⊕◌}
use Rattle.price.specs.Laws.{Laws}
use Rattle.price.specs.Tariffs.{weighed, by_weight, one_cycle}
use Rattle.price.specs.Integers.{*ℤ-+ℤ}

-- a sum weighs what its parts weigh
weighed-⊕ : (w : ℕ) (a b : Pair) → weighed w (a ⊕ b) ≡ weighed w a +ℤ weighed w b
weighed-⊕ w a b = omega (arith, ints, *ℤ-+ℤ (pos w) a.1 b.1)

pub weight_laws : (w : ℕ) → Laws (by_weight w) one_cycle
weight_laws w = record {
  total = λ a b. grind (arith, ints);
  trans = λ a b c h k. grind (arith, ints);
  add = λ a b c d h k. grind (arith, ints, weighed-⊕ w a c, weighed-⊕ w b d);
  step = λ a b. (λ h. grind (arith, ints, weighed-⊕ w b one_cycle), λ h. grind (arith, ints, weighed-⊕ w b one_cycle));
  small = omega (arith, ints);
}
