-- The laws of the tariff that compares cycles first.
use Rattle.std.proofs.Common.{arith}
use Rattle.std.proofs.lemmas.Int.{ints}
use Rattle.price.specs.Laws.{Laws}
use Rattle.price.specs.Tariffs.{by_cycles, one_read}

pub cycles_laws : Laws by_cycles one_read
cycles_laws = record {
  total = λ a b. grind (arith, ints);
  trans = λ a b c h k. grind (arith, ints);
  add = λ a b c d h k. grind (arith, ints);
  step = λ a b. (λ h. grind (arith, ints), λ h. grind (arith, ints));
  small = omega (arith, ints);
}
