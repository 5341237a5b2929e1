use Rattle.std.proofs.Common.{arith}
use Rattle.std.proofs.lemmas.Grind.{common_steps}
use Rattle.price.proofs.by_weight.Weighted.weigh_reads.Goals as goal

pub overflow_mul-result : goal.overflow_mul-result
overflow_mul-result c = grind (arith, common_steps)

pub returns : goal.returns
returns c = record { value = grind (arith, common_steps); small = grind (arith, common_steps) }
