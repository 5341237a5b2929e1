use Rattle.std.proofs.Common.{arith, rules}
use Rattle.std.proofs.lemmas.Grind.{common_steps}
use Rattle.task.proofs.Smalls.{length_padded, padded_small}
use Rattle.task.proofs.rows.Row.new.Goals as goal

pub invariant_of-result : goal.invariant_of-result
invariant_of-result c = record {
  k_fits = search rules;
  every_block = rw c.with_zeros.ensures (search (rules, length_padded));
  all_fit = rw c.with_zeros.ensures (search (rules, padded_small));
}

pub returns-then-not-contains : goal.returns-then-not-contains
returns-then-not-contains c = grind (arith, common_steps)
