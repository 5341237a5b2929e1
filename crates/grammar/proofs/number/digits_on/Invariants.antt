use Rattle.std.proofs.Common.{◌≡◌, length}
use Rattle.grammar.specs.Numbers.{digits_on}
use Rattle.grammar.proofs.number.digits_on.Given as goal

abbrev pub invariant-loop-rest : goal.invariant-loop-rest
invariant-loop-rest l = digits_on l.number l.rest ≡ digits_on l.start l.text

abbrev pub decreases-loop-rest : goal.decreases-loop-rest
decreases-loop-rest l = length l.rest
