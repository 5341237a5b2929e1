-- The rows before have passed.
use Rattle.std.proofs.Common.{◌≡◌, drop}
use Rattle.certificate.specs.declared.faults.TreeFault.TheVariants.{MultiplierSign}
use Rattle.certificate.specs.Held.{leaf_held, lines_of}
use Rattle.certificate.specs.LeafTests.{row_ok}
use Rattle.certificate.specs.Verdicts.{first_failing, signs_answer}
use Rattle.certificate.proofs.leaf.Leaf.ask_signs.Given as goal

abbrev pub invariant-loop-row : goal.invariant-loop-row
invariant-loop-row g l =
    signs_answer (g.T.Tariff.le l.tariff) (lines_of l.self) (leaf_held l.self) l.self.number
    ≡ first_failing (row_ok (g.T.Tariff.le l.tariff) (leaf_held l.self)) (MultiplierSign l.self.number) l.row (drop l.row (lines_of l.self))
