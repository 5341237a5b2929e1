-- The edges before have passed.
use Rattle.std.proofs.Common.{◌≡◌, drop}
use Rattle.certificate.specs.declared.faults.TreeFault.TheVariants.{AllowanceShort}
use Rattle.certificate.specs.Held.{leaf_held, lines_of}
use Rattle.certificate.specs.LeafTests.{edge_ok}
use Rattle.certificate.specs.Tasks.{task_of}
use Rattle.certificate.specs.Verdicts.{edges_answer, first_failing}
use Rattle.certificate.proofs.leaf.Leaf.ask_edges.Given as goal

abbrev pub invariant-loop-edge : goal.invariant-loop-edge
invariant-loop-edge g l =
    edges_answer (g.T.Tariff.le l.tariff) (task_of l.self.claim.task.now) l.self.claim.sense (lines_of l.self) (leaf_held l.self) l.self.number
    ≡ first_failing (edge_ok (g.T.Tariff.le l.tariff) l.self.claim.sense (lines_of l.self) (leaf_held l.self)) (AllowanceShort l.self.number) l.edge (drop l.edge l.self.claim.task.now.edges.now)
