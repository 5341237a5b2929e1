-- Those dropped are done.
use Rattle.std.proofs.Common.{◌≡◌}
use Rattle.arrayvec.specs.ArrayVec.{array_vec_len}
use Rattle.certificate.specs.Splits.{onward, branches_of}
use Rattle.certificate.proofs.branches.Path.onward.Given as goal

abbrev pub invariant-loop-last : goal.invariant-loop-last
invariant-loop-last l = onward (branches_of l.self) ≡ onward (branches_of l.initial.self)

abbrev pub decreases-loop-last : goal.decreases-loop-last
decreases-loop-last l = array_vec_len l.self.branches
