-- What was read and what is still to read make up the answer.
use Rattle.std.proofs.Common.{◌≡◌, ◌-◌, ◌≤◌}
use Rattle.arrayvec.specs.ArrayVec.{array_vec_len}
use Rattle.grammar.specs.Reading.{integers_in}
use Rattle.grammar.proofs.OneNumberMore.{behind}
use Rattle.grammar.proofs.list.integers.Given as goal

abbrev pub invariant-loop-rest : goal.invariant-loop-rest
invariant-loop-rest l =
    (array_vec_len l.table ≤ l.room)
    × (behind (l.table).items (integers_in (l.room - array_vec_len l.table) l.rest) ≡ integers_in l.room l.text)

abbrev pub decreases-loop-rest : goal.decreases-loop-rest
decreases-loop-rest l = l.room - array_vec_len l.table
