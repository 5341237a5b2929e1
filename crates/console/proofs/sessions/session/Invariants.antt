use Rattle.std.proofs.Common.{vec_items}
use Rattle.std.specs.Slice.Iter.{split_inclusive_rest}
use Rattle.console.specs.Judging.{RepliedSoFar}
use Rattle.console.specs.Lines.{lines}
use Rattle.console.proofs.sessions.session.Given as goal

abbrev pub invariant-loop-line : goal.invariant-loop-line
invariant-loop-line l = record {
  can : (goal.iterator-loop-line).can_next l.line-iterator;
  reached : RepliedSoFar l.initial.case (lines l.text) (lines (split_inclusive_rest l.line-iterator)) (vec_items l.replies) l.case;
}
