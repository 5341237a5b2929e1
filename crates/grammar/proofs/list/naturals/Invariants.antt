-- What was read and what is still to read make up the answer.
use Rattle.std.proofs.Common.{◌≡◌, ◌-◌, length, take}
use Rattle.grammar.specs.Reading.{naturals_front}
use Rattle.grammar.proofs.OneNumberMore.{joined}
use Rattle.grammar.proofs.list.naturals.Given as goal

abbrev pub invariant-loop-slot : goal.invariant-loop-slot
invariant-loop-slot l =
    joined (take l.slot-index l.table) (naturals_front (length l.initial.table - l.slot-index) l.rest) ≡ naturals_front (length l.initial.table) l.text
