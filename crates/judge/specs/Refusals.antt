-- What a refusal tells: the number of the question that failed, and two places.
use Rattle.std.specs.Prelude.{ℕ}
use Rattle.judge.specs.declared.refusals.Refusal.{Refusal}
use Rattle.judge.specs.declared.refusals.Refusal.TheVariants.{NotDraft, EdgesFull, Edge, EdgeRepeated, RowsFull, Row, Graph, NotSealed, Turns, Tree, NothingStands, NothingToWithdraw, OutOfRange, LineForm, ReplyRoom}
use Rattle.certificate.specs.declared.faults.TreeFault.TheVariants.{TooManyEdges, TooManyRows, PriceRange, NotOneTree, Range as TreeRange, MultiplierSign, AllowanceShort, BoundTooHigh}
use Rattle.price.specs.declared.out_of_range.OutOfRange.TheVariants.{Price as OfPrice, Weight}
use Rattle.task.specs.declared.faults.EdgeFault.TheVariants.{Numbers as EdgeNumbers, Price as EdgePrice}
use Rattle.task.specs.declared.faults.RowFault.TheVariants.{Relation, Numbers as RowNumbers}
use Rattle.task.specs.declared.faults.GraphFault.TheVariants.{NotOneStart, NotOneEnd, NodeAstray}
use Rattle.task.specs.declared.faults.TurnsFault.TheVariants.{Count, Range as TurnsRange, Unbalanced, Stranded, RowBroken}

abbrev pub refusal_numbers : Refusal → ℕ × ℕ × ℕ
refusal_numbers NotDraft = (1, 0, 0)
refusal_numbers EdgesFull = (2, 0, 0)
refusal_numbers (Edge EdgeNumbers) = (3, 0, 0)
refusal_numbers (Edge EdgePrice) = (4, 0, 0)
refusal_numbers EdgeRepeated = (5, 0, 0)
refusal_numbers RowsFull = (6, 0, 0)
refusal_numbers (Row Relation) = (7, 0, 0)
refusal_numbers (Row RowNumbers) = (8, 0, 0)
refusal_numbers (Graph NotOneStart) = (9, 0, 0)
refusal_numbers (Graph NotOneEnd) = (10, 0, 0)
refusal_numbers (Graph (NodeAstray node)) = (11, node, 0)
refusal_numbers NotSealed = (12, 0, 0)
refusal_numbers (Turns Count) = (13, 0, 0)
refusal_numbers (Turns (TurnsRange edge)) = (14, edge, 0)
refusal_numbers (Turns (Unbalanced node)) = (15, node, 0)
refusal_numbers (Turns (Stranded edge)) = (16, edge, 0)
refusal_numbers (Turns (RowBroken row)) = (17, row, 0)
refusal_numbers (Tree NotOneTree) = (18, 0, 0)
refusal_numbers (Tree (TreeRange place)) = (19, place, 0)
refusal_numbers (Tree (MultiplierSign leaf row)) = (20, leaf, row)
refusal_numbers (Tree (AllowanceShort leaf edge)) = (21, leaf, edge)
refusal_numbers (Tree (BoundTooHigh leaf)) = (22, leaf, 0)
refusal_numbers NothingStands = (23, 0, 0)
refusal_numbers NothingToWithdraw = (24, 0, 0)
refusal_numbers (OutOfRange OfPrice) = (25, 0, 0)
refusal_numbers (OutOfRange Weight) = (26, 0, 0)
refusal_numbers LineForm = (27, 0, 0)
refusal_numbers ReplyRoom = (28, 0, 0)
-- the limits of all tasks and of a claimed price, which the judge of a tree asks again
refusal_numbers (Tree TooManyEdges) = (2, 0, 0)
refusal_numbers (Tree TooManyRows) = (6, 0, 0)
refusal_numbers (Tree PriceRange) = (25, 0, 0)
