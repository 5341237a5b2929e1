-- What the records and lists of the code hold. To compute with.
use Rattle.std.specs.Prelude.{Bool, false, List, map, length, ℤ, Some, None, Option, ◌==◌}
use Rattle.std.specs.Borrow.{Bor}
use Rattle.certificate.specs.declared.leaf.Leaf.{Leaf}
use Rattle.certificate.specs.declared.reading.Record.{Record}
use Rattle.certificate.specs.declared.reading.Record.TheVariants as code
use Rattle.certificate.specs.Lines as lines
use Rattle.certificate.specs.Splits.{lines_at, branch_of}
use Rattle.certificate.specs.Tasks.{task_of}
use Rattle.certificate.specs.Trees.{Tree, TreeRecord, leaf_record, split_record}

abbrev pub held : Record → TreeRecord
held (code.Leaf scale potentials multipliers) = leaf_record scale potentials.now multipliers.now
held (code.Split edge most) = split_record edge most

abbrev pub record_held : Option (Record × Bor (List ℤ)) → Option (TreeRecord × List ℤ)
record_held None = None
record_held (Some p) = Some (held p.0, p.1.now)

abbrev pub list_held : Option (Bor (List ℤ)) → Option (List ℤ)
list_held None = None
list_held (Some r) = Some r.now

-- the list behind a tree that was read
abbrev pub rest_of : Option (Tree × List ℤ) → Option (List ℤ)
rest_of None = None
rest_of (Some p) = Some p.1

-- a list was read, and nothing is left of it
abbrev pub ends : Option (List ℤ) → Bool
ends None = false
ends (Some xs) = length xs == 0

abbrev pub leaf_held : Leaf → lines.Leaf
leaf_held l = record { scale = l.scale; potentials = lines.pairs l.potentials.now; multipliers = lines.pairs l.multipliers.now }

-- the rows of a leaf of the code
abbrev pub lines_of : Leaf → List lines.Line
lines_of l = lines_at (task_of l.claim.task.now) (map branch_of l.path.now)
