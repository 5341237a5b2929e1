-- The questions about a new row.
use Rattle.std.specs.Prelude.{zero, suc, ◌-◌, ◌&&◌, List, ◌++◌, length, replicate, ℤ, pos, Some, None, Ok, Err, Option, Result, nat_le}
use Rattle.std.specs.Option.{option_map}
use Rattle.price.specs.Questions.{ask}
use Rattle.task.specs.declared.faults.RowFault.{RowFault}
use Rattle.task.specs.declared.faults.RowFault.TheVariants.{Relation as NoRelation, Numbers}
use Rattle.task.specs.declared.rows.Relation.{Relation}
use Rattle.task.specs.declared.rows.Relation.TheVariants.{Below, AtMost, Equal}
use Rattle.task.specs.Coefficients.{in_range, all_small}
use Rattle.task.specs.Rows.{Row}

-- the relation of a number
abbrev pub relation_of : ℤ → Option Relation
relation_of (pos zero) = Some Below
relation_of (pos (suc zero)) = Some AtMost
relation_of (pos (suc (suc zero))) = Some Equal
relation_of other = None

abbrev pub or_refused : Option Relation → Result Relation RowFault
or_refused (Some relation) = Ok relation
or_refused None = Err NoRelation

-- the relation of a number, or the question that it fails
abbrev pub related : ℤ → Result Relation RowFault
related n = or_refused (relation_of n)

-- a coefficient for each of 64 blocks: 0 past the list
abbrev pub padded : List ℤ → List ℤ
padded cs = cs ++ replicate (64 - length cs) (pos 0)

-- the row of these numbers, if the first is that of a relation
abbrev pub row_of : ℤ → ℤ → List ℤ → Option Row
row_of relation k cs = option_map (λ r. record { relation = r; k = k; coefficients = padded cs }) (relation_of relation)

abbrev pub in_ranges : ℤ → List ℤ → Option Row → Result Row RowFault
in_ranges k cs None = Err NoRelation
in_ranges k cs (Some row) = ask (in_range 1048576 k && (nat_le (length cs) 64 && all_small cs)) Numbers (Ok row)

-- a row of these numbers, or the question that they fail
abbrev pub row_made : ℤ → ℤ → List ℤ → Result Row RowFault
row_made relation k cs = in_ranges k cs (row_of relation k cs)
