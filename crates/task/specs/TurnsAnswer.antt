-- The answer of the questions about turns. To compute with.
use Rattle.std.specs.Prelude.{ℕ, ◌+◌, Bool, not, ◌&&◌, List, length, ℤ, Some, None, Ok, Err, Option, Result, ◌==◌, int_le, int_lt, nat_eq, nat_lt, slice_index}
use Rattle.price.specs.Questions.{ask}
use Rattle.task.specs.declared.faults.TurnsFault.{TurnsFault}
use Rattle.task.specs.declared.faults.TurnsFault.TheVariants.{Count, Range, Unbalanced, Stranded, RowBroken}
use Rattle.task.specs.declared.edges.Edge.{Edge}
use Rattle.task.specs.declared.edges.Side.{Side}
use Rattle.task.specs.declared.edges.Side.TheVariants.{Tail, Head}
use Rattle.task.specs.declared.rows.Relation.{Relation}
use Rattle.task.specs.declared.rows.Relation.TheVariants.{Below, AtMost, Equal}
use Rattle.task.specs.Graph.{head_of}
use Rattle.task.specs.Lowest.{one_if, first}
use Rattle.task.specs.Rows.{Row, row_sum}
use Rattle.task.specs.Sides.{end_at, is_live, node_count, reaches}
use Rattle.task.specs.Sound.{row_at}
use Rattle.task.specs.Turns.{turns_by}

-- edge x has more turns than allowed
abbrev pub over : List ℕ → ℕ → Bool
over ts x = nat_lt 1048575 (slice_index ts x)

-- the turns of the edges that have the node on that side
abbrev pub turns_at : Side → ℕ → List Edge → List ℕ → ℕ
turns_at side v es ts = turns_by (λ e. nat_eq (end_at side e) v) es ts

abbrev pub unbalanced : List Edge → ℕ → ℕ → List ℕ → ℕ → Bool
unbalanced es start end ts v = not (turns_at Head v es ts + one_if (v == start) == turns_at Tail v es ts + one_if (v == end))

-- edge x has turns, and from its head the end is not reached
abbrev pub stranded : List Edge → ℕ → List ℕ → ℕ → Bool
stranded es end ts x = is_live ts x && not (reaches es ts Tail end (head_of es x))

abbrev pub meets : Relation → ℤ → ℤ → Bool
meets Below sum k = int_lt sum k
meets AtMost sum k = int_le sum k
meets Equal sum k = int_le sum k && int_le k sum

abbrev pub kept : List Edge → List ℕ → Row → Bool
kept es ts row = meets row.relation (row_sum es row ts) row.k

abbrev pub broken : List Edge → List Row → List ℕ → ℕ → Bool
broken es rows ts i = not (kept es ts (row_at rows i))

-- one question of each place: the lowest that fails it is refused
abbrev pub unless : (ℕ → TurnsFault) → Option ℕ → Result (Unit {0}) TurnsFault → Result (Unit {0}) TurnsFault
unless refusal (Some place) rest = Err (refusal place)
unless refusal None rest = rest

abbrev pub turns_answer : List Edge → List Row → ℕ → ℕ → List ℕ → Result (Unit {0}) TurnsFault
turns_answer es rows start end ts =
    ask (length ts == length es) Count
    (unless Range (first (over ts) (length es))
    (unless Unbalanced (first (unbalanced es start end ts) (node_count es))
    (unless Stranded (first (stranded es end ts) (length es))
    (unless RowBroken (first (broken es rows ts) (length rows))
    (Ok tt)))))
