-- The answer of the questions about the two ends. To compute with.
use Rattle.std.specs.Prelude.{ℕ, Bool, not, ◌&&◌, List, [], Some, None, Ok, Err, Option, Result}
use Rattle.task.specs.declared.faults.GraphFault.{GraphFault}
use Rattle.task.specs.declared.faults.GraphFault.TheVariants.{NotOneStart, NotOneEnd, NodeAstray}
use Rattle.task.specs.declared.edges.Edge.{Edge}
use Rattle.task.specs.declared.edges.Side.TheVariants.{Tail, Head}
use Rattle.task.specs.Lowest.{sole, first}
use Rattle.task.specs.Sides.{node_count, untouched, reaches}

-- v is not reached from s, or does not reach e
abbrev pub astray : List Edge → ℕ → ℕ → ℕ → Bool
astray es s e v = not (reaches es [] Head s v && reaches es [] Tail e v)

abbrev pub unless_astray : ℕ × ℕ → Option ℕ → Result (ℕ × ℕ) GraphFault
unless_astray ends None = Ok ends
unless_astray ends (Some v) = Err (NodeAstray v)

abbrev pub ends_of : List Edge → Option ℕ → Option ℕ → Result (ℕ × ℕ) GraphFault
ends_of es None end = Err NotOneStart
ends_of es (Some s) None = Err NotOneEnd
ends_of es (Some s) (Some e) = unless_astray (s, e) (first (astray es s e) (node_count es))

abbrev pub ends_answer : List Edge → Result (ℕ × ℕ) GraphFault
ends_answer es = ends_of es (sole (untouched Head es) (node_count es)) (sole (untouched Tail es) (node_count es))
