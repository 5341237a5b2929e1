-- The calls that draft a task and seal it: the questions of each in order, and what it leaves.
use Rattle.std.specs.Prelude.{◌≡◌, ℕ, not, List, [], ◌∷◌, ◌++◌, length, ℤ, Ok, Err, Result, nat_lt}
use Rattle.std.specs.Option.{option_to_list}
use Rattle.judge.specs.Cases.{Contents}
use Rattle.judge.specs.Stages.{is_draft, sealed}
use Rattle.judge.specs.declared.refusals.Refusal.{Refusal}
use Rattle.judge.specs.declared.refusals.Refusal.TheVariants.{NotDraft, EdgesFull, Edge as EdgeRefused, EdgeRepeated, RowsFull, Row, Graph}
use Rattle.price.specs.Questions.{ask}
use Rattle.task.specs.Edges.{edge_of, edge_made, repeated}
use Rattle.task.specs.EndsAnswer.{ends_answer}
use Rattle.task.specs.NewRows.{row_of, row_made}
use Rattle.task.specs.Sealing.{Sealed}
use Rattle.task.specs.declared.edges.Edge.{Edge}
use Rattle.task.specs.declared.edges.NewEdge.{NewEdge}
use Rattle.task.specs.declared.faults.GraphFault.{GraphFault}

-- the questions of a part, whose fault becomes a refusal, and then those about what it answers
abbrev pub then_ask : {A B F : Type 0} → (F → Refusal) → Result A F → (A → Result B Refusal) → Result B Refusal
then_ask refusal (Ok x) more = more x
then_ask refusal (Err fault) more = Err (refusal fault)

abbrev pub edge_answer : Contents → NewEdge → Result ℕ Refusal
edge_answer c new =
    ask (is_draft c.stage) NotDraft
    (ask (nat_lt (length c.edges) 64) EdgesFull
    (then_ask EdgeRefused (edge_made new) (λ e.
    ask (not (repeated e c.edges)) EdgeRepeated
    (Ok (length c.edges)))))

-- an accepted edge comes last, and a refusal changes nothing
abbrev pub edge_kept : Result ℕ Refusal → Contents → NewEdge → Contents
edge_kept (Ok number) c new = record c { edges = c.edges ++ (edge_of new ∷ []) }
edge_kept (Err refusal) c new = c

abbrev pub row_answer : Contents → ℤ → ℤ → List ℤ → Result ℕ Refusal
row_answer c relation k cs =
    ask (is_draft c.stage) NotDraft
    (ask (nat_lt (length c.rows) 24) RowsFull
    (then_ask Row (row_made relation k cs) (λ row.
    Ok (length c.rows))))

-- an accepted row comes last, and a refusal changes nothing
abbrev pub row_kept : Result ℕ Refusal → Contents → ℤ → ℤ → List ℤ → Contents
row_kept (Ok number) c relation k cs = record c { rows = c.rows ++ option_to_list (row_of relation k cs) }
row_kept (Err refusal) c relation k cs = c

abbrev pub seal_answer : Contents → Result (ℕ × ℕ) Refusal
seal_answer c = ask (is_draft c.stage) NotDraft (then_ask Graph (ends_answer c.edges) (λ ends. Ok ends))

-- a sealed case keeps its edges and rows, and a refusal changes nothing
abbrev pub seal_kept : Result (ℕ × ℕ) Refusal → Contents → Contents
seal_kept (Ok ends) c = record c { stage = sealed ends.0 ends.1 }
seal_kept (Err refusal) c = c

-- what seal answers a draft: its two ends, or what its graph fails by
pub record SealAnswers (es : List Edge) (answer : Result (ℕ × ℕ) Refusal) : Type 0 where
  pub ends : Result (ℕ × ℕ) GraphFault
  pub is : answer ≡ then_ask Graph ends (λ both. Ok both)
  pub means : Sealed es ends
