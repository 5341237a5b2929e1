-- Balanced turns that are no run: the edges are taken whatever they cost, and the claim is computed.
use Rattle.std.proofs.Common.{◌≡◌, ℕ, Bool, true, false, not, ◌&&◌, ltb, leb, List, [], ◌∷◌, ◌++◌, length, ℤ, Ok, Result, refl, ap, ◌∙◌}
use Rattle.std.proofs.lemmas.Bool.{and_from, le-leb}
use Rattle.price.specs.Questions.{ask}
use Rattle.price.specs.Tariffs.{by_cycles, one_read}
use Rattle.judge.specs.declared.refusals.Refusal.TheVariants.{Edge as EdgeRefused, EdgeRepeated, Turns}
use Rattle.task.specs.declared.edges.NewEdge.{NewEdge}
use Rattle.task.specs.declared.faults.TurnsFault.TheVariants.{Stranded}
use Rattle.task.specs.Edges.{edge_of, edge_made, repeated}
use Rattle.task.specs.Sides.{reaches}
use Rattle.task.specs.declared.edges.Edge.{Edge}
use Rattle.judge.specs.Cases.{Contents}
use Rattle.judge.specs.Drafting.{then_ask, edge_answer, edge_kept}
use Rattle.judge.specs.Stages.{draft}
use Rattle.history.specs.Answers.{number, ends, refused, numbered}
use Rattle.history.specs.Calls.{Request, seal, claim}
use Rattle.trials.specs.Playing.{answers_from}
use Rattle.trials.specs.Worked.{Costs, an_edge, BalancedButNoRun}

abbrev numbers : ℕ → ℕ → Costs → NewEdge
numbers tail head c = record { tail = tail; head = head; block = c.block; cycles = c.cycles; reads = c.reads }

abbrev made_of : ℕ → ℕ → Costs → Edge
made_of tail head c = edge_of (numbers tail head c)

-- a draft of these edges
abbrev holds : List Edge → Contents
holds es = record { stage = draft; edges = es; rows = [] }

yes : {A E : Type 0} (b : Bool) (refusal : E) (r : Result A E) → b ≡ true → ask b refusal r ≡ r
yes b refusal r is = ap (λ v. ask v refusal r) is

module _ (es : List Edge) (tail head : ℕ) (c : Costs) (low : leb tail 31 ≡ true) (low' : leb head 31 ≡ true) (few : ltb (length es) 64 ≡ true) (new : repeated (made_of tail head c) es ≡ false) where
  made : edge_made (numbers tail head c) ≡ Ok (made_of tail head c)
  made =
      yes (leb tail 31 && (leb head 31 && leb c.block 63)) _ _
      (and_from (leb tail 31) (leb head 31 && leb c.block 63) low (and_from (leb head 31) (leb c.block 63) low' (le-leb c.block 63 c.low)))
      ∙ yes (leb c.cycles 65535 && leb c.reads 65535) _ _
      (and_from (leb c.cycles 65535) (leb c.reads 65535) (le-leb c.cycles 65535 c.few_cycles) (le-leb c.reads 65535 c.few_reads))

  says : edge_answer (holds es) (numbers tail head c) ≡ Ok (length es)
  says =
      yes (ltb (length es) 64) _ _ few ∙ ap (λ m. then_ask EdgeRefused m (λ e. ask (not (repeated e es)) EdgeRepeated (Ok (length es)))) made
      ∙ yes (not (repeated (made_of tail head c) es)) _ _ (ap not new)

  leaves : edge_kept (edge_answer (holds es) (numbers tail head c)) (holds es) (numbers tail head c) ≡ holds (es ++ (made_of tail head c ∷ []))
  leaves = ap (λ r. edge_kept r (holds es) (numbers tail head c)) says

  -- one more edge is taken
  one_edge : (calls : List Request) → answers_from by_cycles one_read (holds es) (an_edge tail head c ∷ calls) ≡ number (length es) ∷ answers_from by_cycles one_read (holds (es ++ (made_of tail head c ∷ []))) calls
  one_edge calls = λ i. numbered (says i) ∷ answers_from by_cycles one_read (leaves i) calls

-- the claim, whatever the edges cost
stranded : (a b c d e : Costs) (tree : List ℤ) →
    answers_from by_cycles one_read (holds (made_of 0 1 a ∷ made_of 1 3 b ∷ made_of 1 2 c ∷ made_of 2 2 d ∷ made_of 2 3 e ∷ [])) (seal ∷ claim (1 ∷ 1 ∷ 0 ∷ 5 ∷ 0 ∷ []) tree ∷ [])
    ≡ ends 0 3 ∷ refused (Turns (Stranded 3)) ∷ []
unfolding reaches
stranded a b c d e tree = refl

pub no_run : BalancedButNoRun
no_run a b c d e tree =
    let last : List Request = seal ∷ claim (1 ∷ 1 ∷ 0 ∷ 5 ∷ 0 ∷ []) tree ∷ [] in
    one_edge [] 0 1 a refl refl refl refl (an_edge 1 3 b ∷ an_edge 1 2 c ∷ an_edge 2 2 d ∷ an_edge 2 3 e ∷ last)
    ∙ ap (λ l. number 0 ∷ l) (one_edge (made_of 0 1 a ∷ []) 1 3 b refl refl refl refl (an_edge 1 2 c ∷ an_edge 2 2 d ∷ an_edge 2 3 e ∷ last)
    ∙ ap (λ l. number 1 ∷ l) (one_edge (made_of 0 1 a ∷ made_of 1 3 b ∷ []) 1 2 c refl refl refl refl (an_edge 2 2 d ∷ an_edge 2 3 e ∷ last)
    ∙ ap (λ l. number 2 ∷ l) (one_edge (made_of 0 1 a ∷ made_of 1 3 b ∷ made_of 1 2 c ∷ []) 2 2 d refl refl refl refl (an_edge 2 3 e ∷ last)
    ∙ ap (λ l. number 3 ∷ l) (one_edge (made_of 0 1 a ∷ made_of 1 3 b ∷ made_of 1 2 c ∷ made_of 2 2 d ∷ []) 2 3 e refl refl refl refl last
    ∙ ap (λ l. number 4 ∷ l) (stranded a b c d e tree)))))
