-- The replies of a text render a history that keeps the rules.
use Rattle.std.proofs.Common.{◌≡◌, ℕ, ◌⊎◌, List, [], ◌∷◌, ◌++◌, length, take, Some, None, Option, sym, refl, ap, ◌∙◌, inl, inr, append_assoc, append-nil}
use Rattle.std.proofs.Math.Seq.{take-append_seam}
use Rattle.price.specs.Tariffs.{by_cycles, one_read}
use Rattle.price.specs.CyclesLaws.{cycles_laws}
use Rattle.history.specs.Answers.{Said}
use Rattle.history.specs.Calls.{Request}
use Rattle.judge.specs.Cases.{Contents}
use Rattle.history.specs.History.{History, ◌gives◌, with_call}
use Rattle.history.specs.Reaching as judging
use Rattle.history.proofs.RulesKept.{kept}
use Rattle.history.proofs.Plays.{goes_on}
use Rattle.grammar.specs.Reading.{request_in}
use Rattle.grammar.specs.Spelling.{Spells}
use Rattle.grammar.proofs.Requests.{request_sound, request_complete}
use Rattle.console.specs.Histories.{Renders, no_line, a_call, no_call, Ruled, KeepsOn}
use Rattle.console.specs.Judging.{LineJudged, Replies}
use Rattle.console.specs.Rendering.{rendered}

-- a line spells a call, or none
spells_or_not : (text : List ℕ) → ((q : Request) × Spells q text) ⊎ ((q : Request) → Spells q text → ⊥)
spells_or_not text = by (request_in text) refl
  where
    by : (o : Option Request) → request_in text ≡ o → ((q : Request) × Spells q text) ⊎ ((q : Request) → Spells q text → ⊥)
    by (Some q) is = inl (q, request_sound text q is)
    by None is = inr (λ q spells. cc (request_complete text q spells))

ruled : (past : History) (texts : List (List ℕ)) (bytes : List ℕ) (last : Contents) (calls : History) → Renders texts calls bytes →
    judging.Reached by_cycles one_read (past ++ calls) last → Ruled past texts bytes last
ruled past texts bytes last calls renders reached = record { calls = calls; renders = renders; reached = reached; rules = kept by_cycles one_read cycles_laws reached }

pub keeps_on : (held : Contents) (texts : List (List ℕ)) (bytes : List ℕ) (last : Contents) → Replies held texts bytes last → KeepsOn held texts bytes last
keeps_on held [] bytes last (none, same) past r = ruled past [] bytes last [] (rw none no_line) (rw (append-nil, same) r)
keeps_on held (text ∷ texts) bytes last turn past r = elim (spells_or_not text) [
  | inl call ↦
      let did = turn.judged.spelled call.0 call.1 in
      let rest = keeps_on turn.next texts turn.more last turn.rest (with_call past call.0 turn.answer) (goes_on by_cycles one_read past held turn.next call.0 turn.answer did.0 did.1 r) in
      ruled past (text ∷ texts) bytes last (call.0 gives turn.answer ∷ rest.calls) (rw turn.joined (a_call text call.0 turn.answer call.1 rest.renders))
      (rw append_assoc at rest.reached)
  | inr none ↦
      let did = turn.judged.unspelled none in
      let rest = keeps_on turn.next texts turn.more last turn.rest past (rw did.1 r) in
      ruled past (text ∷ texts) bytes last rest.calls (rw (turn.joined, did.0) (no_call text none rest.renders)) rest.reached
]

-- the same of a reply at the front of a buffer
pub line_keeps : (held next : Contents) (text bytes copied rest : List ℕ) (answer : Said) → LineJudged held text answer next → bytes ≡ rendered answer → copied ≡ bytes →
    KeepsOn held (text ∷ []) (take (length bytes) (copied ++ rest)) next
line_keeps held next text bytes copied rest answer judged is same =
    let taken : take (length bytes) (copied ++ rest) ≡ rendered answer = ap (λ l. take (length bytes) (l ++ rest)) same ∙ take-append_seam bytes rest ∙ is in
    keeps_on held (text ∷ []) _ next
    (record { answer = answer; next = next; more = []; judged = judged; joined = taken ∙ sym (append-nil (rendered answer)); rest = (refl, refl) })
