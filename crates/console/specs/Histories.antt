-- The history of calls behind a text of lines and its replies.
use Rattle.std.specs.Prelude.{ℕ, List, [], ◌∷◌, ◌++◌}
use Rattle.price.specs.Tariffs.{by_cycles, one_read}
use Rattle.judge.specs.declared.refusals.Refusal.TheVariants.{LineForm}
use Rattle.history.specs.Answers.{Said, refused}
use Rattle.history.specs.Calls.{Request}
use Rattle.judge.specs.Cases.{Contents}
use Rattle.history.specs.History.{History, ◌gives◌}
use Rattle.history.specs.Reaching as judging
use Rattle.history.specs.Rules.{Rules}
use Rattle.grammar.specs.Spelling.{Spells}
use Rattle.console.specs.Rendering.{rendered}

-- the bytes are the rendered answers of the calls that the lines spell, in order; a line that spells none is refused, and is no call
pub data Renders : List (List ℕ) → History → List ℕ → Type 0 where
  no_line : Renders [] [] []
  a_call : {texts : List (List ℕ)} {calls : History} {bytes : List ℕ} (text : List ℕ) (q : Request) (answer : Said) → Spells q text →
      Renders texts calls bytes → Renders (text ∷ texts) (q gives answer ∷ calls) (rendered answer ++ bytes)
  no_call : {texts : List (List ℕ)} {calls : History} {bytes : List ℕ} (text : List ℕ) → ((q : Request) → Spells q text → ⊥) →
      Renders texts calls bytes → Renders (text ∷ texts) calls (rendered (refused LineForm) ++ bytes)

-- whatever calls, judged cycles first, brought a fresh case here: with those of these lines they lead to what it then holds, and keep the rules
pub record Ruled (past : History) (texts : List (List ℕ)) (bytes : List ℕ) (kept : Contents) : Type 0 where
  pub calls : History
  pub renders : Renders texts calls bytes
  pub reached : judging.Reached by_cycles one_read (past ++ calls) kept
  pub rules : Rules by_cycles (past ++ calls)

abbrev pub KeepsOn : Contents → List (List ℕ) → List ℕ → Contents → Type 0
KeepsOn held texts bytes kept = (past : History) → judging.Reached by_cycles one_read past held → Ruled past texts bytes kept
