-- The histories that lead a fresh case to what it holds.
use Rattle.std.specs.Prelude.{◌≡◌, Bool, List, [], length, Result}
use Rattle.history.specs.Answers.{Said}
use Rattle.history.specs.Calls.{Request}
use Rattle.judge.specs.Cases.{Contents, fresh}
use Rattle.history.specs.History.{History, with_call, history}
use Rattle.history.specs.Performing.{answered, after}
use Rattle.history.specs.Rules.{Rules}
use Rattle.history.specs.declared.calls.Answer.{Answer}
use Rattle.history.specs.declared.calls.Call.{Call}
use Rattle.price.specs.Pairs.{Pair}
use Rattle.judge.specs.declared.refusals.Refusal.{Refusal}

-- a fresh case comes to hold c by the calls of h, and gave them the answers of h
pub data Reached (le : Pair → Pair → Bool) (unit : Pair) : History → Contents → Type 0 where
  start : Reached le unit [] fresh
  one_more : {h : History} {c : Contents} (q : Request) → Reached le unit h c → Reached le unit (with_call h q (answered le unit c q)) (after le unit c q)

-- whatever history led a fresh case to hold c: with this call and its answer it leads to d, and keeps the rules
pub record KeepsRules (le : Pair → Pair → Bool) (unit : Pair) (c : Contents) (q : Request) (a : Said) (d : Contents) : Type 0 where
  pub reached : (h : History) → Reached le unit h c → Reached le unit (with_call h q a) d
  pub rules : (h : History) → Reached le unit h c → Rules le (with_call h q a)

-- a fresh case gave each of the calls its answer, in order
pub record Played (le : Pair → Pair → Bool) (unit : Pair) (calls : List Call) (answers : List (Result Answer Refusal)) : Type 0 where
  pub each : length answers ≡ length calls
  pub held : Contents
  pub reached : Reached le unit (history calls answers) held
