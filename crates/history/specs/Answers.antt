-- What is answered.
use Rattle.std.specs.Prelude.{ℕ, Some, None, Ok, Err, Option, Result}
use Rattle.history.specs.declared.calls.Answer.{Answer}
use Rattle.history.specs.declared.calls.Answer.TheVariants.{Number, Ends, Price, Next, Done, Agreed, Told}
use Rattle.judge.specs.Reports.{State, shown}
use Rattle.price.specs.Pairs.{Pair}
use Rattle.judge.specs.declared.refusals.Refusal.{Refusal}

-- an answer, by its numbers
pub data Said : Type 0 where
  number : ℕ → Said
  ends : ℕ → ℕ → Said
  price : Pair → Said
  next : ℕ → Said
  done : Said
  agreed : Said
  told : State → Said
  refused : Refusal → Said

abbrev pub said : Result Answer Refusal → Said
said (Ok (Number n)) = number n
said (Ok (Ends start end)) = ends start end
said (Ok (Price p)) = price p
said (Ok (Next edge)) = next edge
said (Ok Done) = done
said (Ok Agreed) = agreed
said (Ok (Told report)) = told (shown report)
said (Err refusal) = refused refusal

-- ---- the result of a call, as an answer

abbrev pub numbered : Result ℕ Refusal → Said
numbered (Ok n) = number n
numbered (Err refusal) = refused refusal

abbrev pub ended : Result (ℕ × ℕ) Refusal → Said
ended (Ok both) = ends both.0 both.1
ended (Err refusal) = refused refusal

abbrev pub priced : Result Pair Refusal → Said
priced (Ok p) = price p
priced (Err refusal) = refused refusal

abbrev pub next_or_done : Option ℕ → Said
next_or_done (Some edge) = next edge
next_or_done None = done

abbrev pub stepped : Result (Option ℕ) Refusal → Said
stepped (Ok found) = next_or_done found
stepped (Err refusal) = refused refusal

abbrev pub unless_refused : Result (Unit {0}) Refusal → Said
unless_refused (Ok _) = agreed
unless_refused (Err refusal) = refused refusal
