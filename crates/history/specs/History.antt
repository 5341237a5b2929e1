-- What happened to a case: the calls made, each with its answer, the oldest first.
-- A case is known by this alone; nothing here speaks of what a program stores.
use Rattle.std.specs.Prelude.{◌≡◌, ℕ, Bool, true, false, ◌⊎◌, List, [], ◌∷◌, ◌++◌, Result}
use Rattle.history.specs.Answers.{Said, number, ends, price, next, done, agreed, told as tells, refused, said}
use Rattle.judge.specs.Reports.{State}
use Rattle.history.specs.Calls.{Request, edge, row, seal, claim, step, told, request}
use Rattle.history.specs.declared.calls.Answer.{Answer}
use Rattle.history.specs.declared.calls.Call.{Call}
use Rattle.price.specs.Pairs.{Pair}
use Rattle.judge.specs.declared.refusals.Refusal.{Refusal}

-- a call with its answer
pub record Event : Type 0 where
  pub call : Request
  pub answer : Said

abbrev pub History : Type 0
History = List Event

infix 90 ◌gives◌
abbrev pub ◌gives◌ : Request → Said → Event
q gives a = record { call = q; answer = a }

-- h, and then this call with this answer
abbrev pub with_call : History → Request → Said → History
with_call h q a = h ++ (q gives a ∷ [])

-- the calls with their answers; a contract says beside it that there is an answer for each call
abbrev pub history : List Call → List (Result Answer Refusal) → History
history [] answers = []
history (c ∷ calls) [] = []
history (c ∷ calls) (a ∷ answers) = request c gives said a ∷ history calls answers

-- a call is accepted if it passes all its questions, and refused otherwise
abbrev pub accepted : Said → Bool
accepted (refused refusal) = false
accepted other = true

-- what each call answers where it is accepted
abbrev pub Answers : Request → Said → Type 0
Answers (edge new) a = (n : ℕ) × (a ≡ number n)
Answers (row relation k coefficients) a = (n : ℕ) × (a ≡ number n)
Answers seal a = (start : ℕ) × ((end : ℕ) × (a ≡ ends start end))
Answers (claim turns tree) a = (p : Pair) × (a ≡ price p)
Answers step a = (a ≡ done) ⊎ ((x : ℕ) × (a ≡ next x))
Answers told a = (state : State) × (a ≡ tells state)
-- an accepted void claim or withdraw
Answers other a = a ≡ agreed

-- in h, this call got this answer after what is past
abbrev pub Moment : History → History → Request → Said → Type 0
Moment h past q a = (later : History) × (h ≡ past ++ (q gives a ∷ later))

-- past is how h began, or all of it
abbrev pub Begins : History → History → Type 0
Begins past h = (later : History) × (h ≡ past ++ later)
