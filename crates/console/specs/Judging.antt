-- What the lines of a text make of a case, and what they are answered.
use Rattle.std.specs.Prelude.{◌≡◌, ℕ, cond, List, [], ◌∷◌, ◌++◌, length, drop, is_ok, Ok, Result}
use Rattle.std.specs.declared.alloc.AllocError.{AllocError}
use Rattle.judge.specs.declared.refusals.Refusal.{Refusal}
use Rattle.judge.specs.declared.refusals.Refusal.TheVariants.{LineForm}
use Rattle.price.specs.Tariffs.{by_cycles, one_read}
use Rattle.history.specs.Answers.{Said, refused}
use Rattle.history.specs.Calls.{Request}
use Rattle.judge.specs.Cases.{Contents}
use Rattle.history.specs.Performing.{answered, after}
use Rattle.grammar.specs.Spelling.{Spells}
use Rattle.console.specs.Rendering.{rendered}

-- a line is answered as the request that it spells, cycles first, and refused if it spells none
pub record LineJudged (held : Contents) (text : List ℕ) (answer : Said) (kept : Contents) : Type 0 where
  pub spelled : (q : Request) → Spells q text → (answer ≡ answered by_cycles one_read held q) × (kept ≡ after by_cycles one_read held q)
  pub unspelled : ((q : Request) → Spells q text → ⊥) → (answer ≡ refused LineForm) × (kept ≡ held)

-- the reply stands at the front of the buffer, and the rest is as before
pub record Replied (held : Contents) (text : List ℕ) (kept : Contents) (before after : List ℕ) (r : Result ℕ Refusal) : Type 0 where
  pub answer : Said
  pub judged : LineJudged held text answer kept
  pub ends : r ≡ Ok (length (rendered answer))
  pub buffer : after ≡ rendered answer ++ drop (length (rendered answer)) before

-- a reply is added to those before it, where there is memory
pub record Pushed (held : Contents) (text : List ℕ) (kept : Contents) (before after : List ℕ) (r : Result (Unit {0}) AllocError) : Type 0 where
  pub answer : Said
  pub judged : LineJudged held text answer kept
  pub items : after ≡ cond (is_ok r) (before ++ rendered answer) before

-- one line, and what comes after it
pub record OneLine (held : Contents) (text bytes : List ℕ) (Rest : Contents → List ℕ → Type 0) : Type 0 where
  pub answer : Said
  pub next : Contents
  pub more : List ℕ
  pub judged : LineJudged held text answer next
  pub joined : bytes ≡ rendered answer ++ more
  pub rest : Rest next more

-- the replies of the lines, one after the other
abbrev pub Replies : Contents → List (List ℕ) → List ℕ → Contents → Type 0
Replies held [] bytes kept = (bytes ≡ []) × (kept ≡ held)
Replies held (text ∷ texts) bytes kept = OneLine held text bytes (λ next more. Replies next texts more kept)

-- the first of the lines have their replies, and the others are left
pub record RepliedSoFar (held : Contents) (texts left : List (List ℕ)) (bytes : List ℕ) (kept : Contents) : Type 0 where
  pub done : List (List ℕ)
  pub split : done ++ left ≡ texts
  pub replies : Replies held done bytes kept

-- without memory: some of the lines, from the first on, were done
abbrev pub Stopped : Contents → List (List ℕ) → Contents → Type 0
Stopped held texts kept = (left : List (List ℕ)) × ((bytes : List ℕ) × RepliedSoFar held texts left bytes kept)
