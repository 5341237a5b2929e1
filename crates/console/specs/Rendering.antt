-- The line that tells an answer.
use Rattle.std.specs.Prelude.{ℕ, List, [], ◌∷◌, ◌++◌, ℤ, pos, codes}
use Rattle.judge.specs.Refusals.{refusal_numbers}
use Rattle.history.specs.Answers.{Said, number, ends, price, next, done, agreed, told, refused}
use Rattle.grammar.specs.Spelling.{integers}

-- the words and the numbers of each answer
abbrev pub word_and_numbers : Said → List ℕ × List ℤ
word_and_numbers (number n) = (codes "ok", pos n ∷ [])
word_and_numbers (ends start end) = (codes "ok", pos start ∷ pos end ∷ [])
word_and_numbers (price p) = (codes "ok", p.0 ∷ p.1 ∷ [])
word_and_numbers (next edge) = (codes "ok", pos edge ∷ [])
word_and_numbers done = (codes "ok done", [])
word_and_numbers agreed = (codes "ok", [])
word_and_numbers (told s) = (codes "ok", pos s.stage ∷ s.price.0 ∷ s.price.1 ∷ pos s.steps ∷ pos s.left ∷ [])
word_and_numbers (refused refusal) =
    (codes "no", pos (refusal_numbers refusal).0 ∷ pos (refusal_numbers refusal).1 ∷ pos (refusal_numbers refusal).2 ∷ [])

-- the words, each number after one blank, and a feed
abbrev pub rendered : Said → List ℕ
rendered answer = (word_and_numbers answer).0 ++ (integers (word_and_numbers answer).1 ++ (10 ∷ []))
