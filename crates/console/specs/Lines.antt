-- The lines of a text.
use Rattle.std.specs.Prelude.{ℕ, cond, List, [], ◌∷◌, ◌++◌, ◌==◌}

-- the lines of a text that goes on after the bytes of a line; a last line without a feed counts if it has any byte
abbrev pub lines_on : List ℕ → List ℕ → List (List ℕ)
lines_on [] [] = []
lines_on (b ∷ line) [] = (b ∷ line) ∷ []
lines_on line (c ∷ cs) = cond (c == 10) (line ∷ lines_on [] cs) (lines_on (line ++ (c ∷ [])) cs)

abbrev pub lines : List ℕ → List (List ℕ)
lines text = lines_on [] text
