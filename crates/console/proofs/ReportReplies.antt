-- The reply that tells the state of a case, as a digit and the numbers after it.
use Rattle.std.proofs.Common.{◌≡◌, ℕ, ◌+◌, ◌<◌, List, [], ◌∷◌, ◌++◌, ℤ, codes, decimal, append_assoc, append-nil, arith}
use Rattle.std.proofs.lemmas.Fmt.{decimal_digit}
use Rattle.price.specs.Pairs.{zero}
use Rattle.history.specs.Answers.{told}
use Rattle.grammar.specs.Spelling.{integers}
use Rattle.console.specs.Rendering.{rendered}

-- the stage is one digit
pub idle_told : (stage : ℕ) (text : List ℕ) → stage < 10 → text ≡ codes "ok " ++ ((48 + stage) ∷ codes " 0 0 0 0") →
    text ++ (10 ∷ []) ≡ rendered (told (record { stage = stage; price = zero; steps = 0; left = 0 }))
idle_told stage text h is = rw (is, decimal_digit stage h, decimal_digit 0 (omega arith))

pub standing_told : (stage : ℕ) (y z : ℤ) (steps left : ℕ) (word price more text : List ℕ) → stage < 10 → word ≡ codes "ok " ++ ((48 + stage) ∷ []) →
    price ≡ word ++ integers (y ∷ z ∷ []) → more ≡ price ++ (32 ∷ decimal steps) → text ≡ more ++ (32 ∷ decimal left) →
    text ++ (10 ∷ []) ≡ rendered (told (record { stage = stage; price = (y, z); steps = steps; left = left }))
standing_told stage y z steps left word price more text h w p m t = rw (t, m, p, w, decimal_digit stage h) (simp (append_assoc, append-nil))
