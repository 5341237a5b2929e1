-- An answer that may be missing.
use Rattle.std.specs.Borrow.{Bor}
use Rattle.std.specs.Prelude.{ℕ, List, Some, None, Option}

-- a value and the text after it, as the code holds them
abbrev pub held : {A : Type 0} → Option (A × Bor (List ℕ)) → Option (A × List ℕ)
held None = None
held (Some p) = Some (p.0, p.1.now)
