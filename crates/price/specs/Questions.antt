-- The questions of a call, asked in order.
use Rattle.std.specs.Prelude.{Bool, true, false, Err, Result}

-- one question: if its answer is no, the call refuses with this error, and asks no further
abbrev pub ask : {A E : Type 0} → Bool → E → Result A E → Result A E
ask true refusal rest = rest
ask false refusal rest = Err refusal
