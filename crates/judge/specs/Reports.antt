-- What a case tells of itself.
use Rattle.std.specs.Prelude.{ℕ}
use Rattle.judge.specs.declared.reports.Report.{Report}
use Rattle.judge.specs.declared.reports.Report.TheVariants.{Draft, Sealed, Standing, Void}
use Rattle.judge.specs.declared.stages.Proof.{Proof}
use Rattle.judge.specs.declared.stages.Proof.TheVariants.{Certified}
use Rattle.price.specs.Pairs.{Pair, zero}
use Rattle.price.specs.declared.senses.Sense.{Sense}
use Rattle.price.specs.declared.senses.Sense.TheVariants.{Longest}

-- what told shows: the stage, the price, the steps handed out and the turns left
pub record State : Type 0 where
  pub stage : ℕ
  pub price : Pair
  pub steps : ℕ
  pub left : ℕ

-- the stage in which a claim of this sense stands, so far proved
abbrev pub stage_number : Sense → Proof → ℕ
stage_number Longest Certified = 2

-- all but the stage are 0 unless a claim stands
abbrev pub only_stage : ℕ → State
only_stage n = record { stage = n; price = zero; steps = 0; left = 0 }

abbrev pub shown : Report → State
shown Draft = only_stage 0
shown Sealed = only_stage 1
shown (Standing sense proof price steps left) = record { stage = stage_number sense proof; price = price; steps = steps; left = left }
shown Void = only_stage 3
