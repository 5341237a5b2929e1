use Rattle.std.proofs.Common.{◌+◌, ◌-◌, ◌<◌, length, sym, ◌∙◌, arith}
use Rattle.std.proofs.lemmas.List.{take_more_set}
use Rattle.grammar.proofs.OneNumberMore.{naturals_more}
use Rattle.grammar.proofs.list.naturals.Goals as goal

pub loop-slot-preserved : goal.loop-slot-preserved
loop-slot-preserved c =
    let n = length c.args.table.now in let i = c.loop-slot.slot-index in let less : i < length c.loop-slot.table = omega arith in
    simp take_more_set (sym (naturals_more _ (n - i) (n - (i + 1)) _ _ _ (omega arith) c.in_ok-slot.ensures) ∙ c.loop-slot.invariant)
