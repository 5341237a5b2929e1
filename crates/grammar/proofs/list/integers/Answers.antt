use Rattle.std.proofs.Common.{◌≡◌, ◌-◌, [], ◌∷◌, ◌++◌, length, sym, ◌∙◌, arith, w32, SFits, rules}
use Rattle.std.proofs.lemmas.Bool.Decides.{nat_tests}
use Rattle.std.proofs.lemmas.Int.{to_z-of_z}
use Rattle.arrayvec.specs.ArrayVec.{array_vec_len}
use Rattle.grammar.proofs.OneNumberMore.{integers_more, integers_none}
use Rattle.grammar.proofs.list.integers.Goals as goal

pub loop-rest-preserved : goal.loop-rest-preserved
loop-rest-preserved c =
    let zs = c.loop-rest.table.items ++ (c.in_ok-number.number ∷ []) in
    let fits : SFits w32 c.in_ok-number.number = search rules in
    let pushed : c.push.new.self.items ≡ zs = simp to_z-of_z at c.push.ensures.items in
    let more = integers_more _ (c.args.room - array_vec_len c.loop-rest.table) (c.args.room - length zs) _ c.loop-rest.rest.now _
    (grind (arith, nat_tests)) (grind (arith, nat_tests)) c.in_ok-number.ensures in
    (grind (arith, nat_tests), rw pushed (sym more ∙ c.loop-rest.invariant.1))

pub returns-in_err-number : goal.returns-in_err-number
returns-in_err-number c = grind (arith, nat_tests, integers_none)
