use Rattle.std.proofs.Common.{vec_items, sym, ap, subst}
use Rattle.task.specs.Sealing.{Ends}
use Rattle.judge.proofs.Accepts.{claim_between, sealed_ends, small_price}
use Rattle.judge.proofs.case.Case.claim_in.Goals as goal

pub returns-in_ok-price-in-Sealed-clause-accepted : goal.returns-in_ok-price-in-Sealed-clause-accepted
returns-in_ok-price-in-Sealed-clause-accepted g c =
    let case = c.args.self.now in
    let inside = c.self.inside in
    let held = sealed_ends (vec_items inside.edges) c.in-Sealed.start c.in-Sealed.end inside.stage inside.exits inside.left.items c.in-Sealed.is c.self.invariant.ends_hold in
    let ends = subst (λ es. Ends es c.in-Sealed.start c.in-Sealed.end) (ap (λ k. k.edges) c.self.view_is) held in
    claim_between c.args.sense (g.T.Tariff.le c.args.tariff.now) (g.T.Tariff.unit c.args.tariff.now) case.edges case.rows _ _ c.args.turns.now c.args.tree.now _
    (sym c.in_ok-price-in-Sealed.ensures.answer) (g.met.T.Tariff.laws c.args.tariff.now) ends

pub returns-in_ok-price-in-Sealed-clause-small : goal.returns-in_ok-price-in-Sealed-clause-small
returns-in_ok-price-in-Sealed-clause-small g c =
    let case = c.args.self.now in
    small_price c.args.sense (g.T.Tariff.le c.args.tariff.now) (g.T.Tariff.unit c.args.tariff.now) case.edges case.rows _ _ c.args.turns.now c.args.tree.now _ (sym c.in_ok-price-in-Sealed.ensures.answer)
