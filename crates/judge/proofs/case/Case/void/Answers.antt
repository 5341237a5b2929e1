use Rattle.std.proofs.Common.{vec_items, sym, ap, subst}
use Rattle.task.specs.Sealing.{Ends}
use Rattle.judge.proofs.Accepts.{void_between, sealed_ends}
use Rattle.judge.proofs.case.Case.void.Goals as goal

pub returns-in_ok-judge_void-in-Sealed-clause-accepted : goal.returns-in_ok-judge_void-in-Sealed-clause-accepted
returns-in_ok-judge_void-in-Sealed-clause-accepted g c =
    let case = c.args.self.now in
    let inside = c.self.inside in
    let held = sealed_ends (vec_items inside.edges) c.in-Sealed.start c.in-Sealed.end inside.stage inside.exits inside.left.items c.in-Sealed.is c.self.invariant.ends_hold in
    let ends = subst (λ es. Ends es c.in-Sealed.start c.in-Sealed.end) (ap (λ k. k.edges) c.self.view_is) held in
    void_between (g.T.Tariff.le c.args.tariff.now) (g.T.Tariff.unit c.args.tariff.now) (g.met.T.Tariff.laws c.args.tariff.now)
    case.edges case.rows c.args.tree.now _ _ ends (sym c.in_ok-judge_void-in-Sealed.ensures)
