use Rattle.std.proofs.Common.{◌-◌, sym, ap, ◌∙◌, arith, rules}
use Rattle.std.proofs.lemmas.List.{get_or_default}
use Rattle.task.specs.Graph.{no_edge}
use Rattle.walk.proofs.DistancePasses.{pass_lowers}
use Rattle.walk.proofs.exits.Distances.shorten.Goals as goal

pub loop-x-preserved-then-self-to : goal.loop-x-preserved-then-self-to
loop-x-preserved-then-self-to c =
    let read = get_or_default c.args.flow.edges.now (c.loop-x.x - 1) c.index-flow-x.result no_edge (omega arith) in
    pass_lowers c.args.flow.edges.now c.args.flow.turns.now c.args.self.now.far c.loop-x.self.far c.loop-x.settled c.loop-x.x (c.loop-x.x - 1) c.loop-x.invariant
    (omega arith) (omega (arith, c.if-turns_of-gt0.true, c.turns_of.ensures)) c.index-from.result c.index-to.result
    (sym (c.index-from.ensures.place ∙ ap (λ e. e.tail) read)) (sym (c.index-to.ensures.place ∙ ap (λ e. e.head) read)) (search rules) (search rules) c.if-self-to.true
