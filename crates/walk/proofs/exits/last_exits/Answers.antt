use Rattle.std.proofs.Common.{◌-◌, sym, ap, ◌∙◌, arith}
use Rattle.std.proofs.lemmas.List.{get_or_default}
use Rattle.task.specs.Graph.{no_edge}
use Rattle.walk.specs.Tables.{ExitsTabled}
use Rattle.walk.proofs.ExitTables.{exits_none, exits_pass, exits_set, exits_all, is_table}
use Rattle.walk.proofs.exits.last_exits.Goals as goal

pub loop-x-init : goal.loop-x-init
loop-x-init c = exits_none c.args.flow.edges.now c.args.flow.turns.now c.args.end

pub loop-x-preserved-then-leads_nearer : goal.loop-x-preserved-then-leads_nearer
loop-x-preserved-then-leads_nearer c =
    let read = get_or_default c.args.flow.edges.now (c.loop-x.x - 1) c.index-flow-x.result no_edge (omega arith) in
    exits_set c.args.flow.edges.now c.args.flow.turns.now c.args.end c.to_end-table.result.far c.loop-x.exits (c.loop-x.x - 1) c.loop-x.x c.to_end-table.ensures
    c.leads_nearer.ensures.low (omega arith) (omega arith) c.loop-x.invariant c.index.result (sym (c.index.ensures.place ∙ ap (λ e. e.tail) read)) c.index.ensures.low (sym c.if-leads_nearer.ensures.answer)

pub loop-x-preserved : goal.loop-x-preserved
loop-x-preserved c = exits_pass c.args.flow.edges.now c.args.flow.turns.now c.args.end c.to_end-table.result.far c.loop-x.exits (c.loop-x.x - 1) c.loop-x.x
    c.to_end-table.ensures c.leads_nearer.ensures.low (omega arith) (omega arith) c.loop-x.invariant (sym c.if-leads_nearer.ensures.answer)

pub returns : goal.returns
returns c =
    let es = c.args.flow.edges.now in
    let tabled : ExitsTabled es c.args.flow.turns.now c.args.end c.loop-x.exits = exits_all es c.args.flow.turns.now c.args.end c.loop-x.exits c.loop-x.x (omega arith) c.loop-x.invariant in
    record { table = is_table es c.args.flow.turns.now c.args.end c.loop-x.exits c.loop-x.invariant.sized tabled; exits = tabled }
