use Rattle.std.proofs.Common.{true, length, rules}
use Rattle.task.proofs.Marks.{only_goal, marked_on, marked_more, all_marked}
use Rattle.task.proofs.tasks.Flow.joined_to.Goals as goal

pub loop-settled-init : goal.loop-settled-init
loop-settled-init c = rw c.index.ensures.place (only_goal c.args.self.edges.now c.args.self.turns.now c.args.side c.args.goal (rw c.index.ensures.place at c.index.ensures.low))

pub loop-settled-preserved : goal.loop-settled-preserved
loop-settled-preserved c = search (rules, marked_on)

pub loop-settled-preserved-then-not-settled : goal.loop-settled-preserved-then-not-settled
loop-settled-preserved-then-not-settled c =
    let es = c.args.self.edges.now in
    let ts = c.args.self.turns.now in
    let on = marked_on es ts c.args.side c.args.goal c.loop-settled.marks c.spread-settled.new.marks c.loop-settled.settled c.spread-settled.result c.loop-settled.invariant c.spread-settled.ensures in
    rw c.if-not-settled.true (marked_more es ts c.args.side c.args.goal c.spread-settled.new.marks c.spread_on.new.marks c.spread-settled.result true (length es) on c.spread_on.ensures)

pub returns : goal.returns
returns c =
    all_marked c.args.self.edges.now c.args.self.turns.now c.args.side c.args.goal c.loop-settled.marks (rw c.loop-settled-test.false at c.loop-settled.invariant)
