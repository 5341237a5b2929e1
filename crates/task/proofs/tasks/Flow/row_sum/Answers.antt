use Rattle.std.proofs.Common.{arith, w32, SFits, rules}
use Rattle.std.proofs.lemmas.Int.{ints, to_z-of_z}
use Rattle.task.specs.declared.edges.Edge.{Edge}
use Rattle.task.specs.Rows.{coefficient}
use Rattle.task.proofs.ByPlaces.{row_by_edges}
use Rattle.task.proofs.EdgeSums.{edge_read, weighed_next, weighed_done}
use Rattle.task.proofs.tasks.Flow.row_sum.Goals as goal

pub loop-x-preserved : goal.loop-x-preserved
loop-x-preserved c =
    let fits : SFits w32 c.coefficient.result = search rules in
    let read = edge_read c.args.self.edges.now c.loop-x.x c.edge-item.result c.edge-item.is (omega arith) in
    let own = rw (to_z-of_z w32 c.coefficient.result fits, c.coefficient.ensures.value, read, c.turns_of.ensures) at c.weighed-sum.ensures.value in
    let more = weighed_next (λ e. coefficient c.args.row.now e.block) c.args.self.edges.now c.args.self.turns.now c.loop-x.x (omega arith) in
    (omega (arith, ints, own, more), omega (arith, ints))

pub returns : goal.returns
returns c =
    omega (arith, ints, weighed_done (λ (e : Edge). coefficient c.args.row.now e.block) c.args.self.edges.now c.args.self.turns.now c.loop-x.x (omega arith), row_by_edges c.args.row.now c.args.self.edges.now c.args.self.turns.now)
