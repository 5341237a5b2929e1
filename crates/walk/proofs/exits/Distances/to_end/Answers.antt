use Rattle.std.proofs.Common.{◌+◌, length, replicate, arith, rules}
use Rattle.std.proofs.lemmas.List.{get_or-replicate, length-replicate}
use Rattle.walk.proofs.DistancePasses.{only_end, only_end_small, nearing_on, all_far}
use Rattle.walk.proofs.exits.Distances.to_end.Goals as goal

pub invariant_of-table : goal.invariant_of-table
invariant_of-table c =
    let n = length c.args.flow.edges.now + 2 in
    record {
      small = only_end_small c.args.flow.edges.now c.args.flow.turns.now c.args.end (replicate 32 n) (length-replicate 32 n) (λ v h. get_or-replicate 32 v n 0 h)
          c.index.result c.index.ensures.place c.index.ensures.low (search rules);
    }

pub loop-init : goal.loop-init
loop-init c =
    let n = length c.args.flow.edges.now + 2 in
    only_end c.args.flow.edges.now c.args.flow.turns.now c.args.end (replicate 32 n) (length-replicate 32 n) (λ v h. get_or-replicate 32 v n 0 h) c.index.result c.index.ensures.place c.index.ensures.low

pub loop-preserved : goal.loop-preserved
loop-preserved c = nearing_on c.args.flow.edges.now c.args.flow.turns.now c.args.end c.loop.table.far c.shorten.new.self.far c.shorten.result c.loop.invariant c.shorten.ensures

-- the last pass changed nothing
pub returns : goal.returns
returns c =
    let near = nearing_on c.args.flow.edges.now c.args.flow.turns.now c.args.end c.loop.table.far c.shorten.new.self.far c.shorten.result c.loop.invariant c.shorten.ensures in
    all_far c.args.flow.edges.now c.args.flow.turns.now c.args.end c.shorten.new.self.far near (λ x low. c.shorten.ensures.done c.loop-test.false x (omega arith) low)
