use Rattle.walk.proofs.WalkAt.{stepped}
use Rattle.walk.proofs.stepping.next_edge.Goals as goal

pub returns-clause-stands : goal.returns-clause-stands
returns-clause-stands c = λ start claimed handed walkable tabled stands.
    stepped c.args.left.edges.now start c.args.end claimed walkable handed c.args.left.turns.now c.args.at stands c.by_table.result (c.by_table.ensures.rule claimed tabled)
