use Rattle.walk.proofs.WalkStands.{lawful_walk_stands, walk_stands}
use Rattle.walk.proofs.laws.walk_stands.Goals as goal

pub returns : goal.returns
returns c = record { lawful = lawful_walk_stands; rule = walk_stands }
