use Rattle.walk.proofs.FewestStands.{fewest_stands}
use Rattle.walk.proofs.laws.fewest_stands.Goals as goal

pub returns : goal.returns
returns c = fewest_stands
