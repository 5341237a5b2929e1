use Rattle.price.proofs.Orders.{follows}
use Rattle.price.proofs.tariffs.laws_suffice.Goals as goal

pub returns : goal.returns
returns g c = follows (g.met.T.Tariff.laws c.args.tariff.now)
