use Rattle.std.proofs.Common.{pos, sym, subst}
use Rattle.certificate.specs.TreeJudged.{TreeJudged}
use Rattle.certificate.specs.Tasks.{task_of}
use Rattle.certificate.proofs.Meanings.{judged}
use Rattle.certificate.proofs.AcceptedProves.{price_sound}
use Rattle.certificate.proofs.proving.prove_price.Goals as goal

pub returns : goal.returns
returns g c =
    let le = g.T.Tariff.le c.args.tariff.now in
    let unit = g.T.Tariff.unit c.args.tariff.now in
    let task = task_of c.args.task.now in
    let claimed = c.args.claimed in
    let xs = c.args.tree.now in
    let means = subst (TreeJudged le unit task c.args.sense claimed (pos 1000) xs) (sym c.judge.ensures) (judged le unit task c.args.sense claimed (pos 1000) xs) in
    record { answer = c.judge.ensures; means = means; sound = price_sound le unit task c.args.sense claimed (pos 1000) xs (g.met.T.Tariff.laws c.args.tariff.now) _ means }
