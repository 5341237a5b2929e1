use Rattle.history.specs.Answers.{said}
use Rattle.history.specs.Calls.{request}
use Rattle.history.proofs.RulesKept.{kept}
use Rattle.history.proofs.Plays.{goes_on}
use Rattle.history.proofs.performing.perform.Goals as goal

pub returns-clause-rules : goal.returns-clause-rules
returns-clause-rules g c =
    let le = g.T.Tariff.le c.args.tariff.now in
    let unit = g.T.Tariff.unit c.args.tariff.now in
    let did = c.dispatch.ensures in
    let before = c.args.case.now in
    let after = c.dispatch.new.case in
    let q = request c.args.call.now in
    let a = said c.dispatch.result in
    record {
      reached = λ h r. goes_on le unit h before after q a did.answer did.kept r;
      rules = λ h r. kept le unit (g.met.T.Tariff.laws c.args.tariff.now) (goes_on le unit h before after q a did.answer did.kept r);
    }
