use Rattle.std.proofs.Common.{◌≡◌, length, ap, ◌∙◌, arith}
use Rattle.certificate.specs.Tasks.{task_of}
use Rattle.judge.specs.Claiming.{claim_on}
use Rattle.judge.proofs.Accepts.{few_if_passed}
use Rattle.judge.proofs.case.Case.judge_turns.Goals as goal

pub returns-clause-few : goal.returns-clause-few
returns-clause-few g c =
    let le = g.T.Tariff.le c.args.tariff.now in
    let unit = g.T.Tariff.unit c.args.tariff.now in
    let case = c.args.self.now in
    let ts = c.args.turns.now in
    let xs = c.args.tree.now in
    let judged : c.judge_claim.result ≡ claim_on c.args.sense le unit (task_of c.task.result) ts xs = c.judge_claim.ensures in
    few_if_passed c.args.sense le unit case.edges case.rows c.args.start c.args.end ts xs c.judge_claim.result
    (omega (arith, c.task.ensures.few, ap (λ task. length task.edges) c.task.ensures.value)) (judged ∙ ap (λ task. claim_on c.args.sense le unit task ts xs) c.task.ensures.value)
