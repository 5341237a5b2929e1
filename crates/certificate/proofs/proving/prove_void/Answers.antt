use Rattle.std.proofs.Common.{◌≡◌, pos, sym, ap, ◌∙◌, subst}
use Rattle.price.specs.Pairs.{zero}
use Rattle.price.specs.declared.senses.Sense.TheVariants.{Longest}
use Rattle.certificate.specs.TreeJudged.{VoidJudged}
use Rattle.certificate.specs.Tasks.{task_of}
use Rattle.certificate.specs.Verdicts.{task_answer}
use Rattle.certificate.proofs.Meanings.{judged}
use Rattle.certificate.proofs.AcceptedProves.{void_sound}
use Rattle.certificate.proofs.proving.prove_void.Goals as goal

pub returns : goal.returns
returns g c =
    let le = g.T.Tariff.le c.args.tariff.now in
    let unit = g.T.Tariff.unit c.args.tariff.now in
    let task = task_of c.args.task.now in
    let xs = c.args.tree.now in
    let none : c.price_of.result ≡ zero = c.price_of.ensures in
    let answer = c.judge.ensures ∙ ap (λ p. task_answer le unit task Longest p (pos 0) xs) none in
    let means = subst (VoidJudged le unit task xs) (sym answer) (judged le unit task Longest zero (pos 0) xs) in
    record { answer = answer; means = means; sound = void_sound le unit task Longest zero xs (g.met.T.Tariff.laws c.args.tariff.now) _ means }
