use Rattle.std.proofs.Common.{Ok, Err, Result, sym, ap, ◌∙◌}
use Rattle.std.proofs.lemmas.Result.{err_from_is_err_and}
use Rattle.certificate.specs.Tasks.{Answer, Task}
use Rattle.certificate.specs.Verdicts.{void_answer}
use Rattle.judge.specs.Drafting.{then_ask}
use Rattle.judge.specs.declared.refusals.Refusal.{Refusal}
use Rattle.judge.specs.declared.refusals.Refusal.TheVariants.{Tree}
use Rattle.judge.proofs.case.Case.judge_void.Goals as goal

abbrev refused_by_tree : Answer → Result (Unit {0}) Refusal
refused_by_tree a = then_ask Tree a (λ _. Ok tt)

pub returns-in_err-prove_void : goal.returns-in_err-prove_void
returns-in_err-prove_void g c =
    let p = err_from_is_err_and c.from_residual.result c.from_residual.ensures.1 in
    p.1 ∙ ap Err p.2 ∙ ap refused_by_tree (sym c.in_err-prove_void.was ∙ c.prove_void.ensures.answer)
    ∙ ap (λ (task : Task). refused_by_tree (void_answer (g.T.Tariff.le c.args.tariff.now) (g.T.Tariff.unit c.args.tariff.now) task c.args.tree.now)) c.task.ensures.value

pub returns : goal.returns
returns g c =
    ap refused_by_tree (sym c.in_ok-prove_void.was ∙ c.prove_void.ensures.answer)
    ∙ ap (λ (task : Task). refused_by_tree (void_answer (g.T.Tariff.le c.args.tariff.now) (g.T.Tariff.unit c.args.tariff.now) task c.args.tree.now)) c.task.ensures.value
