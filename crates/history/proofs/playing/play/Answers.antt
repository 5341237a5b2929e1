use Rattle.std.proofs.Common.{[], length, take, vec_items, sym, ap, subst, arith, take_all}
use Rattle.history.specs.declared.calls.Call.TheVariants.{Edge}
use Rattle.history.specs.History.{history}
use Rattle.history.specs.Reaching.{Reached, start}
use Rattle.history.proofs.RulesKept.{kept}
use Rattle.history.proofs.Plays.{history_step}
use Rattle.history.proofs.playing.play.Goals as goal

pub loop-call-init : goal.loop-call-init
loop-call-init g c =
    let empty = c.in_ok-answers.ensures in (
      ap length empty.items,
      empty.capacity,
      subst (Reached (g.T.Tariff.le c.args.tariff.now) (g.T.Tariff.unit c.args.tariff.now) []) (sym c.in_ok-case.ensures) start,
    )

pub loop-call-preserved : goal.loop-call-preserved
loop-call-preserved g c =
    let le = g.T.Tariff.le c.args.tariff.now in
    let unit = g.T.Tariff.unit c.args.tariff.now in
    let calls = c.args.calls.now in
    let i = c.loop-call.call-index in
    let old = vec_items c.loop-call.answers in
    let pushed = c.push_reserved.ensures.items in (
      omega (arith, c.push_reserved.ensures.len, c.loop-call.answers.ok.0, c.push_reserved.new.self.ok.0, c.loop-call.invariant.0),
      omega (arith, c.push_reserved.ensures.capacity, c.loop-call.invariant.1),
      subst (λ l. Reached le unit l c.perform.new.case)
          (sym (history_step calls old (vec_items c.push_reserved.new.self) i c.perform.result (Edge (record { tail = 0; head = 0; block = 0; cycles = 0; reads = 0 })) c.loop-call.invariant.0 c.loop-call-test.true pushed))
          (c.perform.ensures.rules.reached (history (take i calls) old) c.loop-call.invariant.2),
    )

pub returns : goal.returns
returns g c =
    let le = g.T.Tariff.le c.args.tariff.now in
    let unit = g.T.Tariff.unit c.args.tariff.now in
    let answers = vec_items c.loop-call.answers in
    let all : Reached le unit (history c.args.calls.now answers) c.loop-call.case =
    subst (λ l. Reached le unit (history l answers) c.loop-call.case) (take_all _ _ c.loop-call-test.false) c.loop-call.invariant.2 in
    record {
      answers = record { each = omega arith; held = c.loop-call.case; reached = all };
      rules = kept le unit (g.met.T.Tariff.laws c.args.tariff.now) all;
    }
