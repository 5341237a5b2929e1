use Rattle.std.proofs.Common.{◌≡◌, ℕ, ◌+◌, ◌*◌, ◌^◌, ◌<◌, ◌≤◌, min, List, length, get_or, ℤ, pos, Ok, Err, Result, ◌∙◌, subst, sym, arith, rules}
use Rattle.std.proofs.lemmas.Int.{ints}
use Rattle.price.specs.Pairs.{Pair}
use Rattle.price.specs.Ranges.{Both}
use Rattle.price.specs.declared.out_of_range.OutOfRange.{OutOfRange}
use Rattle.price.proofs.PairSums.{parts}
use Rattle.task.specs.declared.edges.Edge.{Edge}
use Rattle.task.specs.Graph.{edge_at}
use Rattle.task.specs.Pricing.{Priced, Small}
use Rattle.task.proofs.ByPlaces.{price_weighed}
use Rattle.task.proofs.EdgeSums.{edge_read, weighed, weighed_next, weighed_done}
use Rattle.task.proofs.tasks.Flow.price.Invariants.{Adding}
use Rattle.task.proofs.tasks.Flow.price.Goals as goal

module _ (weight : Edge → ℤ) (es : List Edge) (ts : List ℕ) (x sum : ℕ) (adding : Adding weight es ts x sum) where
  adding_more : (e : Edge) (cost a : ℕ) → x < min (length es) (length ts) → get_or ts x 0 ≤ 2 ^ 32 → e ≡ edge_at es x → weight e ≡ pos cost →
      a ≡ get_or ts x 0 * cost → a ≤ get_or ts x 0 * 2 ^ 16 → Adding weight es ts (x + 1) (sum + a)
  adding_more e cost a low few read is own most =
      let costs : weight (edge_at es x) ≡ pos cost = rw (← read) is in
      let more = rw costs at (weighed_next weight es ts x (omega arith)) in
      record {
        all = omega (arith, ints, more, adding.all);
        fits = omega (arith, adding.fits);
        small = λ all. omega (arith, adding.small all, all x (omega arith));
      }

  adding_all : min (length es) (length ts) ≤ x → pos sum ≡ weighed weight es ts
  adding_all high = omega (arith, ints, weighed_done weight es ts x high, adding.all)

-- a price of small parts is refused by nothing
small_price : (a : Pair) (r : Result Pair OutOfRange) → Priced a r → Both (2 ^ 42) a → Small r
small_price a (Ok p) is small = subst (Both (2 ^ 42)) (sym is.0) small
small_price a (Err e) is small = is.1 (omega (arith, ints))

pub loop-x-preserved : goal.loop-x-preserved
loop-x-preserved c =
    let read = edge_read c.args.self.edges.now c.loop-x.x c.index-self-x.result c.index-self-x.is (omega arith) in
    search (rules, adding_more, read)

pub returns-clause-price : goal.returns-clause-price
returns-clause-price c =
    let es = c.args.self.edges.now in
    let ts = c.args.self.turns.now in
    subst (λ a. Priced a c.priced.result) (parts (adding_all _ es ts _ _ c.loop-x.invariant.0 (omega arith)) (adding_all _ es ts _ _ c.loop-x.invariant.1 (omega arith)) ∙ sym (price_weighed c.args.sense es ts)) c.priced.ensures

pub returns-clause-small : goal.returns-clause-small
returns-clause-small c few all = search (rules, small_price, c.loop-x.invariant.0.small all, c.loop-x.invariant.1.small all)
