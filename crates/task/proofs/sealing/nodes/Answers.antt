use Rattle.std.proofs.Common.{◌≡◌, ℕ, ◌+◌, ◌∙◌, max, List, [], ◌∷◌, map, Option, sym, rules, tests, arith}
use Rattle.std.specs.List.{fold, reduce}
use Rattle.std.specs.Option.{MatchOption}
use Rattle.std.proofs.lemmas.Iterator.Adapters.{option_map_id}
use Rattle.std.proofs.lemmas.Iterator.{YieldsList-from_slice, YieldsList-from_map}
use Rattle.std.proofs.lemmas.Iterator.Consumers.{YieldsList-at, max_from_yields_List}
use Rattle.task.specs.declared.edges.Edge.{Edge}
use Rattle.task.specs.Sides.{node_count}
use Rattle.task.proofs.sealing.nodes.Goals as goal

fold_highest : (es : List Edge) (n : ℕ) → fold max n (map (λ e. max e.tail e.head) es) + 1 ≡ max (n + 1) (node_count es)
fold_highest [] n = omega arith
fold_highest (e ∷ es) n = omega (arith, fold_highest es (max n (max e.tail e.head)))

one_past_highest : (es : List Edge) → (o : Option ℕ) → o ≡ reduce max (map (λ e. max e.tail e.head) es) → (n : ℕ) →
    MatchOption o (n ≡ 0) (λ highest. n ≡ highest + 1) → n ≡ node_count es
one_past_highest [] o is n so = rw is at so
one_past_highest (e ∷ es) o is n so =
    let top : n ≡ fold max (max e.tail e.head) (map (λ e. max e.tail e.head) es) + 1 = rw is at so in
    omega (arith, top, fold_highest es (max e.tail e.head))

pub returns-clause-count : goal.returns-clause-count
returns-clause-count c =
    let so : MatchOption c.max.result (c.map_or.result ≡ 0) (λ highest. c.map_or.result ≡ highest + 1) = search (rules, tests) in
    one_past_highest c.args.edges.now c.max.result
    (sym (option_map_id c.max.result) ∙ max_from_yields_List _ _ c.max.ensures.ran
    (YieldsList-from_map _ (λ (e : Edge). max e.tail e.head) (YieldsList-at c.map.ensures.source (YieldsList-from_slice c.args.edges.now cc)) c.map.ensures.closure (λ x r q k. search (rules, tests))))
    c.map_or.result so
