use Rattle.std.proofs.Common.{◌||◌, refl, ◌∙◌, rules, tests}
use Rattle.std.specs.List.{list_any}
use Rattle.std.proofs.lemmas.Iterator.{YieldsList-from_slice}
use Rattle.std.proofs.lemmas.Iterator.Search.{any_from_yields_List}
use Rattle.std.proofs.lemmas.List.Recursion.{same_from_clauses}
use Rattle.task.specs.Edges.{same_ends, repeated}
use Rattle.task.proofs.edges.repeats.Goals as goal

pub returns-clause-answer : goal.returns-clause-answer
returns-clause-answer c =
    any_from_yields_List (λ d. same_ends d c.args.edge.now) _ _ _ c.any.ensures.ran (YieldsList-from_slice c.args.edges.now cc) (λ x b q k. search (rules, tests))
    ∙ same_from_clauses (list_any (λ d. same_ends d c.args.edge.now)) (repeated c.args.edge.now) (λ d b. same_ends d c.args.edge.now || b) refl (λ d es. refl) (λ d es. refl) c.args.edges.now
