use Rattle.std.proofs.Common.{◌==◌, ◌||◌, refl, ◌∙◌, rules, tests}
use Rattle.std.specs.List.{list_any}
use Rattle.std.proofs.lemmas.Iterator.{YieldsList-from_slice}
use Rattle.std.proofs.lemmas.Iterator.Search.{any_from_yields_List}
use Rattle.std.proofs.lemmas.List.Recursion.{same_from_clauses}
use Rattle.task.specs.Sides.{end_at, touched}
use Rattle.task.proofs.sealing.touches.Goals as goal

pub returns : goal.returns
returns c =
    any_from_yields_List (λ e. end_at c.args.side e == c.args.node) _ _ _ c.any.ensures.ran (YieldsList-from_slice c.args.edges.now cc) (λ x b q k. search (rules, tests))
    ∙ same_from_clauses (list_any (λ e. end_at c.args.side e == c.args.node)) (touched c.args.side c.args.node) (λ e b. end_at c.args.side e == c.args.node || b) refl (λ e es. refl) (λ e es. refl) c.args.edges.now
