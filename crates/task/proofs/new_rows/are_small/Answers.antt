use Rattle.std.proofs.Common.{◌&&◌, refl, ◌∙◌, rules, tests}
use Rattle.std.specs.List.{list_all}
use Rattle.std.proofs.lemmas.Iterator.{YieldsList-from_slice}
use Rattle.std.proofs.lemmas.Iterator.Search.{all_from_yields_List}
use Rattle.std.proofs.lemmas.List.Recursion.{same_from_clauses}
use Rattle.task.specs.Coefficients.{in_range, all_small}
use Rattle.task.proofs.new_rows.are_small.Goals as goal

pub returns : goal.returns
returns c =
    all_from_yields_List (in_range 1000) _ _ _ c.all.ensures.ran (YieldsList-from_slice c.args.coefficients.now cc) (λ x b q k. search (rules, tests))
    ∙ same_from_clauses (list_all (in_range 1000)) all_small (λ c b. in_range 1000 c && b) refl (λ c cs. refl) (λ c cs. refl) c.args.coefficients.now
