use Rattle.std.proofs.Common.{ltb, refl, ◌∙◌, rules, tests}
use Rattle.std.proofs.lemmas.Iterator.{YieldsList-from_slice}
use Rattle.std.proofs.lemmas.Iterator.Search.{position_from_yields_List}
use Rattle.task.specs.TurnsAnswer.{over}
use Rattle.task.proofs.Lowest.{position_first}
use Rattle.task.proofs.tasks.Flow.first_over.Goals as goal

pub returns : goal.returns
returns c =
    let ts = c.args.self.turns.now in
    position_from_yields_List (λ t. ltb 1048575 t) _ _ _ c.position.ensures.ran (YieldsList-from_slice ts cc) (λ x b q k. search (rules, tests))
    ∙ position_first (λ t. ltb 1048575 t) (over ts) ts 0 (λ i low. refl)
