use Rattle.std.proofs.Common.{ℕ, not, ◌&&◌, ◌∙◌, rules, tests}
use Rattle.std.proofs.lemmas.Iterator.{YieldsList-from_slice}
use Rattle.std.proofs.lemmas.Iterator.Consumers.{YieldsList-from_enumerate}
use Rattle.std.proofs.lemmas.Iterator.Search.{position_from_yields_List}
use Rattle.task.specs.declared.edges.Edge.{Edge}
use Rattle.task.specs.declared.edges.Side.TheVariants.{Tail}
use Rattle.task.specs.Graph.{no_edge}
use Rattle.task.specs.Sides.{is_live, reaches}
use Rattle.task.proofs.Lowest.{position_numbered}
use Rattle.task.proofs.tasks.Flow.first_stranded.Goals as goal

pub returns : goal.returns
returns c =
    let es = c.args.self.edges.now in
    let ts = c.args.self.turns.now in
    let test = λ (x : ℕ) (e : Edge). is_live ts x && not (reaches es ts Tail c.args.end e.head) in
    position_from_yields_List (λ (q : ℕ × Edge). test q.0 q.1) _ _ _ c.position.ensures.ran (YieldsList-from_enumerate (YieldsList-from_slice es cc) cc)
    (λ x b q k. search (rules, tests, c.joined_to-to_end.ensures))
    ∙ position_numbered test es no_edge
