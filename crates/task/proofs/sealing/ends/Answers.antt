use Rattle.task.specs.Sealing.{Sealed}
use Rattle.task.proofs.Seals.{answer_says, exactly, every_edge}
use Rattle.task.proofs.sealing.ends.Goals as goal

pub returns : goal.returns
returns c =
    let es = c.args.edges.now in
    let says : Sealed es c.find_ends.result = rw c.find_ends.ensures (answer_says es) in
    let exact = exactly es c.find_ends.result in
    record { answer = c.find_ends.ensures; means = says; exact = λ s e. exact s e says; law = λ s e ok. every_edge es s e ((exact s e says).0 ok) }
