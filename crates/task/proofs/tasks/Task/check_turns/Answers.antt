use Rattle.task.proofs.Checks.{answers, exactly}
use Rattle.task.proofs.Flows.{claims}
use Rattle.task.proofs.tasks.Task.check_turns.Goals as goal

pub returns : goal.returns
returns c =
    let task = c.args.self.now in
    let ts = c.args.turns.now in
    let says = answers task.edges.now task.rows.now task.start task.end ts c.ask_turns.result c.ask_turns.ensures in
    let exact = exactly task.edges.now task.rows.now task.start task.end ts c.ask_turns.result says in
    record { answer = c.ask_turns.ensures; means = says; exact = exact; claims = λ is ends. claims task.edges.now task.rows.now task.start task.end ts (exact.0 is) ends }
