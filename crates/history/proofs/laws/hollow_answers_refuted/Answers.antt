use Rattle.history.proofs.Refutes.{hollow_answers_refuted}
use Rattle.history.proofs.laws.hollow_answers_refuted.Goals as goal

pub returns : goal.returns
returns c = hollow_answers_refuted
