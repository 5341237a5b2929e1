use Rattle.trials.proofs.Cases.{all_stand}
use Rattle.trials.proofs.NoRun.{no_run}
use Rattle.trials.proofs.laws.worked_cases_stand.Goals as goal

pub returns : goal.returns
returns c = record { cases = all_stand; no_run = no_run }
