-- The worked cases, computed.
use Rattle.std.proofs.Common.{All, refl}
use Rattle.std.proofs.lemmas.List.Elements.{All-from_recursion}
use Rattle.task.specs.Sides.{reaches}
use Rattle.walk.specs.Rule.{distance}
use Rattle.walk.specs.Tables.{exit_table}
use Rattle.trials.specs.Playing.{IsAnswered}
use Rattle.trials.specs.Worked.{table}

pub all_stand : All IsAnswered table
unfolding reaches distance exit_table
all_stand = All-from_recursion IsAnswered table (refl, (refl, (refl, (refl, (refl, (refl, (refl, (refl, (refl, (refl, (refl, (refl, tt))))))))))))
