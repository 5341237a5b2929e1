use Rattle.task.proofs.ByPlaces.{blocks_by_places, rows_by_places, prices_by_places, runs_exist}
use Rattle.task.proofs.laws.sums_go_by_places.Goals as goal

pub returns : goal.returns
returns c = record { blocks = blocks_by_places; rows = rows_by_places; prices = prices_by_places; runs = runs_exist }
