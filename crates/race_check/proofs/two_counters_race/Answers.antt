use Rattle.race_check.proofs.Closed.{counters_races}
use Rattle.race_check.proofs.two_counters_race.Goals as goal

pub returns : goal.returns
returns c = counters_races
