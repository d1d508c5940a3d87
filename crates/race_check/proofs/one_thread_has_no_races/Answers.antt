use Rattle.race_check.proofs.OneList.{no_races}
use Rattle.race_check.proofs.one_thread_has_no_races.Goals as goal

pub returns : goal.returns
returns c = no_races
