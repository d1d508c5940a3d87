use Rattle.race_check.proofs.OneList.{stays_inside}
use Rattle.race_check.proofs.chains_stay_inside.Goals as goal

pub returns : goal.returns
returns c = stays_inside
