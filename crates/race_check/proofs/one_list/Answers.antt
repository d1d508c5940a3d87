use Rattle.race_check.proofs.OneList as lists
use Rattle.race_check.proofs.one_list.Goals as goal

pub returns : goal.returns
returns c = lists.one_list
