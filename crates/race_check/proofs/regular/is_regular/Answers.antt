use Rattle.race_check.proofs.RegularSteps.{all_regular}
use Rattle.race_check.proofs.regular.is_regular.Goals as goal

pub returns-clause-yes : goal.returns-clause-yes
returns-clause-yes c h = all_regular c.args.items.now c.items.i c.items-test.false c.items.invariant
