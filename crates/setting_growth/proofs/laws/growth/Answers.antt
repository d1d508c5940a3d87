use Rattle.setting_growth.proofs.Settings.{stays_law, goes_on_law}
use Rattle.setting_growth.proofs.Trees.{order_law}
use Rattle.setting_growth.proofs.laws.growth.Goals as goal

pub returns-clause-stays : goal.returns-clause-stays
returns-clause-stays c = stays_law

pub returns-clause-goes_on : goal.returns-clause-goes_on
returns-clause-goes_on c = goes_on_law

pub returns-clause-order : goal.returns-clause-order
returns-clause-order c = order_law
