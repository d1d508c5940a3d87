use Rattle.setting_growth.proofs.Trees.{fits_law, zeroes_law, destructions_law, items_law}
use Rattle.setting_growth.proofs.laws.fitting.Goals as goal

pub returns-clause-trees : goal.returns-clause-trees
returns-clause-trees c = fits_law

pub returns-clause-zeros : goal.returns-clause-zeros
returns-clause-zeros c = zeroes_law

pub returns-clause-destructions : goal.returns-clause-destructions
returns-clause-destructions c = destructions_law

pub returns-clause-items : goal.returns-clause-items
returns-clause-items c = items_law
