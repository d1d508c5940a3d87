use Rattle.elab_fits.proofs.Throwing.{conditional_stands}
use Rattle.elab_fits.proofs.Comma.{comma_stands}
use Rattle.elab_fits.proofs.laws.choices.Goals as goal

pub returns-clause-conditionals : goal.returns-clause-conditionals
returns-clause-conditionals c = conditional_stands

pub returns-clause-commas : goal.returns-clause-commas
returns-clause-commas c = comma_stands
