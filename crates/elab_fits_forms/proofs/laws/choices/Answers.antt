use Rattle.elab_fits_forms.proofs.Settled.{commas_stand}
use Rattle.elab_fits_forms.proofs.Steps.{assignments_stand}
use Rattle.elab_fits_forms.proofs.Joined.{all_choices}
use Rattle.elab_fits_forms.proofs.laws.choices.Goals as goal

pub returns-clause-commas : goal.returns-clause-commas
returns-clause-commas c = commas_stand

pub returns-clause-conditionals : goal.returns-clause-conditionals
returns-clause-conditionals c = all_choices

pub returns-clause-assignments : goal.returns-clause-assignments
returns-clause-assignments c = assignments_stand
