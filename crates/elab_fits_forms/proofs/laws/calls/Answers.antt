use Rattle.elab_fits_forms.proofs.CallForms.{calls_stand}
use Rattle.elab_fits_forms.proofs.laws.calls.Goals as goal

pub returns : goal.returns
returns c = record { calls = calls_stand }
