use Rattle.elab_fits_forms.proofs.Forms.{rows_mean}
use Rattle.elab_fits_forms.proofs.laws.rows.Goals as goal

pub returns : goal.returns
returns c = record { rows = rows_mean }
