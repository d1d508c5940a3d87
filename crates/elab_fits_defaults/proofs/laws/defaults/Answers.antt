use Rattle.elab_fits_defaults.proofs.Kept.{copies_kept, strings_kept}
use Rattle.elab_fits_defaults.proofs.Made.{defaults_made}
use Rattle.elab_fits_defaults.proofs.laws.defaults.Goals as goal

pub returns-clause-copies : goal.returns-clause-copies
returns-clause-copies c = copies_kept

pub returns-clause-strings : goal.returns-clause-strings
returns-clause-strings c = strings_kept

pub returns-clause-made : goal.returns-clause-made
returns-clause-made c = defaults_made
