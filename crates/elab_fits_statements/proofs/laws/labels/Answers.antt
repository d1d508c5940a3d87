use Rattle.elab_fits_statements.proofs.Constants.{constants_law}
use Rattle.elab_fits_statements.proofs.Skipping.{skipped_law}
use Rattle.elab_fits_statements.proofs.laws.labels.Goals as goal

pub returns-clause-words : goal.returns-clause-words
returns-clause-words c = constants_law

pub returns-clause-skipped : goal.returns-clause-skipped
returns-clause-skipped c = skipped_law
