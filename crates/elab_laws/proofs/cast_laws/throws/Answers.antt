use Rattle.elab_laws.proofs.Casting.{throws_law, rethrows_law}
use Rattle.elab_laws.proofs.cast_laws.throws.Goals as goal

pub returns-clause-throws : goal.returns-clause-throws
returns-clause-throws c = throws_law

pub returns-clause-rethrows : goal.returns-clause-rethrows
returns-clause-rethrows c = rethrows_law
