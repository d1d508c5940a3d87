use Rattle.elab_laws.proofs.Casting.{static_casts_law, casts_law, functional_casts_law}
use Rattle.elab_laws.proofs.cast_laws.casts.Goals as goal

pub returns-clause-static_casts : goal.returns-clause-static_casts
returns-clause-static_casts c = static_casts_law

pub returns-clause-casts : goal.returns-clause-casts
returns-clause-casts c = casts_law

pub returns-clause-functional_casts : goal.returns-clause-functional_casts
returns-clause-functional_casts c = functional_casts_law
