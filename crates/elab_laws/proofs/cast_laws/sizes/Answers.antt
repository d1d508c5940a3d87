use Rattle.elab_laws.proofs.Casting.{sizes_of_types_law, sizes_of_expressions_law}
use Rattle.elab_laws.proofs.cast_laws.sizes.Goals as goal

pub returns-clause-sizes_of_types : goal.returns-clause-sizes_of_types
returns-clause-sizes_of_types c = sizes_of_types_law

pub returns-clause-sizes_of_expressions : goal.returns-clause-sizes_of_expressions
returns-clause-sizes_of_expressions c = sizes_of_expressions_law
