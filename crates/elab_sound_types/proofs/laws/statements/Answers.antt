use Rattle.elab_sound_types.proofs.Functions.{functions_law}
use Rattle.elab_sound_types.proofs.Statements.{statements_law, blocks_law}
use Rattle.elab_sound_types.proofs.laws.statements.Goals as goal

pub returns-clause-statements : goal.returns-clause-statements
returns-clause-statements c = statements_law

pub returns-clause-blocks : goal.returns-clause-blocks
returns-clause-blocks c = blocks_law

pub returns-clause-functions : goal.returns-clause-functions
returns-clause-functions c = functions_law
