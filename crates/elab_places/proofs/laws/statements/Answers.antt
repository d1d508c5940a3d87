use Rattle.elab_places.proofs.OfStatements.{items_law, statements_law, blocks_law, handlers_law}
use Rattle.elab_places.proofs.laws.statements.Goals as goal

pub returns-clause-items : goal.returns-clause-items
returns-clause-items c = items_law

pub returns-clause-statements : goal.returns-clause-statements
returns-clause-statements c = statements_law

pub returns-clause-blocks : goal.returns-clause-blocks
returns-clause-blocks c = blocks_law

pub returns-clause-handlers : goal.returns-clause-handlers
returns-clause-handlers c = handlers_law
