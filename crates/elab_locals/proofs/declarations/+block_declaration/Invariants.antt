use Rattle.std.proofs.Common.{length}
use Rattle.elab_locals.proofs.declarations.+block_declaration.Given as goal

abbrev pub decreases-block_declaration : goal.decreases-block_declaration
decreases-block_declaration g l = length l.ids.now
