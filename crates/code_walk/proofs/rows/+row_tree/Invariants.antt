use Rattle.std.proofs.Common.{length}
use Rattle.code_walk.proofs.rows.+row_tree.Given as goal

abbrev pub decreases-row_tree : goal.decreases-row_tree
decreases-row_tree l = length l.rows.now
