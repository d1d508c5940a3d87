use Rattle.tree_fold.proofs.Nothing.{folded_is_folded, program_is_folded}
use Rattle.tree_fold.proofs.laws.nothing_left.Goals as goal

pub returns-clause-tree : goal.returns-clause-tree
returns-clause-tree c = λ volatile tree. folded_is_folded volatile tree

pub returns-clause-program : goal.returns-clause-program
returns-clause-program c = λ p. program_is_folded p
