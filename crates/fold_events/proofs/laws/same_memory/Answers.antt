use Rattle.std.proofs.Common.{◌∙◌, ap, true, None, []}
use Rattle.cpp_tree.specs.Units.{program_of}
use Rattle.src_mean.specs.Linked.{Program}
use Rattle.src_mean.specs.Links.{first_cells, linked}
use Rattle.tree_fold.specs.Programs.{folded_program}
use Rattle.fold_events.proofs.Linking.{linked_kept}
use Rattle.fold_events.proofs.Bound.{cells_are_kept, size_is_kept, bound_cells}
use Rattle.fold_events.proofs.laws.same_memory.Goals as goal

pub returns-clause-cells : goal.returns-clause-cells
returns-clause-cells c = λ p l well.
    ap (λ (z : Program). first_cells (folded_program (program_of p)) z) (linked_kept p well l.safe l.symbol l.main)
    ∙ cells_are_kept (program_of p) (linked l.safe l.symbol l.main (program_of p))

pub returns-clause-size : goal.returns-clause-size
returns-clause-size c = λ p. size_is_kept (program_of p) (linked (λ u n. true) (λ s. None) [] (program_of p))

pub returns-clause-bound : goal.returns-clause-bound
returns-clause-bound c = λ g h well same choices. bound_cells g h well same choices
