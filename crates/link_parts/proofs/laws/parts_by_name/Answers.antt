use Rattle.link_parts.proofs.RowParts.{funcs_are, classes_are, cells_are, main_is}
use Rattle.link_parts.proofs.laws.parts_by_name.Goals as goal

pub returns-clause-funcs : goal.returns-clause-funcs
returns-clause-funcs c = λ all os types x h t. funcs_are all os types x h t

pub returns-clause-classes : goal.returns-clause-classes
returns-clause-classes c = λ all os types x h t. classes_are all os types x h t

pub returns-clause-cells : goal.returns-clause-cells
returns-clause-cells c = λ all os types x h t. cells_are all os types x h t

pub returns-clause-main : goal.returns-clause-main
returns-clause-main c = λ all os h. main_is all os h
