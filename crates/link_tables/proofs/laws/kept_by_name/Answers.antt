use Rattle.link_tables.proofs.FoundRows.{each_of_all, kept_func_rows, kept_class_rows_are}
use Rattle.link_tables.proofs.ByPlace.{globals_are_defs}
use Rattle.link_tables.proofs.laws.kept_by_name.Goals as goal

pub returns-clause-funcs : goal.returns-clause-funcs
returns-clause-funcs c = λ all os k. (kept_func_rows all os (each_of_all all os k)).kept

pub returns-clause-classes : goal.returns-clause-classes
returns-clause-classes c = λ all os k. (kept_class_rows_are all os (each_of_all all os k)).kept

pub returns-clause-globals : goal.returns-clause-globals
returns-clause-globals c = λ all os. globals_are_defs all 0 0 os
