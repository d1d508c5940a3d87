use Rattle.std.proofs.Common.{refl}
use Rattle.link_tables.proofs.FoundRows.{each_of_all, known_at, kept_func_rows, kept_class_rows_are, found_global_rows, all_homes}
use Rattle.link_tables.proofs.ByPlace.{globals_are_defs}
use Rattle.link_tables.proofs.Told.{func_there, class_there, global_there}
use Rattle.link_tables.proofs.laws.numbers_by_name.Goals as goal

pub returns-clause-funcs : goal.returns-clause-funcs
returns-clause-funcs c = λ all os table k t at n o e l.
    let a = kept_func_rows all os (each_of_all all os k) in
    func_there all os _ _ table (record { are = refl }) a.each a.kept t at n o (record { is = e }) (known_at all os at o k e) l

pub returns-clause-classes : goal.returns-clause-classes
returns-clause-classes c = λ all os table k t at n o e l.
    let a = kept_class_rows_are all os (each_of_all all os k) in
    class_there all os _ _ table (record { are = refl }) a.each a.kept t at n o (record { is = e }) (known_at all os at o k e) l

pub returns-clause-globals : goal.returns-clause-globals
returns-clause-globals c = λ all os table k t at n o e l.
    global_there all os _ _ table (record { are = refl }) (found_global_rows all os _ (all_homes all os (each_of_all all os k)))
    (globals_are_defs all 0 0 os) t at n o (record { is = e }) (known_at all os at o k e) l
