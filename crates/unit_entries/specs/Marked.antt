-- The marks that a value of `Uses` has.
use Rattle.unit_entries.specs.declared.uses.Uses.{Uses}
use Rattle.unit_entries.specs.Uses.{Marks}

abbrev pub marks_in : Uses → Marks
marks_in u = record { funcs = u.funcs.items; globals = u.globals.items; wanted = u.wanted.items }
