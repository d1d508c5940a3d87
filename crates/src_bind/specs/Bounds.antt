-- What a bound program was made of.
use Rattle.src_bind.specs.declared.bound_program.Bound.{Bound}
use Rattle.src_bind.specs.Tables.{Given}

abbrev pub given : Bound → Given
given b = record { program = b.program.now; choices = b.choices.now }
