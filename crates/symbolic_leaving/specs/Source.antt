-- What a function of a bound program shows.
use Rattle.std.specs.Prelude.{ℕ}
use Rattle.cpp_tree.specs.cpp_types.Typ.{Typ}
use Rattle.cpp_tree.specs.declared.program.Program.{Program}
use Rattle.src_mean.specs.Linked.{Func}
use Rattle.src_mean.specs.Linked as linked
use Rattle.src_bind.specs.Bounds.{given}
use Rattle.src_bind.specs.Infos.{info_of}
use Rattle.src_frames.specs.Bounds.{linked_in}
use Rattle.symbolic_terms.specs.Words.{type_in}
use Rattle.symbolic_leaving.specs.declared.source.Source.{Source}

-- the linked program
abbrev pub linked_to : Source → linked.Program
linked_to s = linked_in s.bound.now

-- its units
abbrev pub units_of : Source → Program
units_of s = (given s.bound.now).program

-- the types that numbers of types mean
abbrev pub types_at : Source → ℕ → Typ
types_at s = type_in s.types.now

-- the function
unfoldable pub func_of : Source → Func
func_of s = info_of (units_of s) s.info.now
