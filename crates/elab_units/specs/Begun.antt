-- What every unit knows.
use Rattle.std.specs.Prelude.{ℕ, List, [], map, Option, Some, None}
use Rattle.elab_entry.specs.cpp_types.Typ.{Typ, Typs, none, more, int}
use Rattle.elab_entry.specs.cpp_types.Class.{classes_of}
use Rattle.elab_entry.specs.tx_ints.declared.kinds.IntKind.TheVariants.{Long}
use Rattle.elab_entry.specs.cpp_tree.Notation.{plain}
use Rattle.elab_entry.specs.cpp_tree.Units.{TypedProgram, Unit, slot_of}
use Rattle.elab_entry.specs.elab_ctx.Ctx.{Traits, traits_of}
use Rattle.elab_entry.specs.elab_rules.Objects.{no_traits}
use Rattle.elab_entry.specs.elab_rules.Statements.{State}
use Rattle.elab_entry.specs.elab_rules.Units.{start}
use Rattle.elab_entry.specs.elab_rules.Programs.{start_behind}
use Rattle.elab_units.specs.declared.known.Classes.{Classes}

-- one type, or two
abbrev pub one_or_two : Typ → Option Typ → Typs
one_or_two t (Some u) = more t (more u none)
one_or_two t None = more t none

abbrev pub long_typ : Typ
long_typ = plain (int Long)

-- the program so far, with these units
abbrev pub program_with : List Unit → Classes → TypedProgram
program_with units k = record { units = units; classes = classes_of k.classes.items; slots = map (λ slots. map slot_of slots.items) k.slots.items }

abbrev pub traits_known : Classes → List Traits
traits_known k = map traits_of k.traits.items

-- the beginning of a unit with these classes, of which this is known
abbrev pub begun_with : ℕ → TypedProgram → List Traits → State
begun_with source p traits = record (start source) { ctx = record (start source).ctx { classes = p.classes; slots = p.slots; traits = traits } }

-- of their special members nothing is known
abbrev pub bare : List Traits → List Traits
bare traits = map (λ (t : Traits). no_traits) traits

-- the beginning of a unit behind others
abbrev pub begun_behind : ℕ → Classes → State
begun_behind source k = start_behind source (program_with [] k) (traits_known k)
