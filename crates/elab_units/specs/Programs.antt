-- What `elaborate` says: the program of the units, or their fault, is that of elab_rules (`Programs`).
use Rattle.std.specs.Prelude.{◌≡◌, ℕ, List, length, map, Result, Ok, Err}
use Rattle.cpp_ast.specs.declared.units.Unit.{Unit as UnitRecord}
use Rattle.elab_entry.specs.cpp_types.Class.{classes_of}
use Rattle.elab_entry.specs.cpp_tree.declared.faults.ElabFault.{ElabFault}
use Rattle.elab_entry.specs.cpp_tree.declared.program.Program.{Program}
use Rattle.elab_entry.specs.cpp_tree.Units.{TypedProgram, unit_of, slot_of, program_of as typed_program}
use Rattle.elab_entry.specs.elab_ctx.Says.{Faults}
use Rattle.elab_entry.specs.elab_rules.Statements.{State}
use Rattle.elab_entry.specs.elab_rules.Programs.{Source, unit_shown, program_of}
use Rattle.elab_leaving.specs.Programs.{unit_from}
use Rattle.elab_units.specs.declared.known.Classes.{Classes}
use Rattle.elab_units.specs.declared.programs.Behind.{Behind}
use Rattle.elab_units.specs.Begun.{begun_behind, traits_known}
use Rattle.elab_units.specs.Outcomes.{UnlessMemory}
use Rattle.elab_units.specs.Sources.{IsSource, AreFirst}

-- What is answered

-- the program is that of the units
pub record IsProgram (us : List UnitRecord) (p : TypedProgram) : Type 0 where
  pub sources : List Source
  pub all : length sources ≡ length us
  pub are : AreFirst us sources
  pub is : program_of sources ≡ Ok p

-- the fault is that of the first units, up to the one that has it
pub record IsFault (us : List UnitRecord) (e : ElabFault) : Type 0 where
  pub sources : List Source
  pub are : AreFirst us sources
  pub is : Faults e (program_of sources)

abbrev pub Elaborates : List UnitRecord → Result Program ElabFault → Type 0
Elaborates us (Ok p) = IsProgram us (typed_program p)
Elaborates us (Err e) = UnlessMemory e (IsFault us e)

-- A unit behind others

-- its typed form, and the classes behind it
pub record IsKept (x : Source) (st : State) (b : Behind) : Type 0 where
  pub unit : unit_of b.unit ≡ unit_shown x.tokens x.decls st
  pub classes : classes_of b.known.classes.items ≡ st.ctx.classes
  pub slots : map (λ slots. map slot_of slots.items) b.known.slots.items ≡ st.ctx.slots
  pub traits : traits_known b.known ≡ st.ctx.traits

-- it is what its source says, as the code makes it
pub record IsUnit (u : UnitRecord) (i : ℕ) (k : Classes) (b : Behind) : Type 0 where
  pub source : Source
  pub shows : IsSource u source
  pub state : State
  pub made : unit_from source.tokens (begun_behind i k) source.decls ≡ Ok state
  pub kept : IsKept source state b

-- its source has the fault
pub record IsFaulty (u : UnitRecord) (i : ℕ) (k : Classes) (e : ElabFault) : Type 0 where
  pub source : Source
  pub shows : IsSource u source
  pub is : Faults e (unit_from source.tokens (begun_behind i k) source.decls)

abbrev pub Keeps : UnitRecord → ℕ → Classes → Result Behind ElabFault → Type 0
Keeps u i k (Ok b) = IsUnit u i k b
Keeps u i k (Err e) = UnlessMemory e (IsFaulty u i k e)
