-- What stands behind one unit of a program stands behind all.
use Rattle.std.specs.Prelude.{◌≡◌, ℕ, List, slice_get, Some}
use Rattle.elab_rules.specs.cpp_tree.Units.{Func, Unit, TypedProgram}
use Rattle.elab_rules.specs.cpp_tree.Rows.{Setting}
use Rattle.elab_rules.specs.cpp_tree.Trees.{Tree}
use Rattle.elab_rules.specs.cpp_tree.WellFormed.{WellFormedBody}
use Rattle.elab_rules.specs.elab_ctx.Ctx.{Traits}
use Rattle.elab_rules.specs.Programs.{Source, start_behind, with_unit, unit_shown, program_from}
use Rattle.elab_rules.specs.Statements.{State}
use Rattle.elab_fits.specs.Standing.{On}
use Rattle.setting_growth.specs.Growth.{ClassesGrow, HeldEarlier, SlotsGrow, SameBody, Grows}
use Rattle.state_growth.specs.Settings.{setting_at, shown_setting, UnitGrows}
use Rattle.state_growth.specs.States.{NumbersGrow, IsTidy}

-- the setting of a function of a unit of a program
abbrev pub unit_setting : TypedProgram → Unit → Func → Setting
unit_setting p u f = record { classes = p.classes; slots = p.slots; funcs = u.funcs; globals = u.globals; function = f }

-- a program with more units behind
pub record ProgramGrows (old new : TypedProgram) : Type 0 where
  pub classes : ClassesGrow old.classes new.classes
  pub numbers : NumbersGrow old.classes new.classes
  pub slots : SlotsGrow old.slots new.slots
  pub units : (i : ℕ) (u : Unit) → slice_get old.units i ≡ Some u → slice_get new.units i ≡ Some u

-- Laws

abbrev pub ProgramsGo : Type 0
ProgramsGo = (i : ℕ) (p : TypedProgram) (traits : List Traits) (xs : List Source) → IsTidy (start_behind i p traits).ctx
    → On (ProgramGrows p) (program_from i p traits xs)

-- the setting of a function behind its unit has grown where other units stand behind that
abbrev pub ProgramsShow : Type 0
ProgramsShow = (p q : TypedProgram) (x : Source) (st : State) (f : Func) → ProgramGrows (with_unit p x st) q
    → Grows (shown_setting st f) (unit_setting q (unit_shown x.tokens x.decls st) f)

-- A body that is well-formed at its end, in the state in which its last statement leaves it, is well-formed in the whole program, where the unit shows its
-- function with the frame of that state
abbrev pub BodiesStay : Type 0
BodiesStay = (f g : Func) (end st : State) (p q : TypedProgram) (x : Source) (body : Tree) → HeldEarlier end.ctx.classes → UnitGrows end st
    → ProgramGrows (with_unit p x st) q → SameBody (record f { frame = end.work.frame }) g → WellFormedBody (setting_at f end.ctx end.work) body
    → WellFormedBody (unit_setting q (unit_shown x.tokens x.decls st) g) body
