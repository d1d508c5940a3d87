-- The setting of a body while it is made: what the context and the work have, shown as the unit's.
use Rattle.std.specs.Prelude.{◌≡◌, ℕ, List, map, length, take, slice_get, Some, None}
use Rattle.elab_rules.specs.cpp_types.Typ.{Typ}
use Rattle.elab_rules.specs.cpp_types.Class.{Class, InOrder}
use Rattle.elab_rules.specs.cpp_types.declared.classes.At.{At}
use Rattle.elab_rules.specs.cpp_tree.Trees.{Tree}
use Rattle.elab_rules.specs.cpp_tree.Units.{Func as UnitFunc}
use Rattle.elab_rules.specs.cpp_tree.Rows.{Setting}
use Rattle.elab_rules.specs.elab_ctx.Ctx.{Ctx, Work, Func}
use Rattle.elab_rules.specs.Functions.{body_made}
use Rattle.elab_rules.specs.Statements.{State}
use Rattle.elab_rules.specs.Programs.{typed_func, typed_funcs}
use Rattle.elab_fits.specs.Standing.{IsSetting, Reaches, On}
use Rattle.elab_growth.specs.Growth.{Follows}
use Rattle.setting_growth.specs.Growth.{ClassesGrow, SlotsGrow, GlobalsGrow, Grows}

-- Settings

-- a function of the context as the unit shows it, without its body
abbrev pub shown : List Class → Func → UnitFunc
shown classes f = typed_func classes f None

-- the setting of a body of this function, in a context, with the items of the frame and the globals so far
abbrev pub setting_at : UnitFunc → Ctx → Work → Setting
setting_at f c w = record {
  classes = c.classes;
  slots = c.slots;
  funcs = map (shown c.classes) c.funcs;
  globals = w.globals;
  function = record f { frame = w.frame };
}

-- that of a function of the unit that is shown behind the last declaration
abbrev pub shown_setting : State → UnitFunc → Setting
shown_setting st f = record {
  classes = st.ctx.classes;
  slots = st.ctx.slots;
  funcs = typed_funcs st 0 st.ctx.funcs;
  globals = st.work.globals;
  function = f;
}

-- What stands in a state stands in a later one

-- a function as trees see it
pub record SameDeclared (f g : Func) : Type 0 where
  pub declared : g.declared ≡ f.declared
  pub kind : g.kind ≡ f.kind
  pub class : g.class ≡ f.class

pub record HasDeclared (funcs : List Func) (i : ℕ) (f : Func) : Type 0 where
  pub func : Func
  pub at : slice_get funcs i ≡ Some func
  pub same : SameDeclared f func

pub record DeclaredGrow (old new : List Func) : Type 0 where
  pub kept : (i : ℕ) (f : Func) → slice_get old i ≡ Some f → HasDeclared new i f

-- of the unit
pub record UnitGrows (old new : State) : Type 0 where
  pub classes : ClassesGrow old.ctx.classes new.ctx.classes
  pub slots : SlotsGrow old.ctx.slots new.ctx.slots
  pub funcs : DeclaredGrow old.ctx.funcs new.ctx.funcs
  pub globals : GlobalsGrow old.work.globals new.work.globals

-- of the unit and the frame of the function at hand
pub record StateGrows (old new : State) : Type 0 where
  pub unit : UnitGrows old new
  pub frame : (i : ℕ) (t : Typ) → slice_get old.work.frame i ≡ Some t → slice_get new.work.frame i ≡ Some t

-- Laws

abbrev pub SettingsStand : Type 0
SettingsStand = (f : UnitFunc) (c : Ctx) (w : Work) → InOrder c.classes → IsSetting (setting_at f c w) c

abbrev pub WorksReached : Type 0
WorksReached = (f : UnitFunc) (c : Ctx) (w : Work) → Reaches (setting_at f c w) w

-- behind an expression
abbrev pub WorksGrow : Type 0
WorksGrow = (f : UnitFunc) (c : Ctx) (w v : Work) → Follows w v → Grows (setting_at f c w) (setting_at f c v)

-- behind a statement of a function, whatever is known of the function by then
abbrev pub SettingsGrow : Type 0
SettingsGrow = (f g : UnitFunc) (old new : State) → g.kind ≡ f.kind → g.declared.signature ≡ f.declared.signature → StateGrows old new
    → Grows (setting_at f old.ctx old.work) (setting_at g new.ctx new.work)

-- behind a function, whose frame is kept with its body
abbrev pub LeftGrow : Type 0
LeftGrow = (f g : UnitFunc) (old new : State) → g.kind ≡ f.kind → g.declared.signature ≡ f.declared.signature → UnitGrows old new
    → Grows (setting_at f old.ctx old.work) (setting_at g new.ctx (record new.work { frame = old.work.frame }))

-- and where the unit is shown, its functions with their bodies
abbrev pub ShownGrow : Type 0
ShownGrow = (f : UnitFunc) (st : State) → Grows (setting_at f st.ctx (record st.work { frame = f.frame })) (shown_setting st f)

-- where the lists begin with those of before
abbrev pub BegunGrow : Type 0
BegunGrow = (old new : State) → take (length old.ctx.classes) new.ctx.classes ≡ old.ctx.classes
    → take (length old.ctx.slots) new.ctx.slots ≡ old.ctx.slots → take (length old.ctx.funcs) new.ctx.funcs ≡ old.ctx.funcs
    → take (length old.work.globals) new.work.globals ≡ old.work.globals → UnitGrows old new

abbrev pub StatesGoOn : Type 0
StatesGoOn = (a b c : State) → StateGrows a b → StateGrows b c → StateGrows a c

abbrev pub UnitsGoOn : Type 0
UnitsGoOn = (a b c : State) → UnitGrows a b → UnitGrows b c → UnitGrows a c

-- what stands at the end of a body stands behind the function
abbrev pub BodiesLeft : Type 0
BodiesLeft = (before end : State) (at : At) (place : ℕ) (body : Tree) → On (UnitGrows end) (body_made before at place body end)
