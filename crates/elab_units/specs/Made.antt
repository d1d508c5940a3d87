-- What a unit has made, and its functions with their bodies.
use Rattle.std.specs.Prelude.{ℕ, suc, List, [], ◌∷◌, map, Option, Some, None, is_some, if◌then◌else◌}
use Rattle.elab_entry.specs.cpp_types.Typ.{Typ, typ, class}
use Rattle.elab_entry.specs.cpp_types.Class.{Class}
use Rattle.elab_entry.specs.cpp_tree.Units.{Func as TypedFunc, Definition, global_of}
use Rattle.elab_entry.specs.elab_ctx.Ctx.{func_of}
use Rattle.elab_entry.specs.elab_ctx.Types.{named_of}
use Rattle.elab_entry.specs.elab_rules.Statements.{State, Body}
use Rattle.elab_entry.specs.elab_rules.Programs.{body_of}
use Rattle.elab_entry.specs.elab_scopes.States.{body_of as body_shown}
use Rattle.elab_units.specs.declared.shown.Made.{Made}

-- a function gets a body, unless it has one
abbrev pub with_body : TypedFunc → Option Body → TypedFunc
with_body f (Some b) = if is_some f.body then f else record f { body = Some b.tree; frame = b.frame }
with_body f None = f

-- each function gets the first body that is its own
abbrev pub with_bodies : ℕ → List TypedFunc → List Body → List TypedFunc
with_bodies i [] bs = []
with_bodies i (f ∷ fs) bs = with_body f (body_of i bs) ∷ with_bodies (suc i) fs bs

-- a state in which this was made, and these are the classes
abbrev pub state_with : State → Made → List Class → State
state_with st m classes = record {
  ctx = record st.ctx { types = map named_of m.types; classes = classes; funcs = map func_of m.funcs };
  work = record st.work { globals = map global_of m.globals.items };
  bodies = map body_shown m.bodies.items;
}

-- The class that a name stands for, and its definition

abbrev pub class_of_typ : Typ → Option ℕ
class_of_typ (typ (class n) c v) = Some n
class_of_typ t = None

abbrev pub class_called : Option Typ → Option ℕ
class_called (Some t) = class_of_typ t
class_called None = None

abbrev pub definition_by : Option ℕ → List ℕ → List Definition
definition_by (Some n) text = record { class = n; text = text } ∷ []
definition_by None text = []
