-- The bodies that a state has.
use Rattle.std.specs.Prelude.{◌≡◌, ℕ, true, Some, slice_get}
use Rattle.elab_rules.specs.cpp_tree.declared.roles.Role.TheVariants.{Statement}
use Rattle.elab_rules.specs.cpp_tree.WellFormed.{fits, outermost}
use Rattle.elab_rules.specs.elab_ctx.Ctx.{Func}
use Rattle.elab_rules.specs.Statements.{State, Body}
use Rattle.setting_growth.specs.Growth.{HeldEarlier}
use Rattle.state_growth.specs.Settings.{setting_at, shown, UnitGrows}

-- it is that of a function of the unit, and fits with its frame
pub record MadeFits (st : State) (b : Body) : Type 0 where
  pub func : Func
  pub at : slice_get st.ctx.funcs b.func ≡ Some func
  pub fits : fits (setting_at (shown st.ctx.classes func) st.ctx (record st.work { frame = b.frame })) outermost Statement b.tree ≡ true

pub record AllBodiesFit (st : State) : Type 0 where
  pub each : (i : ℕ) (b : Body) → slice_get st.bodies i ≡ Some b → MadeFits st b

-- Laws

-- they fit still where the unit has grown
abbrev pub BodiesStay : Type 0
BodiesStay = (a b : State) → HeldEarlier a.ctx.classes → UnitGrows a b → b.bodies ≡ a.bodies → AllBodiesFit a → AllBodiesFit b
