-- The initialisers of members that a context has.
use Rattle.std.specs.Prelude.{◌≡◌, ℕ, true, List, Some, is_some, slice_get}
use Rattle.elab_rules.specs.cpp_types.Class.{Member, completion_of}
use Rattle.elab_rules.specs.cpp_tree.Units.{Func}
use Rattle.elab_rules.specs.cpp_tree.Rows.{Setting}
use Rattle.elab_rules.specs.elab_ctx.Ctx.{Default}
use Rattle.elab_rules.specs.Names.{members_in}
use Rattle.setting_growth.specs.Growth.{HeldEarlier, ClassesGrow, SlotsGrow, FuncsGrow, GlobalsGrow}
use Rattle.elab_fits_braces.specs.Moving.{DefaultFits}

-- it is that of a member of a complete class, and builds objects of the member's type, whatever function is at hand
pub record IsDefault (s : Setting) (d : Default) : Type 0 where
  pub complete : is_some (completion_of s.classes d.class) ≡ true
  pub member : Member
  pub at : slice_get (members_in (slice_get s.classes d.class)) d.member ≡ Some member
  pub fits : (f : Func) → DefaultFits (record s { function = f }) member.typ d

pub record AllDefaultsFit (s : Setting) (ds : List Default) : Type 0 where
  pub each : (i : ℕ) (d : Default) → slice_get ds i ≡ Some d → IsDefault s d

-- the unit of a setting has grown, whatever function is at hand
pub record UnitGrows (old new : Setting) : Type 0 where
  pub classes : ClassesGrow old.classes new.classes
  pub slots : SlotsGrow old.slots new.slots
  pub funcs : FuncsGrow old.funcs new.funcs
  pub globals : GlobalsGrow old.globals new.globals

-- they fit still
abbrev pub DefaultsStay : Type 0
DefaultsStay = (old new : Setting) (ds : List Default) → HeldEarlier old.classes → UnitGrows old new → AllDefaultsFit old ds → AllDefaultsFit new ds
