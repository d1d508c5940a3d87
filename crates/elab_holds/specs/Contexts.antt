-- What the laws of expressions ask of a context holds of those that elaboration makes.
use Rattle.std.specs.Prelude.{◌≡◌, ℕ, Bool, List, true, false, is_some, Some, slice_get}
use Rattle.std.specs.Str.{bytes_eq}
use Rattle.elab_rules.specs.cpp_types.Class.{InOrder, completion_of}
use Rattle.elab_rules.specs.cpp_types.Trivial.{is_destructor_name}
use Rattle.elab_rules.specs.Functions.{same_kind}
use Rattle.elab_rules.specs.cpp_lex.Tokens.{Lexeme}
use Rattle.elab_rules.specs.cpp_ast.Trees as syntax
use Rattle.elab_rules.specs.cpp_tree.declared.program.FuncKind.TheVariants.{Plain}
use Rattle.elab_rules.specs.cpp_tree.Units.{Func as UnitFunc}
use Rattle.elab_rules.specs.elab_ctx.Ctx.{Ctx, Work, Func}
use Rattle.elab_fits.specs.Standing.{IsSetting}
use Rattle.elab_fits_objects.specs.Contexts.{HasMakers}
use Rattle.elab_fits_forms.specs.Context.{Holds, IsComplete, HasSlot}
use Rattle.elab_fits_forms.specs.Types.{is_lambda}
use Rattle.elab_fits_forms.specs.Expressions.{are_spelled}
use Rattle.elab_sound_types.specs.Contexts.{HasSoundTypes}
use Rattle.elab_contexts.specs.Holding.{UnitHolds, HasListedFunctions}
use Rattle.elab_contexts.specs.Overriders.{HasOverridersBy, HasOverriders}
use Rattle.elab_contexts.specs.Slots.{IsAlone}
use Rattle.elab_contexts.specs.Texts.{have_class_names}
use Rattle.state_growth.specs.Settings.{setting_at}
use Rattle.elab_holds.specs.Locals.{LocalsHold}

-- a virtual function of a complete class has its slot, and objects of the class have their pointer
abbrev pub HasSlots : Ctx → Type 0
HasSlots c = (k n : ℕ) (f : Func) → slice_get c.funcs k ≡ Some f → f.class ≡ Some n → f.kind ≡ Plain → f.declared.is_virtual ≡ true
    → is_some (completion_of c.classes n) ≡ true → HasSlot c n k f

-- Laws

abbrev pub ClassesInOrder : Type 0
ClassesInOrder = (c : Ctx) (w : Work) → UnitHolds c → HasSoundTypes c w → InOrder c.classes

abbrev pub SettingsHold : Type 0
SettingsHold = (f : UnitFunc) (c : Ctx) (w : Work) → UnitHolds c → HasSoundTypes c w → IsSetting (setting_at f c w) c

abbrev pub MakersHold : Type 0
MakersHold = (c : Ctx) (w : Work) → UnitHolds c → HasSoundTypes c w → HasMakers c (is_lambda c.classes)

abbrev pub ClassesComplete : Type 0
ClassesComplete = (c : Ctx) (w : Work) (n : ℕ) → UnitHolds c → HasSoundTypes c w → is_some (completion_of c.classes n) ≡ true → IsComplete c.classes n

-- where no other virtual function of the class overrides what a plain one overrides
abbrev pub AreAlone : List Func → Type 0
AreAlone funcs = (k n : ℕ) (f : Func) → slice_get funcs k ≡ Some f → f.class ≡ Some n → f.kind ≡ Plain → f.declared.is_virtual ≡ true → IsAlone funcs n k f

abbrev pub SlotsWhereAlone : Type 0
SlotsWhereAlone = (c : Ctx) (w : Work) → UnitHolds c → HasSoundTypes c w → AreAlone c.funcs → HasSlots c

-- the name of a virtual function does not begin with `~`, and no special member of its class has it
pub record IsApart (funcs : List Func) (n : ℕ) (f : Func) : Type 0 where
  pub plain : is_destructor_name f.declared.name ≡ false
  pub apart : (j : ℕ) (g : Func) → slice_get funcs j ≡ Some g → g.class ≡ Some n → same_kind g.kind Plain ≡ false
      → bytes_eq g.declared.name f.declared.name ≡ false

abbrev pub HasNamesApart : List Func → Type 0
HasNamesApart funcs = (k n : ℕ) (f : Func) → slice_get funcs k ≡ Some f → f.class ≡ Some n → f.kind ≡ Plain → f.declared.is_virtual ≡ true → IsApart funcs n f

abbrev pub AloneByNames : Type 0
AloneByNames = (c : Ctx) → UnitHolds c → HasNamesApart c.funcs → AreAlone c.funcs

-- and so are all where what overrides has a name that goes with its kind
abbrev pub AloneByKinds : Type 0
AloneByKinds = (classes : List ℕ → Bool) (c : Ctx) → UnitHolds c → HasOverridersBy classes c.funcs → AreAlone c.funcs

abbrev pub SlotsHold : Type 0
SlotsHold = (c : Ctx) (w : Work) → UnitHolds c → HasSoundTypes c w → HasOverriders c.funcs → HasSlots c

-- of functions with sound types, for a unit that stands behind this one
abbrev pub FunctionsListed : Type 0
FunctionsListed = (c : Ctx) (w : Work) → HasSoundTypes c w → HasListedFunctions c

abbrev pub ContextsHold : Type 0
ContextsHold = (f : UnitFunc) (c : Ctx) (w : Work) → UnitHolds c → HasSlots c → HasSoundTypes c w → LocalsHold c w → Holds (setting_at f c w) c w

-- in a text each token of which is spelled with something, classes have names
abbrev pub TextsHaveNames : Type 0
TextsHaveNames = (s : List Lexeme) (ts : syntax.Trees) → are_spelled s ts ≡ true → have_class_names s ts ≡ true
