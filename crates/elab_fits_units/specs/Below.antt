-- What crates beside this one prove of the states of elaboration.
use Rattle.std.specs.Prelude.{◌≡◌, ℕ, true, List, Ok, is_some}
use Rattle.elab_rules.specs.cpp_types.Class.{Class}
use Rattle.elab_rules.specs.cpp_types.Typ.{Typ}
use Rattle.elab_rules.specs.cpp_tree.Parts.{size_in}
use Rattle.elab_rules.specs.cpp_tree.Rows.{Setting}
use Rattle.elab_fits_objects.specs.Contexts.{IsObjectTyp}
use Rattle.elab_fits_forms.specs.Context.{Holds}
use Rattle.elab_fits_forms.specs.Types.{is_lambda}
use Rattle.elab_sound_types.specs.Contexts.{HasSoundTypes}
use Rattle.elab_sound_types.specs.States.{TypesStay}
use Rattle.elab_fits_bodies.specs.Built.{PartsBuild}
use Rattle.elab_fits_bodies.specs.Copied.{PartsCopied, SourcesStand}
use Rattle.elab_rules.specs.cpp_lex.Tokens.{Lexeme}
use Rattle.elab_rules.specs.cpp_ast.Trees as syntax
use Rattle.elab_rules.specs.cpp_tree.Units.{Func as UnitFunc}
use Rattle.elab_rules.specs.elab_ctx.Ctx.{Ctx, Work}
use Rattle.elab_rules.specs.cpp_types.declared.classes.At.{At}
use Rattle.elab_rules.specs.elab_ctx.Steps.{Made, TypedAll}
use Rattle.elab_rules.specs.Expressions.{operands_of}
use Rattle.elab_rules.specs.Objects.{destroys}
use Rattle.elab_sound_units.specs.Steps.{PartsKeepSound, CopiesKeepSound}
use Rattle.elab_rules.specs.Members.{as_base_of}
use Rattle.elab_rules.specs.Statements.{State, statements_of, all_lambdas, directly_initialised, with_work}
use Rattle.elab_rules.specs.Lambdas.{lambdas_of}
use Rattle.elab_fits.specs.Standing.{On}
use Rattle.elab_contexts.specs.Holding.{UnitHolds}
use Rattle.elab_contexts.specs.Overriders.{HasOverriders}
use Rattle.elab_holds.specs.Locals.{FunctionsEntered, ParametersPlaced, LocalsStay, LocalsHold}
use Rattle.elab_sound_types.specs.Types.{Use, is_sound, object}
use Rattle.elab_fits_forms.specs.Types as forms
use Rattle.elab_fits_braces.specs.Defaults.{DefaultsStay}
use Rattle.elab_fits_braces.specs.Strings.{StringsBuild}
use Rattle.elab_fits_defaults.specs.Kept.{DefaultsMade}
use Rattle.elab_fits_defaults.specs.Own.{OwnDefaultsBuild}
use Rattle.elab_movable.specs.Movable.{KeepsThis}
use Rattle.elab_fits_bodies.specs.Functions.{FunctionsFit}
use Rattle.elab_fits_bodies.specs.Parts.{ConstructorsFit, DestructorsFit}
use Rattle.elab_fits_statements.specs.Discipline.{Discipline, BuildsAll}
use Rattle.elab_fits_states.specs.States.{AreTexts, IsSettled, IsVariableType, words}
use Rattle.state_growth.specs.Settings.{setting_at}
use Rattle.elab_fits_states.specs.Bodies.{BodyFits, StandsAlone}
use Rattle.elab_fits_parts.specs.Parts.{IsHome, ArePartsOf}
use Rattle.elab_fits_units.specs.Steps.{NoCall}

pub record Below (s : List Lexeme) : Type 0 where
  pub contexts : (f : UnitFunc) (c : Ctx) (w : Work) → UnitHolds c → HasOverriders c.funcs → HasSoundTypes c w → LocalsHold c w → Holds (setting_at f c w) c w
  -- into a function whose class, if it has one, is complete; and its parameters
  pub enters : FunctionsEntered
  pub parameters : ParametersPlaced
  -- types are such as expressions ask
  pub sound_is : (classes : List Class) (way : Use) (t : Typ) → is_sound classes way t ≡ true → forms.is_sound classes t ≡ true
  pub parts : (c : Ctx) (w : Work) (n : ℕ) → UnitHolds c → HasSoundTypes c w → ((f : UnitFunc) → Holds (setting_at f c w) c w) → IsHome c.classes n
      → ArePartsOf c n
  -- a sound object type is one of which objects can be made
  pub objects : (s : Setting) (c : Ctx) (w : Work) (t : Typ) → UnitHolds c → HasSoundTypes c w → Holds s c w → is_sound c.classes object t ≡ true
      → is_some (size_in c.classes t) ≡ true → IsObjectTyp c (is_lambda c.classes) t
  -- what parenthesised values build as the base of an object, which may be abstract
  pub bases : (f : UnitFunc) (a x : State) (n : ℕ) (t : Typ) (p q : At) (es : syntax.Trees) (xs : TypedAll) (m : Made) → NoCall f.kind → IsSettled f a → IsVariableType a t
      → AreTexts s es → all_lambdas lambdas_of s a es ≡ Ok x → operands_of s x.ctx x.work es ≡ Ok xs
      → directly_initialised (as_base_of x.ctx n) xs.work t p xs.operands ≡ Ok m → BuildsAll (words f s) a (with_work x m.work) t m.tree (destroys x.ctx q t)
  pub types : TypesStay
  -- initialisers of members where the unit has grown
  pub defaults : DefaultsStay
  -- the own initialiser of a member builds it, and is such an initialiser where it is made
  pub own : OwnDefaultsBuild
  pub moves : KeepsThis lambdas_of
  pub made : DefaultsMade
  pub strings : StringsBuild
  -- what builds parts, and behind it the state is sound
  pub builds : PartsBuild
  pub built : PartsKeepSound
  pub copies : PartsCopied
  pub copied : CopiesKeepSound
  pub sources : SourcesStand
  -- where items stay in the frame
  pub stays : LocalsStay
  -- trees of bodies
  pub functions : FunctionsFit
  pub constructors : ConstructorsFit
  pub destructors : DestructorsFit
  -- the states of a function
  pub discipline : (f : UnitFunc) → NoCall f.kind → Discipline (words f s) lambdas_of s
  pub bodies : (f : UnitFunc) (st : State) (ts : syntax.Trees) → NoCall f.kind → IsSettled f st → StandsAlone st → AreTexts s ts
      → On (BodyFits f st) (statements_of lambdas_of s st ts)
