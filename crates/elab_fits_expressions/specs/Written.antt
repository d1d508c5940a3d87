-- Types that are written in expressions and declarations are sound.
use Rattle.std.specs.Prelude.{◌≡◌, true, List, [], ◌∷◌}
use Rattle.elab_rules.specs.cpp_types.Typ.{Typ}
use Rattle.elab_rules.specs.cpp_types.Class.{Class}
use Rattle.elab_rules.specs.cpp_types.declared.classes.At.{At}
use Rattle.elab_rules.specs.cpp_lex.Tokens.{Lexeme}
use Rattle.elab_rules.specs.cpp_ast.Trees as syntax
use Rattle.elab_rules.specs.cpp_tree.Rows.{Setting}
use Rattle.elab_rules.specs.elab_ctx.Ctx.{Ctx, Work, Closure}
use Rattle.elab_rules.specs.Types.{Declared, Parameter}
use Rattle.elab_rules.specs.Expressions.{type_id_with, specifiers_with, declared_with, parameters_in_with}
use Rattle.elab_fits.specs.Standing.{On}
use Rattle.elab_fits_forms.specs.Types.{is_sound, is_parameter}
use Rattle.elab_fits_forms.specs.Context.{Holds}

abbrev pub IsSound : List Class → Typ → Type 0
IsSound classes t = is_sound classes t ≡ true

-- types of parameters
abbrev pub AreParameters : List Class → List Parameter → Type 0
AreParameters classes [] = Unit {0}
AreParameters classes (p ∷ ps) = (is_parameter classes p.typ ≡ true) × AreParameters classes ps

-- what a declarator declares, and of a function its parameters
pub record IsSoundDeclared (classes : List Class) (r : Declared) : Type 0 where
  pub typ : is_sound classes r.typ ≡ true
  pub params : AreParameters classes r.params

abbrev pub TypesAreSound : Type 0
TypesAreSound = (lexemes : List Lexeme) (s : Setting) (c : Ctx) (l : List Closure) (w : Work) (t : syntax.Tree) → Holds s c w
    → On (IsSound c.classes) (type_id_with lexemes c l w t)

abbrev pub SpecifiersAreSound : Type 0
SpecifiersAreSound = (lexemes : List Lexeme) (s : Setting) (c : Ctx) (l : List Closure) (w : Work) (t : syntax.Tree) → Holds s c w
    → On (IsSound c.classes) (specifiers_with lexemes c l w t)

abbrev pub DeclaratorsAreSound : Type 0
DeclaratorsAreSound = (lexemes : List Lexeme) (s : Setting) (c : Ctx) (l : List Closure) (w : Work) (at : At) (t : Typ) (d : syntax.Tree) → Holds s c w
    → is_sound c.classes t ≡ true → On (IsSoundDeclared c.classes) (declared_with lexemes c l w at t d)

abbrev pub ParametersAreSound : Type 0
ParametersAreSound = (lexemes : List Lexeme) (s : Setting) (c : Ctx) (l : List Closure) (w : Work) (t : syntax.Tree) → Holds s c w
    → On (AreParameters c.classes) (parameters_in_with lexemes c l w t)
