-- The laws: each type that elaboration makes of a type that is written, or gives to an expression, is one that C++ has.
use Rattle.std.specs.Prelude.{◌≡◌, ℕ, Bool, true, List, [], ◌∷◌, Ok}
use Rattle.std.specs.List.{list_all}
use Rattle.elab_rules.specs.tx_ints.declared.kinds.BinOp.TheVariants.{Add}
use Rattle.elab_rules.specs.cpp_types.Typ.{Typ, typ, ptr, ref, array}
use Rattle.elab_rules.specs.cpp_types.declared.classes.At.{At}
use Rattle.elab_rules.specs.cpp_types.declared.ranks.Cat.{Cat}
use Rattle.elab_rules.specs.cpp_types.declared.ranks.Cat.TheVariants.{Lvalue, Prvalue}
use Rattle.elab_rules.specs.cpp_types.Class.{Class}
use Rattle.elab_rules.specs.cpp_lex.Tokens.{Lexeme}
use Rattle.elab_rules.specs.cpp_ast.Trees as syntax
use Rattle.elab_rules.specs.cpp_tree.Trees.{Tree, typ_in}
use Rattle.elab_rules.specs.cpp_tree.Typing.{form_in, is_void}
use Rattle.elab_rules.specs.elab_ctx.Ctx.{Ctx, Work, Closure}
use Rattle.elab_rules.specs.elab_ctx.Steps.{Operand, Typed, TypedAll}
use Rattle.elab_rules.specs.Operators.{value_form, pointed, sum_of}
use Rattle.elab_rules.specs.Types.{Declared, Parameter}
use Rattle.elab_rules.specs.Expressions.{expression_with, operands_with, type_id_with, specifiers_with, declared_with, parameter_with}
use Rattle.elab_fits.specs.Standing.{IsExpressionType}
use Rattle.elab_fits.specs.Scalars.{IsZero}
use Rattle.elab_sound_types.specs.Types.{is_sound, Use, target, denoted, parameter, is_head, IsExpression, AreExpressions, IsSoundTree}
use Rattle.elab_sound_types.specs.Contexts.{HasSoundTypes, are_sound_closures, is_spelled, are_spelled, is_sound_parameter}

-- Types

-- what an lvalue refers to has a type that an expression can have
abbrev pub TargetsAreTypes : Type 0
TargetsAreTypes = (classes : List Class) (t : Typ) → is_sound classes target t ≡ true → IsExpressionType t Lvalue

-- so has each expression
abbrev pub HeadsAreTypes : Type 0
HeadsAreTypes = (classes : List Class) (t : Typ) (cat : Cat) → is_head classes t cat ≡ true → IsExpressionType t cat

-- behind a pointer lies what an lvalue can refer to
abbrev pub PointersLead : Type 0
PointersLead = (classes : List Class) (t u : Typ) (cat : Cat) → is_head classes t cat ≡ true → form_in t ≡ ptr u → is_sound classes target u ≡ true

-- so does an element in an array
abbrev pub ArraysHold : Type 0
ArraysHold = (classes : List Class) (t u : Typ) (n : ℕ) (cat : Cat) → is_head classes t cat ≡ true → form_in t ≡ array u n → is_sound classes target u ≡ true

-- so does what a reference refers to
abbrev pub ReferencesLead : Type 0
ReferencesLead = (classes : List Class) (way : Use) (t : Typ) (c v : Bool) → is_sound classes way (typ (ref t) c v) ≡ true → is_sound classes target t ≡ true

-- nothing of type `void` is an lvalue
abbrev pub VoidsAreValues : Type 0
VoidsAreValues = (classes : List Class) (t : Typ) (cat : Cat) → is_head classes t cat ≡ true → is_void t ≡ true → cat ≡ Prvalue

-- Types that are written

abbrev pub TypesAreSound : Type 0
TypesAreSound = (s : List Lexeme) (c : Ctx) (l : List Closure) (w : Work) (e : syntax.Tree) (t : Typ) → HasSoundTypes c w → type_id_with s c l w e ≡ Ok t
    → is_sound c.classes denoted t ≡ true

abbrev pub SpecifiersAreSound : Type 0
SpecifiersAreSound = (s : List Lexeme) (c : Ctx) (l : List Closure) (w : Work) (e : syntax.Tree) (t : Typ) → HasSoundTypes c w
    → specifiers_with s c l w e ≡ Ok t → is_sound c.classes denoted t ≡ true

-- what a declarator declares, and of a function its parameters
pub record IsSoundDeclared (classes : List Class) (r : Declared) : Type 0 where
  pub typ : is_sound classes denoted r.typ ≡ true
  pub params : list_all (is_sound_parameter classes) r.params ≡ true

abbrev pub DeclaratorsAreSound : Type 0
DeclaratorsAreSound = (s : List Lexeme) (c : Ctx) (l : List Closure) (w : Work) (at : At) (t : Typ) (d : syntax.Tree) (r : Declared) → HasSoundTypes c w
    → is_sound c.classes denoted t ≡ true → declared_with s c l w at t d ≡ Ok r → IsSoundDeclared c.classes r

abbrev pub ParametersAreSound : Type 0
ParametersAreSound = (s : List Lexeme) (c : Ctx) (l : List Closure) (w : Work) (e : syntax.Tree) (p : Parameter) → HasSoundTypes c w
    → parameter_with s c l w e ≡ Ok p → is_sound c.classes parameter p.typ ≡ true

-- Expressions

-- an operand, and what was made with it
pub record IsSoundTyped (c : Ctx) (x : Typed) : Type 0 where
  pub tree : IsSoundTree c.classes x.operand.tree
  pub work : HasSoundTypes c x.work

abbrev pub ExpressionsAreSound : Type 0
ExpressionsAreSound = (s : List Lexeme) (c : Ctx) (l : List Closure) (w : Work) (e : syntax.Tree) (x : Typed) → HasSoundTypes c w
    → are_sound_closures c.classes l ≡ true → is_spelled s e ≡ true → expression_with s c l w e ≡ Ok x → IsSoundTyped c x

pub record AreSoundTyped (c : Ctx) (x : TypedAll) : Type 0 where
  pub trees : AreExpressions c.classes x.operands
  pub work : HasSoundTypes c x.work

abbrev pub OperandsAreSound : Type 0
OperandsAreSound = (s : List Lexeme) (c : Ctx) (l : List Closure) (w : Work) (es : syntax.Trees) (x : TypedAll) → HasSoundTypes c w
    → are_sound_closures c.classes l ≡ true → are_spelled s es ≡ true → operands_with s c l w es ≡ Ok x → AreSoundTyped c x

-- What the laws of elab_fits ask of operands

-- behind a pointer lies what an expression can be, where it is written with `*` or `[]`
abbrev pub IndirectionsLead : Type 0
IndirectionsLead = (classes : List Class) (a : Operand) → IsExpression classes a.tree → (t : Typ) → value_form a ≡ ptr t → IsExpressionType t Lvalue

abbrev pub SubscriptsLead : Type 0
SubscriptsLead = (classes : List Class) (c : Ctx) (at : At) (a b : Operand) → IsExpression classes a.tree → IsExpression classes b.tree → (e : Tree) (t : Typ)
    → sum_of c Add at (pointed (value_form a)) (pointed (value_form b)) a b ≡ Ok e → form_in (typ_in e) ≡ ptr t → IsExpressionType t Lvalue

-- The literal 0 (C++14 4.10)

-- an operand that is said to be the literal 0 is its tree
abbrev pub ZerosAreLiterals : Type 0
ZerosAreLiterals = (s : List Lexeme) (c : Ctx) (l : List Closure) (w : Work) (e : syntax.Tree) (x : Typed) → expression_with s c l w e ≡ Ok x
    → x.operand.zero ≡ true → IsZero x.operand.tree

abbrev pub AreLiterals : List Operand → Type 0
AreLiterals [] = Unit {0}
AreLiterals (o ∷ os) = (o.zero ≡ true → IsZero o.tree) × AreLiterals os

abbrev pub OperandZerosAreLiterals : Type 0
OperandZerosAreLiterals = (s : List Lexeme) (c : Ctx) (l : List Closure) (w : Work) (es : syntax.Trees) (x : TypedAll) → operands_with s c l w es ≡ Ok x
    → AreLiterals x.operands
