-- What a context has to say for the types of expressions to be sound, and what the text has to be.
use Rattle.std.specs.Prelude.{◌≡◌, ℕ, Bool, true, false, not, ◌&&◌, ◌||◌, List, length, Option, Some, None, is_some}
use Rattle.std.specs.List.{list_all}
use Rattle.elab_rules.specs.cpp_types.Typ.{Typ, typ, Form, int, enum, class, closure}
use Rattle.elab_rules.specs.cpp_types.Class.{Class, Member, completion_of}
use Rattle.elab_rules.specs.cpp_lex.Tokens.{Lexeme}
use Rattle.elab_rules.specs.cpp_ast.Trees as syntax
use Rattle.elab_rules.specs.cpp_tree.Units.{Global}
use Rattle.elab_rules.specs.cpp_tree.Typing.{form_in}
use Rattle.elab_rules.specs.elab_ctx.Ctx.{Ctx, Work, Func, Enumerator, Variable, This, Capture, Lambda, Closure}
use Rattle.elab_rules.specs.elab_ctx.Types.{Named}
use Rattle.elab_rules.specs.elab_ctx.Steps.{spelling}
use Rattle.elab_rules.specs.Objects.{traits_at}
use Rattle.elab_rules.specs.Types.{is_nothing, Parameter}
use Rattle.elab_sound_types.specs.Types.{is_lambda, is_class, is_sound, is_sound_signature, Use, object, target, variable, parameter, denoted}

-- a member that has a name is an object; those of a lambda's class have none, and may be references
abbrev pub member_use : (nameless : Bool) → Use
member_use true = variable
member_use false = object

abbrev pub is_sound_member : List Class → Member → Bool
is_sound_member classes m = is_sound classes (member_use (is_nothing m.name)) m.typ

abbrev pub has_sound_members : List Class → Class → Bool
has_sound_members classes x = list_all (is_sound_member classes) x.members

abbrev pub is_sound_function : List Class → Func → Bool
is_sound_function classes f = is_sound_signature classes f.declared.signature

-- an integer or an enum without qualifiers
abbrev pub is_number_form : Form → Bool
is_number_form (int k) = true
is_number_form (enum e s) = true
is_number_form f = false

abbrev pub is_number : Typ → Bool
is_number (typ f c v) = is_number_form f && not (c || v)

abbrev pub is_sound_enumerator : Enumerator → Bool
is_sound_enumerator e = is_number e.typ

-- where its type is known
abbrev pub is_sound_known : List Class → Option Typ → Bool
is_sound_known classes None = true
is_sound_known classes (Some t) = is_sound classes variable t

abbrev pub is_sound_variable : List Class → Variable → Bool
is_sound_variable classes v = is_sound_known classes v.typ

-- an object of a class, a lambda's too
abbrev pub is_object_of_class : List Class → Form → Bool
is_object_of_class classes (class n) = is_class classes n
is_object_of_class classes (closure n) = is_lambda classes n
is_object_of_class classes f = false

abbrev pub is_sound_this : List Class → Option This → Bool
is_sound_this classes None = true
is_sound_this classes (Some t) = is_object_of_class classes (form_in t.typ)

abbrev pub is_sound_capture : List Class → Capture → Bool
is_sound_capture classes x = is_sound classes variable x.typ

abbrev pub are_sound_captures : List Class → Option Lambda → Bool
are_sound_captures classes None = true
are_sound_captures classes (Some l) = list_all (is_sound_capture classes) l.captures

abbrev pub is_sound_closure : List Class → Closure → Bool
is_sound_closure classes x = is_lambda classes x.class

-- lambdas that were made: their classes are lambdas'
abbrev pub are_sound_closures : List Class → List Closure → Bool
are_sound_closures classes l = list_all (is_sound_closure classes) l

abbrev pub is_sound_name : List Class → Named → Bool
is_sound_name classes x = is_sound classes denoted x.typ

abbrev pub is_sound_global : List Class → Global → Bool
is_sound_global classes g = is_sound classes target g.typ

abbrev pub are_sound_globals : List Class → Work → Bool
are_sound_globals classes w = list_all (is_sound_global classes) w.globals

-- what is declared has types that can be declared
pub record HasSoundTypes (c : Ctx) (w : Work) : Type 0 where
  -- what a name of a type stands for can be written
  pub types : list_all (is_sound_name c.classes) c.types ≡ true
  -- a member that has a name is an object, and one of a lambda's class an object or a reference
  pub members : list_all (has_sound_members c.classes) c.classes ≡ true
  -- a function takes values, objects of classes and references, and gives one of these or nothing
  pub functions : list_all (is_sound_function c.classes) c.funcs ≡ true
  -- an enumerator is an `int`, or of its enum
  pub enumerators : list_all is_sound_enumerator c.enumerators ≡ true
  -- a variable whose type is known is an object or a reference
  pub variables : list_all (is_sound_variable c.classes) c.variables ≡ true
  -- `*this` is an object of a class, or of a lambda
  pub this : is_sound_this c.classes c.this ≡ true
  -- what the lambda around captures is an object or a reference
  pub captures : are_sound_captures c.classes c.lambda ≡ true
  -- a global is what an lvalue can refer to
  pub globals : are_sound_globals c.classes w ≡ true
  -- each class has its traits
  pub many : length c.traits ≡ length c.classes
  -- a class whose objects may be copied as bytes is complete
  pub copied : (n : ℕ) → (traits_at c n).is_trivially_copyable ≡ true → is_some (completion_of c.classes n) ≡ true

-- each token of a syntax tree has a spelling, as each that was read has
abbrev mutual
  pub is_spelled : List Lexeme → syntax.Tree → Bool
  is_spelled s (syntax.node kind p (Some t) kids) = not (is_nothing (spelling s t)) && are_spelled s kids
  is_spelled s (syntax.node kind p None kids) = are_spelled s kids

  pub are_spelled : List Lexeme → syntax.Trees → Bool
  are_spelled s syntax.none = true
  are_spelled s (syntax.more t ts) = is_spelled s t && are_spelled s ts

-- Parameters

-- a parameter as its function knows it
abbrev pub is_sound_parameter : List Class → Parameter → Bool
is_sound_parameter classes p = is_sound classes parameter p.typ
