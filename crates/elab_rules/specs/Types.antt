-- Types of specifiers and declarators (C++14 7.1.6, 8.1, 8.3), but for what they hold of expressions.
use Rattle.std.specs.Prelude.{ℕ, zero, ◌+◌, ◌*◌, ◌==◌, nat_le, nat_lt, Bool, true, false, not, ◌&&◌, ◌||◌, List, [], ◌∷◌, length, count_by}
use Rattle.std.specs.Prelude.{Option, Some, None, Result, Ok, Err, if◌then◌else◌, codes, pos, int_lt}
use Rattle.std.specs.Str.{bytes_eq}
use Rattle.elab_ctx.specs.tx_ints.declared.kinds.IntKind.{IntKind}
use Rattle.elab_ctx.specs.tx_ints.declared.kinds.IntKind.TheVariants.{Bool as BoolKind, Char, SChar, UChar, Short, UShort, Int, UInt, Long, ULong, LLong}
use Rattle.elab_ctx.specs.tx_ints.declared.kinds.IntKind.TheVariants.{ULLong}
use Rattle.elab_ctx.specs.tx_ints.Words.{value_of_word}
use Rattle.elab_ctx.specs.cpp_types.Typ.{Typ, typ, Form, void, int, enum, ptr, ref, array, func, class, Signature, signature, Typs}
use Rattle.elab_ctx.specs.cpp_types.Typ.{none as no_typs, more as and_typ}
use Rattle.elab_ctx.specs.cpp_types.Class.{held}
use Rattle.elab_ctx.specs.cpp_types.declared.classes.At.{At}
use Rattle.elab_ctx.specs.cpp_lex.Tokens.{Lexeme}
use Rattle.elab_ctx.specs.cpp_ast.declared.kinds.NodeKind.TheVariants as k
use Rattle.elab_ctx.specs.cpp_ast.Trees as syntax
use Rattle.elab_ctx.specs.cpp_tree.declared.faults.ElabFault.{ElabFault}
use Rattle.elab_ctx.specs.cpp_tree.declared.faults.ElabFault.TheVariants.{Limit}
use Rattle.elab_ctx.specs.cpp_tree.declared.faults.LimitKind.TheVariants.{Size, Params}
use Rattle.elab_ctx.specs.cpp_tree.declared.faults.IllRule.TheVariants.{BadDeclaration, OutOfProfile, AbstractObject}
use Rattle.elab_ctx.specs.cpp_tree.Notation.{plain}
use Rattle.elab_ctx.specs.cpp_tree.Typing.{form_in, qualified, unqualified, is_void}
use Rattle.elab_ctx.specs.Ctx.{Ctx}
use Rattle.elab_ctx.specs.Types.{Named, type_called}
use Rattle.elab_ctx.specs.Steps.{and_then, expect, check, spelling}
use Rattle.elab_rules.specs.Objects.{size_of, traits_at}
use Rattle.elab_rules.specs.Operators.{is_complete}
use Rattle.elab_ctx.specs.cpp_layout.declared.extents.TheConstants.{GREATEST_SIZE}
use Rattle.elab_rules.specs.declared.TheConstants.{MOST_PARAMETERS}

-- `auto` until it is known: an enum without a name
abbrev pub auto_form : Form
auto_form = enum [] false

abbrev pub is_nothing : List ℕ → Bool
is_nothing [] = true
is_nothing (b ∷ bs) = false

-- the type has `auto` in it
abbrev mutual
  pub has_auto : Typ → Bool
  has_auto (typ f c v) = auto_in f

  pub auto_in : Form → Bool
  auto_in (enum name s) = is_nothing name
  auto_in (ptr t) = has_auto t
  auto_in (ref t) = has_auto t
  auto_in (array t n) = has_auto t
  auto_in (func s) = auto_in_signature s
  auto_in f = false

  pub auto_in_signature : Signature → Bool
  auto_in_signature (signature ps r safe) = has_auto r

-- Specifiers

abbrev pub type_named : List ℕ → List Named → Option Typ
type_named name ns = type_called name ns

-- what the specifiers of a type say so far
pub record Specifiers : Type 0 where
  pub is_const : Bool
  pub is_volatile : Bool
  pub words : List (List ℕ)
  pub named : Option Typ

abbrev pub no_specifiers : Specifiers
no_specifiers = record { is_const = false; is_volatile = false; words = []; named = None }

abbrev pub times : List (List ℕ) → List ℕ → ℕ
times words word = count_by (λ (w : List ℕ). bytes_eq w word) words

-- how often each word stands
pub record Words : Type 0 where
  pub all : ℕ
  pub signs : ℕ
  pub unsigned : ℕ
  pub shorts : ℕ
  pub longs : ℕ
  pub chars : ℕ
  pub ints : ℕ

abbrev pub words_of : List (List ℕ) → Words
words_of ws = record {
  all = length ws;
  signs = times ws (codes "signed");
  unsigned = times ws (codes "unsigned");
  shorts = times ws (codes "short");
  longs =
      times ws (codes "long");
  chars = times ws (codes "char");
  ints = times ws (codes "int");
}

abbrev pub signed_kind : Words → IntKind → IntKind → IntKind
signed_kind w s u = if w.unsigned == 1 then u else s

-- at most one sign, at most one `int`, and so many other words
abbrev pub is_modified : Words → ℕ → Bool
is_modified w others = nat_le (w.signs + w.unsigned) 1 && nat_le w.ints 1 && w.all == w.signs + w.unsigned + w.ints + others

abbrev pub char_kind : Words → IntKind
char_kind w = if w.unsigned == 1 then UChar else (if w.signs == 1 then SChar else Char)

-- an integer type of one or several words (C++14 7.1.6.2, table 10)
abbrev pub integer_words : Words → Option Form
integer_words w =
    if w.chars == 1 && w.ints == 0 && is_modified w 1 then Some (int (char_kind w)) else (
    if w.shorts == 1 && is_modified w 1 then Some (int (signed_kind w Short UShort)) else (
    if w.longs == 1 && is_modified w 1 then Some (int (signed_kind w Long ULong)) else (
    if w.longs == 2 && is_modified w 2 then Some (int (signed_kind w LLong ULLong)) else (
    if nat_lt 0 w.all && is_modified w 0 then Some (int (signed_kind w Int UInt)) else None))))

abbrev pub word_form : List (List ℕ) → Option Form
word_form (word ∷ []) =
    if bytes_eq word (codes "void") then Some void else
    (if bytes_eq word (codes "bool") then Some (int BoolKind) else
    (if bytes_eq word (codes "auto") then Some auto_form else integer_words (words_of (word ∷ []))))
word_form words = integer_words (words_of words)

abbrev pub words_type : Option Form → Option Typ
words_type (Some f) = Some (plain f)
words_type None = None

abbrev pub base_type : Option Typ → List (List ℕ) → Option Typ
base_type (Some t) words = Some t
base_type None words = words_type (word_form words)

-- `const` and `volatile` of an array are those of its elements; a reference and a function have none (C++14 3.9.3, 8.3.2, 8.3.5)
abbrev pub with_qualifiers : Bool → Bool → Typ → Typ
with_qualifiers c v (typ (func s) d w) = typ (func s) d w
with_qualifiers c v t = qualified c v t

abbrev pub specified_type : At → Specifiers → Result Typ ElabFault
specified_type at s = and_then (expect at BadDeclaration (base_type s.named s.words)) (λ (t : Typ). Ok (with_qualifiers s.is_const s.is_volatile t))

-- what a `std::tx_exception` may hold (language: integers, enums, trivially copyable classes)
abbrev pub may_be_thrown : Ctx → Typ → Bool
may_be_thrown c (typ (int k) false false) = true
may_be_thrown c (typ (enum n s) false false) = not (is_nothing n)
may_be_thrown c (typ (class n) false false) = (traits_at c n).is_trivially_copyable
may_be_thrown c t = false

-- Declarators

pub record Parameter : Type 0 where
  pub name : Option ℕ
  pub at : At
  pub typ : Typ

-- what follows the parameters of a function
pub record Qualifiers : Type 0 where
  pub is_const : Bool
  pub is_safe : Bool
  pub is_dynamic : Bool
  pub no_except : Bool

abbrev pub no_qualifiers : Qualifiers
no_qualifiers = record { is_const = false; is_safe = false; is_dynamic = false; no_except = false }

-- what a declarator declares: its name by its token, the class before it, whether it is a destructor, its type, and of a function its parameters and what
-- follows them
pub record Declared : Type 0 where
  pub name : Option ℕ
  pub owner : Option ℕ
  pub is_destructor : Bool
  pub typ : Typ
  pub params : List Parameter
  pub qualifiers : Qualifiers

abbrev pub declared_name : Option ℕ → Option ℕ → Bool → Typ → Declared
declared_name name owner is_destructor t = record {
  name = name;
  owner = owner;
  is_destructor = is_destructor;
  typ = t;
  params = [];
  qualifiers =
      no_qualifiers;
}

abbrev pub is_reference_form : Form → Bool
is_reference_form (ref t) = true
is_reference_form f = false

abbrev pub is_array_form : Form → Bool
is_array_form (array t n) = true
is_array_form f = false

-- no array whose bound is not known
abbrev pub is_bounded : Typ → Bool
is_bounded (typ (array e zero) d v) = false
is_bounded t = true

abbrev pub is_function_form : Form → Bool
is_function_form (func s) = true
is_function_form f = false

-- a pointer (C++14 8.3.1); none to `void` or to an array without a bound (profile)
abbrev pub pointer_to : At → Typ → Result Typ ElabFault
pointer_to at t = and_then (check at BadDeclaration (not (is_reference_form (form_in t))))
    (λ y. and_then (check at OutOfProfile (not (is_void t) && is_bounded t)) (λ z. Ok (plain (ptr t))))

-- a reference (8.3.2); none to an array without a bound (profile)
abbrev pub reference_to : At → Typ → Result Typ ElabFault
reference_to at t = and_then (check at BadDeclaration (not (is_reference_form (form_in t)) && not (is_void t)))
    (λ y. and_then (check at OutOfProfile (is_bounded t)) (λ z. Ok (plain (ref t))))

-- elements have a type that is known, and a bound where they are arrays (8.3.4 p1, p3)
abbrev pub is_element : Typ → Bool
is_element t = not (is_reference_form (form_in t)) && not (is_void t) && not (is_function_form (form_in t)) && not (auto_in (form_in t)) && is_bounded t

abbrev pub is_within_size : Ctx → Typ → ℕ → Bool
is_within_size c t n = not (is_complete c (held t)) || nat_le (size_of c.classes t * n) GREATEST_SIZE

-- an array of so many elements (8.3.4); the bound is a number above 0
abbrev pub array_of : Ctx → At → At → Typ → IntKind → ℕ → Result Typ ElabFault
array_of c at p t kind w = and_then (check at BadDeclaration (is_element t))
    (λ x. and_then (check p BadDeclaration (int_lt (pos 0) (value_of_word kind w))) (λ y.
    if nat_le w GREATEST_SIZE && is_within_size c t w then Ok (plain (array t w)) else Err (Limit at Size)))

-- an array whose bound its initialiser gives, with 0 for it
abbrev pub open_array : At → Typ → Result Typ ElabFault
open_array at t = and_then (check at BadDeclaration (is_element t)) (λ x. Ok (plain (array t 0)))

-- a parameter's type: a pointer for an array or a function (8.3.5 p5)
abbrev pub adjusted : Typ → Typ
adjusted (typ (array t n) c v) = plain (ptr (qualified c v t))
adjusted (typ (func s) c v) = plain (ptr (typ (func s) c v))
adjusted t = t

abbrev pub class_of_form : Form → Option ℕ
class_of_form (class n) = Some n
class_of_form f = None

abbrev pub is_abstract_class : Ctx → Option ℕ → Bool
is_abstract_class c (Some n) = (traits_at c n).is_abstract
is_abstract_class c None = false

-- no object of an abstract class is passed or returned
abbrev pub is_abstract_type : Ctx → Typ → Bool
is_abstract_type c t = is_abstract_class c (class_of_form (form_in t))

abbrev pub parameter_type : Ctx → At → Typ → Result Typ ElabFault
parameter_type c at t = and_then (check at BadDeclaration (not (is_void t)))
    (λ x. and_then (check at OutOfProfile (not (has_auto t))) (λ y. and_then (check at AbstractObject (not (is_abstract_type c t))) (λ z. Ok (adjusted t))))

abbrev pub types_of : List Parameter → Typs
types_of [] = no_typs
types_of (p ∷ ps) = and_typ (unqualified p.typ) (types_of ps)

abbrev pub is_few : List Parameter → Bool
is_few ps = nat_le (length ps) MOST_PARAMETERS

abbrev pub within_parameters : At → List Parameter → Result Bool ElabFault
within_parameters at ps = if is_few ps then Ok true else Err (Limit at Params)

abbrev pub is_result : Typ → Bool
is_result t = not (is_array_form (form_in t)) && not (is_function_form (form_in t))

-- a function of these parameters (8.3.5)
abbrev pub function_of : Ctx → At → Typ → List Parameter → Bool → Result Typ ElabFault
function_of c at r ps safe = and_then (check at BadDeclaration (is_result r))
    (λ x. and_then (check at OutOfProfile (not (has_auto r)))
    (λ a. and_then (check at AbstractObject (not (is_abstract_type c r))) (λ y. and_then (within_parameters at ps) (λ z.
    Ok (plain (func (signature (types_of ps) r safe)))))))

-- the declarator is a name alone, in parentheses or not
abbrev pub is_name : syntax.Tree → Bool
is_name (syntax.node k.DeclaratorId at token kids) = true
is_name (syntax.node k.QualifiedDeclaratorId at token kids) = true
is_name (syntax.node k.DestructorId at token kids) = true
is_name (syntax.node k.QualifiedDestructorId at token kids) = true
is_name (syntax.node k.OmittedId at token kids) = true
is_name (syntax.node k.ParenthesizedDeclarator at token (syntax.more d syntax.none)) = is_name d
is_name d = false

abbrev pub with_qualifier : List Lexeme → Qualifiers → syntax.Tree → Qualifiers
with_qualifier s q (syntax.node k.CvQualifier at token kids) = record q { is_const = true }
with_qualifier s q (syntax.node k.TxQualifier at (Some t) kids) =
    if bytes_eq (spelling s t) (codes "transaction_safe") then record q { is_safe = true } else record q { is_dynamic = true }
with_qualifier s q (syntax.node k.NoexceptSpecification at token kids) = record q { no_except = true }
with_qualifier s q t = q

abbrev pub qualifiers_from : List Lexeme → Qualifiers → syntax.Trees → Qualifiers
qualifiers_from s q syntax.none = q
qualifiers_from s q (syntax.more t ts) = qualifiers_from s (with_qualifier s q t) ts

abbrev pub qualifiers_of : List Lexeme → syntax.Tree → Qualifiers
qualifiers_of s (syntax.node kind at token kids) = qualifiers_from s no_qualifiers kids

abbrev pub is_declared_safe : Qualifiers → Bool
is_declared_safe q = q.is_safe || q.is_dynamic

-- the function that is declared has its own parameters and qualifiers; another one has no `const` and no `transaction_safe_dynamic`
abbrev pub with_function : At → Bool → List Parameter → Qualifiers → Declared → Result Declared ElabFault
with_function at true ps q d = Ok (record d { params = ps; qualifiers = q })
with_function at false ps q d = and_then (check at BadDeclaration (not q.is_const && not q.is_dynamic)) (λ y. Ok d)

abbrev pub owner_token : syntax.Trees → Option ℕ
owner_token (syntax.more (syntax.node kind at token kids) ts) = token
owner_token syntax.none = None
