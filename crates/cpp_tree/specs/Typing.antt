-- What the types and categories of nodes say of their words and objects.
use Rattle.std.specs.Prelude.{ℕ, Bool, true, false, not, ◌&&◌, ◌||◌, ◌==◌, List, [], ◌∷◌, Option, Some, None, is_some, cond}
use Rattle.tx_ints.specs.declared.kinds.IntKind.{IntKind}
use Rattle.tx_ints.specs.declared.kinds.IntKind.TheVariants.{Bool as BoolKind, Int, ULong}
use Rattle.tx_ints.specs.Integers.{promote_of}
use Rattle.tx_ints.specs.Words.{word_of, value_of_word}
use Rattle.cpp_layout.specs.cpp_types.Typ.{Typ, typ, Form, void, int, enum, null, ptr, ref, array, class, closure, tx_ex}
use Rattle.cpp_layout.specs.cpp_types.Equal.{kind_eq, typ_eq, form_eq}
use Rattle.cpp_layout.specs.cpp_types.Conversion.{is_object_form, is_lvalue}
use Rattle.cpp_layout.specs.cpp_types.declared.ranks.Cat.{Cat}
use Rattle.cpp_layout.specs.cpp_types.declared.ranks.Cat.TheVariants.{Lvalue, Prvalue}
use Rattle.cpp_tree.specs.declared.kinds.TKind.{TKind}
use Rattle.cpp_tree.specs.declared.kinds.TKind.TheVariants.{Materialize, Conditional, Comma, FullExpression, Call, VirtualCall, PointerCall, Throw, Rethrow}
use Rattle.cpp_tree.specs.declared.arena.TNode.{TNode}
use Rattle.cpp_layout.specs.cpp_types.Typ.{typ_of}
use Rattle.cpp_tree.specs.Trees.{Tree, node}

-- a node without its place and its kids
pub record Head : Type 0 where
  pub kind : TKind
  pub typ : Typ
  pub cat : Cat

abbrev pub head_of : Tree → Head
head_of (node kind t cat at kids) = record { kind = kind; typ = t; cat = cat }

abbrev pub node_head : TNode → Head
node_head n = record { kind = n.kind; typ = typ_of n.ty; cat = n.cat }

-- there is one, and it passes
abbrev pub passes : {A : Type 0} → (A → Bool) → Option A → Bool
passes test None = false
passes test (Some x) = test x

-- Types

abbrev pub form_in : Typ → Form
form_in (typ f c v) = f

abbrev pub is_volatile_typ : Typ → Bool
is_volatile_typ (typ f c v) = v

-- without its own `const` and `volatile`
abbrev pub unqualified : Typ → Typ
unqualified (typ f c v) = typ f false false

abbrev pub is_void : Typ → Bool
is_void (typ void c v) = true
is_void t = false

abbrev pub is_class_typ : Typ → Bool
is_class_typ (typ f c v) = is_object_form f

abbrev pub is_reference : Typ → Bool
is_reference (typ (ref t) c v) = true
is_reference t = false

-- the class with this number, a lambda's too
abbrev pub is_class : ℕ → Form → Bool
is_class n (class k) = k == n
is_class n (closure k) = k == n
is_class n f = false

-- a part of this type in an object with these qualifiers: an array is qualified where its elements are, and what a reference refers to keeps its own
-- (C++14 3.9.3, 5.2.5)
abbrev pub qualified : Bool → Bool → Typ → Typ
qualified c v (typ (array t n) d w) = typ (array (qualified c v t) n) d w
qualified c v (typ (ref t) d w) = typ (ref t) d w
qualified c v (typ f d w) = typ f (c || d) (v || w)

-- the type of the value in a `std::tx_exception`, else the type itself
abbrev pub without_exception : Typ → Typ
without_exception (typ (tx_ex (typ f d w)) c v) = typ f c v
without_exception t = t

-- the same, qualifiers of the object and of its elements apart
abbrev pub same_shape : Typ → Typ → Bool
same_shape (typ (array s m) c v) (typ (array t n) d w) = m == n && same_shape s t
same_shape (typ f c v) (typ g d w) = form_eq f g

-- Words

-- the kind by which a scalar is loaded and stored: an enum's is `int`, and addresses are numbers of 64 bits
abbrev pub kind_in : Form → Option IntKind
kind_in (int k) = Some k
kind_in (enum n s) = Some Int
kind_in null = Some ULong
kind_in (ptr t) = Some ULong
kind_in (ref t) = Some ULong
kind_in f = None

abbrev pub is_kind : IntKind → Option IntKind → Bool
is_kind k None = false
is_kind k (Some j) = kind_eq j k

abbrev pub same_kind : Option IntKind → Option IntKind → Bool
same_kind None None = true
same_kind None (Some k) = false
same_kind (Some j) o = is_kind j o

abbrev pub scalar_of : IntKind → Typ → Bool
scalar_of k (typ f c v) = is_kind k (kind_in f)

-- the type of a prvalue that is no class object
abbrev pub is_scalar_value : Typ → Bool
is_scalar_value (typ f false false) = is_some (kind_in f)
is_scalar_value t = false

-- the kind of the word that an expression gives: an lvalue gives an address
abbrev pub word_kind : Typ → Cat → Option IntKind
word_kind t Lvalue = Some ULong
word_kind (typ f c v) Prvalue = kind_in f

abbrev pub gives : IntKind → Head → Bool
gives k h = is_kind k (word_kind h.typ h.cat)

abbrev pub is_promoted : IntKind → Bool
is_promoted k = kind_eq (promote_of k) k

abbrev pub gives_promoted : Option IntKind → Bool
gives_promoted None = false
gives_promoted (Some k) = is_promoted k

-- the word is one of a value of the kind
abbrev pub is_word_of : IntKind → ℕ → Bool
is_word_of k w = word_of (value_of_word k w) == w

-- Expressions

abbrev pub is_prvalue : Cat → Bool
is_prvalue Prvalue = true
is_prvalue Lvalue = false

abbrev pub is_statement_typ : Typ → Cat → Bool
is_statement_typ t Lvalue = false
is_statement_typ t Prvalue = typ_eq t (typ void false false)

abbrev pub is_bool : Head → Bool
is_bool h = is_prvalue h.cat && typ_eq h.typ (typ (int BoolKind) false false)

abbrev pub is_class_prvalue : Typ → Cat → Bool
is_class_prvalue t Lvalue = false
is_class_prvalue t Prvalue = is_class_typ t

abbrev pub is_lvalue_of : Typ → Head → Bool
is_lvalue_of t h = is_lvalue h.cat && typ_eq t h.typ

abbrev pub is_prvalue_of : Typ → Head → Bool
is_prvalue_of t h = is_prvalue h.cat && typ_eq t h.typ

abbrev pub is_temporary : TKind → Bool
is_temporary (Materialize place argument) = true
is_temporary kind = false

-- the object to which a reference to `t` is bound: of that type, or a temporary of it, which is not `const` itself
abbrev pub is_bound : Typ → Head → Bool
is_bound t h = is_lvalue h.cat && (typ_eq t h.typ || (is_temporary h.kind && typ_eq (unqualified t) h.typ))

-- what a scalar or a reference of this type is initialised by
abbrev pub initialises : Typ → Head → Bool
initialises (typ (ref t) c v) h = is_bound t h
initialises t h = is_prvalue_of (unqualified t) h

-- kinds that stand for a class prvalue or another value alike
abbrev pub goes_both_ways : TKind → Bool
goes_both_ways Conditional = true
goes_both_ways Comma = true
goes_both_ways FullExpression = true
goes_both_ways (Call f) = true
goes_both_ways (VirtualCall f c s p) = true
goes_both_ways PointerCall = true
goes_both_ways Throw = true
goes_both_ways Rethrow = true
goes_both_ways kind = false

-- an initialiser that builds an object of this type, of a `std::tx_exception` as of the value in it; what stands for a class prvalue elsewhere too, a call
-- say, keeps its own type, whatever the object's qualifiers
abbrev pub builds : Typ → Head → Bool
builds t h = is_prvalue h.cat && (typ_eq t h.typ || typ_eq (without_exception t) h.typ || (goes_both_ways h.kind && is_class_typ t && same_shape t h.typ))

-- what a call of a function with this result is (C++14 5.2.2)
abbrev pub is_result : Typ → Typ → Cat → Bool
is_result (typ (ref r) c v) t cat = is_lvalue cat && typ_eq r t
is_result (typ f c v) t cat = is_prvalue cat && cond (is_object_form f) (typ_eq (typ f c v) t) (typ_eq (typ f false false) t)

-- Calls

-- what is passed to a function: the object of a member function of a class, or a parameter
pub data Word : Type 0 where
  object : ℕ → Word
  passed : Typ → Word

abbrev pub is_argument : TKind → Bool
is_argument (Materialize place argument) = argument
is_argument kind = false

-- the object; the argument's own object for a parameter of class type; or a value
abbrev pub is_word : Word → Head → Bool
is_word (object n) h = is_lvalue h.cat && is_class n (form_in h.typ) && not (is_argument h.kind)
is_word (passed (typ f c v)) h = cond (is_object_form f) (is_argument h.kind && is_lvalue_of (typ f false false) h) (not (is_argument h.kind)
    && initialises (typ f c v) h)

-- one for each word
abbrev pub are_words : List Word → List Head → Bool
are_words [] [] = true
are_words (w ∷ ws) (h ∷ hs) = is_word w h && are_words ws hs
are_words ws hs = false
