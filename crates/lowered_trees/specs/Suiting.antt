-- What lowering asks of a body beside that it is well formed.
use Rattle.std.specs.Prelude.{is_some, ◌^◌, nat_lt, Bool, true, false, not, ◌&&◌, ◌||◌, List, [], ◌∷◌, length}
use Rattle.std.specs.List.{list_all}
use Rattle.cpp_tree.specs.cpp_types.Typ.{Typ}
use Rattle.cpp_tree.specs.cpp_types.declared.ranks.Cat.{Cat}
use Rattle.cpp_tree.specs.cpp_types.declared.ranks.Cat.TheVariants.{Lvalue, Prvalue}
use Rattle.cpp_tree.specs.declared.kinds.TKind.{TKind}
use Rattle.cpp_tree.specs.declared.kinds.TKind.TheVariants.{Load, Retype}
use Rattle.cpp_tree.specs.declared.kinds.TKind.TheVariants.{Call, VirtualCall, PointerCall, Throw, Builtin as CallBuiltin, Construct}
use Rattle.cpp_tree.specs.declared.kinds.TKind.TheVariants.{Elements, Destroy, Init, Defer, Switch, Case}
use Rattle.cpp_tree.specs.Trees.{Tree, node, Trees, none, more}
use Rattle.cpp_tree.specs.Typing.{Head, word_kind}
use Rattle.cpp_tree.specs.WellFormed.{heads_of}
use Rattle.low_code.specs.Types.{is_void, is_class_type}
use Rattle.unwind_lower.specs.Blocks.{is_default}
use Rattle.lowered_trees.specs.Shapes.{is_load}

-- no lvalue is of type `void`; a value that is retyped has a kind, or no type is left; and of loads only the address of a result of class type has no
-- type, which is that of an initialisation
abbrev pub told : (address : Bool) → TKind → Typ → Cat → Bool
told address kind t Lvalue = not (is_void t)
told address (Load k volatile) t Prvalue = address || not (is_void t)
told address Retype t Prvalue = is_void t || is_some (word_kind t Prvalue)
told address kind t Prvalue = true

-- what is passed to a function has a type
abbrev pub has_word : Head → Bool
has_word h = is_load h.kind || not (is_void h.typ)

abbrev pub have_words : List Head → Bool
have_words hs = list_all has_word hs

-- counts are words, and of at least one object, and so are labels
abbrev pub counts : TKind → Bool
counts (Elements count stride) = nat_lt 0 count && nat_lt count (2 ^ 64)
counts (Destroy func offset count stride) = nat_lt 0 count && nat_lt count (2 ^ 64)
counts (Case word) = nat_lt word (2 ^ 64)
counts kind = true

abbrev pub has_default : List Head → Bool
has_default [] = false
has_default (h ∷ hs) = is_default h.kind || has_default hs

abbrev pub has_one_default : List Head → Bool
has_one_default [] = true
has_one_default (h ∷ hs) = not (is_default h.kind && has_default hs) && has_one_default hs

abbrev pub is_one : List Head → Bool
is_one [] = false
is_one (h ∷ []) = true
is_one (h ∷ i ∷ hs) = false

-- what is thrown is an object, or one scalar
abbrev pub throws_one : List Head → Bool
throws_one [] = false
throws_one (h ∷ hs) = is_class_type h.typ || is_one hs

-- at most one label of a `switch` is `default`, and what is put off to the end of a block is something
abbrev pub kids_suit : TKind → List Head → Bool
kids_suit Switch hs = has_one_default hs
kids_suit Defer hs = nat_lt 1 (length hs)
kids_suit Throw hs = throws_one hs
kids_suit (Call func) hs = have_words hs
kids_suit (VirtualCall func class slot pointer) hs = have_words hs
kids_suit PointerCall hs = have_words hs
kids_suit (CallBuiltin which) hs = have_words hs
kids_suit (Construct func) hs = have_words hs
kids_suit kind hs = true

-- kids that are run for their words have them
abbrev pub is_init : TKind → Bool
is_init Init = true
is_init kind = false

abbrev mutual
  pub suits : (address : Bool) → Tree → Bool
  suits address (node kind t cat at kids) = told address kind t cat && counts kind && kids_suit kind (heads_of kids)
      && all_suit (is_init kind) kids

  pub all_suit : (address : Bool) → Trees → Bool
  all_suit address none = true
  all_suit address (more t ts) = suits address t && all_suit false ts
