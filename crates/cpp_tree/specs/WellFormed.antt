-- Well-formed programs.
use Rattle.std.specs.Prelude.{◌≡◌, ℕ, suc, ◌+◌, ◌<◌, ◌≤◌, ◌==◌, nat_lt, nat_le, nat_eq, Bool, true, false, not, ◌&&◌, ◌||◌, List, [], ◌∷◌, ◌++◌, map, length}
use Rattle.std.specs.Prelude.{slice_get, drop, count_by, Option, Some, None, is_some, unwrap_or, cond}
use Rattle.std.specs.List.{list_all}
use Rattle.cpp_layout.specs.cpp_types.Typ.{Typ, typ, Form, void, int, ptr, ref, array, class, closure, tx_ex}
use Rattle.cpp_layout.specs.cpp_types.Class.{Class, InOrder, classes_of}
use Rattle.cpp_layout.specs.cpp_types.Equal.{flag_eq, typ_eq}
use Rattle.tx_ints.specs.declared.kinds.IntKind.{IntKind}
use Rattle.tx_ints.specs.declared.kinds.IntKind.TheVariants.{ULong}
use Rattle.cpp_layout.specs.cpp_types.declared.ranks.Cat.{Cat}
use Rattle.cpp_tree.specs.declared.kinds.TKind.{TKind}
use Rattle.cpp_tree.specs.declared.kinds.TKind.TheVariants.{Literal, Local, Conditional, Materialize, FullExpression, Store, Pieces, Piece, Elements, Block}
use Rattle.cpp_tree.specs.declared.kinds.TKind.TheVariants.{Init, Defer, Loop, Switch, Break, Continue, Return, Handler}
use Rattle.cpp_tree.specs.declared.arena.TNode.{TNode}
use Rattle.cpp_tree.specs.declared.arena.TNodeId.{TNodeId}
use Rattle.cpp_tree.specs.declared.roles.Position.{Position}
use Rattle.cpp_tree.specs.declared.roles.Role.{Role}
use Rattle.cpp_tree.specs.declared.roles.Role.TheVariants.{Value, Zero, Statement, BlockItem, SwitchItem}
use Rattle.cpp_tree.specs.declared.program.FuncKind.{FuncKind}
use Rattle.cpp_tree.specs.declared.program.TFunc.{TFunc}
use Rattle.cpp_tree.specs.declared.program.UnitTree.{UnitTree}
use Rattle.cpp_tree.specs.declared.program.Program.{Program}
use Rattle.cpp_tree.specs.Trees.{Tree, node, Trees, none, more, kind_of, kids_of}
use Rattle.cpp_tree.specs.Arena.{IsOrdered, IsForest, trees_of, trees_at, tree_at}
use Rattle.cpp_tree.specs.Units.{Func, Param, func_of, global_of, slot_of}
use Rattle.cpp_tree.specs.Typing.{Head, head_of, passes, form_in, is_volatile_typ, is_void, is_class_typ, is_class, kind_in, is_kind, is_prvalue}
use Rattle.cpp_tree.specs.Typing.{is_statement_typ}
use Rattle.cpp_tree.specs.Parts.{Part, sized_class, part_of, count_of_parts, has_size, holds_complete}
use Rattle.cpp_tree.specs.Roles.{Kids, kids_for, role_at, serves, way_fits, is_throw, is_label}
use Rattle.cpp_tree.specs.Rows.{Setting, row_fits, is_constructor, is_destructor, result_of, object_words, words_of}

-- Positions: what is open round a node

abbrev pub outermost : Position
outermost = record { full = false; breaks = false; continues = false }

-- inside a node of this kind
abbrev pub inside : TKind → Position → Position
inside FullExpression p = record p { full = true }
inside (Loop test_first) p = record p { breaks = true; continues = true }
inside Switch p = record p { breaks = true }
inside kind p = p

-- a node may stand there: with destructions as a temporary only in a full-expression, a jump only in what it leaves, and what a destructor puts off
-- only in one
abbrev pub may_stand : FuncKind → Position → TKind → (many : ℕ) → Bool
may_stand f p (Materialize place argument) many = argument || many == 1 || p.full
may_stand f p Break many = p.breaks
may_stand f p Continue many = p.continues
may_stand f p Defer many = is_destructor f
may_stand f p kind many = true

-- Heads of kids

abbrev pub heads_of : Trees → List Head
heads_of none = []
heads_of (more t ts) = head_of t ∷ heads_of ts

-- the heads of nodes with these ids
abbrev pub kid_heads : List TNode → List TNodeId → List Head
kid_heads nodes ids = heads_of (trees_at (trees_of nodes) ids)

-- Zeros: nothing but parts, stores and the number 0

abbrev pub is_zeroing : TKind → Bool
is_zeroing (Literal w) = w == 0
is_zeroing (Store k v) = true
is_zeroing Pieces = true
is_zeroing (Piece offset) = true
is_zeroing (Elements count stride) = true
is_zeroing kind = false

abbrev mutual
  pub is_zero : Tree → Bool
  is_zero (node kind t cat at kids) = is_zeroing kind && are_zero kids

  pub are_zero : Trees → Bool
  are_zero none = true
  are_zero (more t ts) = is_zero t && are_zero ts

-- Zeros in an object of no type, that of a result: its whole tree is told by the type of the result. `volatile` says that the object is

-- the number 0 of a scalar's type; an address of a reference is a number of 64 bits
abbrev pub zero_typ : Form → Typ
zero_typ (ref t) = typ (int ULong) false false
zero_typ f = typ f false false

abbrev pub is_zero_of : Form → Tree → Bool
is_zero_of f (node (Literal w) t cat at none) = w == 0 && is_prvalue cat && typ_eq (zero_typ f) t
is_zero_of f tree = false

-- what a reference refers to has its own `volatile`
abbrev pub joined_volatile : Bool → Bool → Form → Bool
joined_volatile volatile own (ref t) = own
joined_volatile volatile own f = volatile || own

abbrev pub part_typ : Option Part → Typ
part_typ None = typ void false false
part_typ (Some p) = p.typ

abbrev pub starts_at : ℕ → Option Part → Bool
starts_at offset o = passes (λ (p : Part). p.offset == offset) o

-- the form of the value in a `std::tx_exception`, else the form itself
abbrev pub value_form : Form → Form
value_form (tx_ex (typ f c v)) = f
value_form f = f

abbrev pub form_to_zero : Typ → Form
form_to_zero t = value_form (form_in t)

-- the object's `volatile` is that of what it is part of, or its own
abbrev pub volatile_to_zero : Bool → Typ → Bool
volatile_to_zero volatile t = joined_volatile volatile (is_volatile_typ t) (form_to_zero t)

abbrev pub zero_scalar : Bool → Form → IntKind → Bool → Tree → Bool
zero_scalar volatile f k marked word = is_kind k (kind_in f) && flag_eq marked volatile && is_zero_of f word

abbrev pub class_in : Form → Option ℕ
class_in (class n) = Some n
class_in (closure n) = Some n
class_in f = None

abbrev pub element_in : Form → Typ
element_in (array e many) = e
element_in f = typ f false false

-- so many elements, each of this size
abbrev pub has_elements : List Class → (count stride : ℕ) → Form → Bool
has_elements classes count stride (array e many) = count == many && nat_lt 0 count && has_size classes e stride
has_elements classes count stride f = false

abbrev pub is_sized_class : List Class → Option ℕ → Bool
is_sized_class classes o = passes (λ (n : ℕ). is_some (sized_class classes n)) o

abbrev mutual
  pub zeroes : List Class → (volatile : Bool) → Typ → Tree → Bool
  zeroes classes volatile t (node Pieces u cat at kids) = is_statement_typ u cat && is_sized_class classes (class_in (form_to_zero t))
      && zero_parts classes (volatile_to_zero volatile t) (unwrap_or (class_in (form_to_zero t)) 0) 0 kids
  zeroes classes volatile t (node (Elements count stride) u cat at (more kid none)) =
      is_statement_typ u cat && has_elements classes count stride (form_to_zero t)
      && zeroes classes (volatile_to_zero volatile t) (element_in (form_to_zero t)) kid
  zeroes classes volatile t (node (Store k marked) u cat at (more word none)) = is_statement_typ u cat
      && zero_scalar (volatile_to_zero volatile t) (form_to_zero t) k marked word
  zeroes classes volatile t tree = false

  -- a piece for each part from one on
  pub zero_parts : List Class → (volatile : Bool) → (class i : ℕ) → Trees → Bool
  zero_parts classes volatile n i none = i == count_of_parts classes n
  zero_parts classes volatile n i (more t ts) = zero_part classes volatile (part_of classes n i) t && zero_parts classes volatile n (suc i) ts

  pub zero_part : List Class → (volatile : Bool) → Option Part → Tree → Bool
  zero_part classes volatile part (node (Piece offset) u cat at (more kid none)) = is_statement_typ u cat && starts_at offset part
      && zeroes classes volatile (part_typ part) kid
  zero_part classes volatile part tree = false

-- a declaration that no label may stand behind: one with an initialiser other than of zeros, or with a destruction (C++14 6.7/3)
abbrev pub skips : Tree → Bool
skips (node Init t cat at (more address (more init none))) = not (is_zero init)
skips (node Init t cat at kids) = true
skips tree = false

-- no label stands behind such a declaration; `skipping` says that one stands before these
abbrev pub labels_fit : Bool → Trees → Bool
labels_fit skipping none = true
labels_fit skipping (more t ts) = not (skipping && is_label (kind_of t)) && labels_fit (skipping || skips t) ts

abbrev pub is_switch : TKind → Bool
is_switch Switch = true
is_switch kind = false

-- Nodes

abbrev pub is_zero_role : Role → Bool
is_zero_role Zero = true
is_zero_role role = false

-- the address in the first kid is one of no type
abbrev pub no_object : List Head → Bool
no_object [] = false
no_object (h ∷ hs) = is_prvalue h.cat

abbrev pub kids_in : Role → TKind → Typ → List Head → Kids
kids_in role kind t hs = kids_for role kind (is_void t) (no_object hs)

-- a conditional without a type has operands without one, but as a statement
abbrev pub is_statement_role : Role → Bool
is_statement_role Statement = true
is_statement_role BlockItem = true
is_statement_role SwitchItem = true
is_statement_role role = false

abbrev pub has_no_typ : Head → Bool
has_no_typ h = is_throw h.kind || is_void h.typ

abbrev pub branches_fit : Role → TKind → Typ → List Head → Bool
branches_fit role Conditional t hs = is_statement_role role || not (is_void t) || list_all has_no_typ (drop 1 hs)
branches_fit role kind t hs = true

abbrev pub stands : Setting → Position → Role → TKind → Typ → Cat → List Head → Bool
stands s p role kind t cat hs = serves role kind && way_fits role kind t cat && may_stand s.function.kind p kind (length hs)
    && branches_fit role kind t hs && row_fits s kind t cat hs

abbrev pub enough : Kids → ℕ → Bool
enough kids many = nat_le (length kids.fixed) many

-- a block that destroys its parts only on an exception is no kid of a node
abbrev pub is_kid : TKind → Bool
is_kid (Block subobjects) = not subobjects
is_kid kind = true

abbrev mutual
  -- a tree fits where it serves in this role
  pub fits : Setting → Position → Role → Tree → Bool
  fits s p role (node kind t cat at kids) = stands s p role kind t cat (heads_of kids)
      && enough (kids_in role kind t (heads_of kids)) (length (heads_of kids))
      && (not (is_switch kind) || labels_fit false kids)
      && kids_fit s (inside kind p) (kids_in role kind t (heads_of kids)) 0 kids

  -- the kids from a place on
  pub kids_fit : Setting → Position → Kids → ℕ → Trees → Bool
  kids_fit s p kids i none = true
  kids_fit s p kids i (more t ts) = is_some (role_at kids i) && is_kid (kind_of t)
      && cond (is_zero_role (unwrap_or (role_at kids i) Value)) (zeroes s.classes false (result_of s.function) t)
      (fits s p (unwrap_or (role_at kids i) Value) t)
      && kids_fit s p kids (suc i) ts

-- Bodies of functions

-- a constructor's body destroys what it built only on an exception, and no other does
abbrev pub is_body_of : FuncKind → TKind → Bool
is_body_of f (Block subobjects) = flag_eq subobjects (is_constructor f)
is_body_of f kind = false

abbrev pub is_return : TKind → Bool
is_return Return = true
is_return kind = false

abbrev pub last_is_return : Bool → Trees → Bool
last_is_return last none = last
last_is_return last (more t ts) = last_is_return (is_return (kind_of t)) ts

-- a body whose function has a result ends in `return`
abbrev pub ends_well : Typ → Tree → Bool
ends_well result body = is_void result || last_is_return false (kids_of body)

-- the words of a call are the first items of the frame: a pointer where the result is a class, a pointer for the object, and each parameter, one of
-- class type as a pointer
abbrev pub result_items : Typ → List Typ
result_items t = cond (is_class_typ t) (typ (ptr t) false false ∷ []) []

abbrev pub is_object_item : ℕ → Typ → Bool
is_object_item n (typ (ptr t) c v) = is_class n (form_in t)
is_object_item n t = false

abbrev pub param_item : Param → Typ
param_item p = cond (is_class_typ p.typ) (typ (ptr p.typ) false false) p.typ

-- the items from a list of frame items on
abbrev pub begin_with : List Typ → List Typ → Bool
begin_with [] items = true
begin_with (t ∷ ts) [] = false
begin_with (t ∷ ts) (item ∷ items) = typ_eq t item && begin_with ts items

abbrev pub object_and_params : Option ℕ → List Typ → List Typ → Bool
object_and_params None params items = begin_with params items
object_and_params (Some n) params [] = false
object_and_params (Some n) params (item ∷ items) = is_object_item n item && begin_with params items

abbrev pub words_begin : Func → Bool
words_begin f = begin_with (result_items (result_of f)) f.frame
    && object_and_params f.class (map param_item f.params) (drop (length (result_items (result_of f))) f.frame)

abbrev pub count_of_words : Func → ℕ
count_of_words f = length (result_items (result_of f)) + length (words_of f)

abbrev pub words_fit : Func → Bool
words_fit f = f.words == count_of_words f && count_of_words f == length (result_items (result_of f)) + length (object_words f.class) + length f.params
    && words_begin f

-- Places of the frame

-- an item whose size is known: the class that it holds, if it holds one, is complete
abbrev pub is_item : List Class → Typ → Bool
is_item classes t = holds_complete classes (form_in t)

abbrev pub local_place : TKind → List ℕ
local_place (Local place) = place ∷ []
local_place kind = []

-- the place of what the node makes: a variable, a temporary, an argument object, or what a handler has
abbrev pub place_of : TKind → Trees → List ℕ
place_of Init (more address others) = local_place (kind_of address)
place_of (Materialize place argument) kids = place ∷ []
place_of (Handler (Some place)) kids = place ∷ []
place_of kind kids = []

abbrev mutual
  pub places_of : Tree → List ℕ
  places_of (node kind t cat at kids) = place_of kind kids ++ all_places kids

  pub all_places : Trees → List ℕ
  all_places none = []
  all_places (more t ts) = places_of t ++ all_places ts

abbrev pub is_free_place : Func → ℕ → Bool
is_free_place f place = nat_le f.words place && nat_lt place (length f.frame)

-- how often a number stands in a list
abbrev pub times : ℕ → List ℕ → ℕ
times n ns = count_by (λ (m : ℕ). nat_eq m n) ns

-- A body of a function: its nodes fit; it is the block that its function asks for and ends as that does; the items of its frame have sizes; the
-- words of a call are the first of them, and what is made in the body has the others, each its own
pub record WellFormedBody (s : Setting) (body : Tree) : Type 0 where
  pub nodes : fits s outermost Statement body ≡ true
  pub block : is_body_of s.function.kind (kind_of body) ≡ true
  pub end : ends_well (result_of s.function) body ≡ true
  pub words : words_fit s.function ≡ true
  pub items : list_all (is_item s.classes) s.function.frame ≡ true
  pub within : list_all (is_free_place s.function) (places_of body) ≡ true
  pub once : (place : ℕ) → times place (places_of body) ≤ 1

-- the same as a test, for bodies that are written by hand
abbrev pub are_distinct : List ℕ → Bool
are_distinct [] = true
are_distinct (n ∷ ns) = times n ns == 0 && are_distinct ns

abbrev pub body_fits : Setting → Tree → Bool
body_fits s body = fits s outermost Statement body && is_body_of s.function.kind (kind_of body) && ends_well (result_of s.function) body
    && words_fit s.function && list_all (is_item s.classes) s.function.frame && list_all (is_free_place s.function) (places_of body)
    && are_distinct (places_of body)

abbrev pub setting_of : Program → UnitTree → TFunc → Setting
setting_of p u f = record {
  classes = classes_of p.classes.items;
  slots = map (λ slots. map slot_of slots.items) p.slots.items;
  funcs = map
      (func_of (trees_of u.nodes.items)) u.funcs.items;
  globals = map global_of u.globals.items;
  function = func_of (trees_of u.nodes.items) f;
}

-- how often a node is the body of a function
abbrev pub is_root : ℕ → TFunc → Bool
is_root id f = passes (λ (root : TNodeId). nat_eq root.0 id) f.body

abbrev pub times_a_body : ℕ → List TFunc → ℕ
times_a_body id funcs = count_by (is_root id) funcs

pub record HasBody (p : Program) (u : UnitTree) (f : TFunc) (root : TNodeId) : Type 0 where
  pub within : root.0 < length u.nodes.items
  pub well_formed : WellFormedBody (setting_of p u f) (tree_at (trees_of u.nodes.items) root)

-- A unit: kids have lower ids, a node is a kid at most once and the body of at most one function, and each body is well-formed
pub record WellFormedUnit (p : Program) (u : UnitTree) : Type 0 where
  pub ordered : IsOrdered u.nodes.items
  pub forest : IsForest u.nodes.items
  pub roots : (id : ℕ) → times_a_body id u.funcs.items ≤ 1
  pub bodies : (i : ℕ) (f : TFunc) (root : TNodeId) → slice_get u.funcs.items i ≡ Some f → f.body ≡ Some root → HasBody p u f root

-- A program: its classes are in order, and its units are well-formed
pub record WellFormed (p : Program) : Type 0 where
  pub classes : InOrder (classes_of p.classes.items)
  pub units : (i : ℕ) (u : UnitTree) → slice_get p.units.items i ≡ Some u → WellFormedUnit p u
