-- What each node asks of its own numbers, type and category and of its kids' kinds, types and categories.
use Rattle.std.specs.Prelude.{ℕ, ◌==◌, nat_lt, Bool, true, false, not, ◌&&◌, ◌||◌, List, [], ◌∷◌, ◌++◌, length, drop, slice_get, Option, Some, None, is_some}
use Rattle.std.specs.Prelude.{cond}
use Rattle.std.specs.List.{list_all}
use Rattle.tx_ints.specs.declared.kinds.IntKind.{IntKind}
use Rattle.tx_ints.specs.declared.kinds.IntKind.TheVariants.{Int, Long, ULong}
use Rattle.tx_ints.specs.declared.kinds.BinOp.{BinOp}
use Rattle.tx_ints.specs.declared.kinds.BinOp.TheVariants.{Add, Lt, Gt, Le, Ge, Eq, Ne}
use Rattle.tx_ints.specs.Integers.{is_shift}
use Rattle.cpp_layout.specs.cpp_types.Typ.{Typ, typ, Form, void, int, ptr, ref, func, Signature, signature, Typs, none, more}
use Rattle.cpp_layout.specs.cpp_types.Class.{Class, Function}
use Rattle.cpp_layout.specs.cpp_types.Conversion.{is_lvalue}
use Rattle.cpp_layout.specs.cpp_types.Trivial.{takes_itself}
use Rattle.cpp_layout.specs.cpp_types.Equal.{name_eq, flag_eq, kind_eq, typ_eq, form_eq}
use Rattle.cpp_layout.specs.cpp_types.declared.ranks.Cat.{Cat}
use Rattle.cpp_layout.specs.cpp_types.declared.ranks.Cat.TheVariants.{Lvalue, Prvalue}
use Rattle.cpp_tree.specs.declared.kinds.Builtin.{Builtin}
use Rattle.cpp_tree.specs.declared.kinds.Builtin.TheVariants.{PutChar, GetChar, Spawn, Join, Abort}
use Rattle.cpp_tree.specs.declared.kinds.TKind.{TKind}
use Rattle.cpp_tree.specs.declared.kinds.TKind.TheVariants.{Literal, Local, Global, Function as FunctionAddress, ClassTable, Load, Convert, Retype, Binary}
use Rattle.cpp_tree.specs.declared.kinds.TKind.TheVariants.{Conditional, Comma, Assign, Update, CopyAssign, Materialize, FullExpression, Call, VirtualCall}
use Rattle.cpp_tree.specs.declared.kinds.TKind.TheVariants.{PointerCall, Builtin as CallBuiltin, Throw, Rethrow, Store, CopyScalar, Construct, CopyConstruct}
use Rattle.cpp_tree.specs.declared.kinds.TKind.TheVariants.{CopyFrom, Pieces, Piece, Elements, Block, Init, Defer, Loop, Switch, Case, Default, Break, Continue}
use Rattle.cpp_tree.specs.declared.kinds.TKind.TheVariants.{Return, Try, Handler, Atomic, Synchronized, Destroy, Field}
use Rattle.cpp_tree.specs.declared.program.FuncKind.{FuncKind}
use Rattle.cpp_tree.specs.declared.program.FuncKind.TheVariants.{Plain, Constructor, Destructor}
use Rattle.cpp_tree.specs.Units.{Func, Global as GlobalRecord, SlotFunc}
use Rattle.cpp_tree.specs.Typing.{Head, passes, form_in, is_volatile_typ, unqualified, is_void, is_class_typ, is_reference, is_class, without_exception}
use Rattle.cpp_tree.specs.Typing.{same_shape, kind_in, same_kind, scalar_of, is_scalar_value, word_kind, gives, is_promoted, gives_promoted, is_word_of}
use Rattle.cpp_tree.specs.Typing.{is_prvalue, is_statement_typ, is_bool, is_lvalue_of, is_prvalue_of, initialises, builds, is_result, Word, object, passed}
use Rattle.cpp_tree.specs.Typing.{are_words}
use Rattle.cpp_tree.specs.Parts.{has_pointer_at, are_pieces, are_elements, are_destroyed, are_scalars}
use Rattle.cpp_tree.specs.Roles.{is_throw}

-- what a node's numbers are indexes into: the classes and slots of the program, the functions and globals of the unit, and the frame of the function
pub record Setting : Type 0 where
  pub classes : List Class
  pub slots : List (List SlotFunc)
  pub funcs : List Func
  pub globals : List GlobalRecord
  pub function : Func

-- Functions

abbrev pub is_constructor : FuncKind → Bool
is_constructor Constructor = true
is_constructor kind = false

abbrev pub is_destructor : FuncKind → Bool
is_destructor Destructor = true
is_destructor kind = false

abbrev pub is_special : FuncKind → Bool
is_special kind = is_constructor kind || is_destructor kind

-- constructors and destructors have none
abbrev pub result_in : FuncKind → Signature → Typ
result_in kind (signature ps r safe) = cond (is_special kind) (typ void false false) r

abbrev pub result_of : Func → Typ
result_of f = result_in f.kind f.declared.signature

-- what a call passes: the object of a member function, and the parameters
abbrev pub object_words : Option ℕ → List Word
object_words None = []
object_words (Some n) = object n ∷ []

abbrev pub param_words : Typs → List Word
param_words none = []
param_words (more t ts) = passed t ∷ param_words ts

abbrev pub signature_words : Option ℕ → Signature → List Word
signature_words class (signature ps r safe) = object_words class ++ param_words ps

abbrev pub words_of : Func → List Word
words_of f = signature_words f.class f.declared.signature

abbrev pub called_in : Form → Option Signature
called_in (ptr (typ (func s) c v)) = Some s
called_in f = None

abbrev pub is_member_of : ℕ → Option ℕ → Bool
is_member_of n class = passes (λ (k : ℕ). k == n) class

-- Slots

-- the slot has the function itself: it is the final overrider of its own class
abbrev pub is_slot_of : ℕ → Function → SlotFunc → Bool
is_slot_of n f slot = slot.class == n && name_eq slot.name f.name && form_eq (func slot.signature) (func f.signature)

abbrev pub has_slot : List (List SlotFunc) → ℕ → ℕ → Function → Bool
has_slot slots n slot f = passes (λ (list : List SlotFunc). passes (is_slot_of n f) (slice_get list slot)) (slice_get slots n)

abbrev pub is_virtual_call : Setting → ℕ → ℕ → Typ → Cat → Func → Bool
is_virtual_call s n slot t cat f = is_member_of n f.class && f.declared.is_virtual && has_slot s.slots n slot f.declared && is_result (result_of f) t cat

-- Rows

abbrev pub at_place : List Typ → ℕ → Typ → Bool
at_place frame place t = passes (typ_eq t) (slice_get frame place)

-- a scalar of this kind and mark
abbrev pub is_access : IntKind → Bool → Typ → Bool
is_access k volatile t = scalar_of k t && flag_eq volatile (is_volatile_typ t)

-- the object in which a scalar lies: a `std::tx_exception` is read as the value in it
abbrev pub is_read : IntKind → Bool → Typ → Head → Bool
is_read k volatile t h = is_lvalue h.cat && form_eq (form_in (without_exception h.typ)) (form_in t) && is_access k volatile (without_exception h.typ)

-- an address that a slot holds: that of a reference, or the pointer of a class parameter, of a result or of an object under construction
abbrev pub is_slot : Typ → Typ → Bool
is_slot t (typ (ref r) c v) = typ_eq t r
is_slot t (typ (ptr p) c v) = is_class_typ t && is_class_typ p
is_slot t u = false

abbrev pub is_first_place : TKind → Bool
is_first_place (Local place) = place == 0
is_first_place kind = false

-- the address of a class result, as a place of no type
abbrev pub is_result_address : Typ → Head → Bool
is_result_address result h = is_class_typ result && is_first_place h.kind

abbrev pub is_load : Typ → IntKind → Bool → Typ → Cat → Head → Bool
is_load result k volatile t Prvalue h = (is_scalar_value t && is_read k volatile t h) || (kind_eq k ULong && not volatile
    && typ_eq t (typ void false false) && is_result_address result h)
is_load result k volatile t Lvalue h = kind_eq k ULong && not volatile && is_lvalue h.cat && is_slot t h.typ

abbrev pub is_zero_literal : TKind → Bool
is_zero_literal (Literal w) = w == 0
is_zero_literal kind = false

-- the same word: as a value of another kind only the literal 0, a null constant
abbrev pub is_retyped : Typ → Cat → Head → Bool
is_retyped (typ void c v) Prvalue h = typ_eq (typ void c v) (typ void false false)
is_retyped t cat h = same_kind (word_kind t cat) (word_kind h.typ h.cat) || (is_zero_literal h.kind && is_some (word_kind t cat))

abbrev pub is_comparison : BinOp → Bool
is_comparison Lt = true
is_comparison Gt = true
is_comparison Le = true
is_comparison Ge = true
is_comparison Eq = true
is_comparison Ne = true
is_comparison op = false

abbrev pub is_add : BinOp → Bool
is_add Add = true
is_add op = false

abbrev pub is_loaded : TKind → Bool
is_loaded (Load k volatile) = true
is_loaded kind = false

abbrev pub is_literal : TKind → Bool
is_literal (Literal w) = true
is_literal kind = false

-- the count of a shift has its own promoted kind
abbrev pub is_right : BinOp → IntKind → Head → Bool
is_right op k h = cond (is_shift op) (gives_promoted (word_kind h.typ h.cat)) (gives k h)

abbrev pub is_binary : BinOp → IntKind → Typ → Cat → Head → Head → Bool
is_binary op k t Lvalue a b = is_add op && kind_eq k ULong && gives ULong a && gives ULong b && is_literal b.kind
is_binary op k t Prvalue a b = is_promoted k && gives k a && is_right op k b
    && cond (is_comparison op) (is_bool (record { kind = a.kind; typ = t; cat = Prvalue })) (is_scalar_value t && scalar_of k t)

abbrev pub is_branch : Typ → Cat → Head → Bool
is_branch t Lvalue h = is_throw h.kind || is_lvalue_of t h
is_branch t Prvalue h = is_throw h.kind || is_void t || is_prvalue_of t h

abbrev pub same_value : Typ → Cat → Head → Bool
same_value t Lvalue h = is_lvalue_of t h
same_value t Prvalue h = is_prvalue_of t h

abbrev pub is_updated : Bool → Typ → Cat → Head → Bool
is_updated true t cat h = is_prvalue cat && typ_eq t (unqualified h.typ)
is_updated false t cat h = is_lvalue cat && typ_eq t h.typ

abbrev pub is_update : BinOp → IntKind → IntKind → Bool → Bool → Typ → Cat → Head → Head → Bool
is_update op stored operation volatile old t cat a r = is_lvalue a.cat && is_access stored volatile a.typ && is_promoted operation
    && is_right op operation r && is_updated old t cat a

abbrev pub is_copied_from : Typ → Head → Bool
is_copied_from t h = is_lvalue h.cat && (same_shape t h.typ || same_shape t (without_exception h.typ))

abbrev pub is_destruction : Setting → Typ → TKind → Bool
is_destruction s t (Destroy f offset count stride) = passes (λ (g : Func). is_destructor g.kind
    && passes (λ (n : ℕ). are_destroyed s.classes (record { class = n; count = count; stride = stride }) offset t) g.class) (slice_get s.funcs f)
is_destruction s t kind = false

abbrev pub destroyed_at : TKind → ℕ
destroyed_at (Destroy f offset count stride) = offset
destroyed_at kind = 0

-- what lies further on is destroyed first, and nothing twice
abbrev pub fall_from : ℕ → List Head → Bool
fall_from limit [] = true
fall_from limit (h ∷ hs) = nat_lt (destroyed_at h.kind) limit && fall_from (destroyed_at h.kind) hs

abbrev pub offsets_fall : List Head → Bool
offsets_fall [] = true
offsets_fall (h ∷ hs) = fall_from (destroyed_at h.kind) hs

-- the destructions of an object of this type
abbrev pub are_destructions : Setting → Typ → List Head → Bool
are_destructions s t hs = list_all (λ (h : Head). is_destruction s t h.kind) hs && offsets_fall hs

abbrev pub builtin_result : Builtin → Form
builtin_result PutChar = int Int
builtin_result GetChar = int Int
builtin_result Spawn = int Int
builtin_result Join = void
builtin_result Abort = void

abbrev pub builtin_words : Builtin → List Word
builtin_words PutChar = passed (typ (int Int) false false) ∷ []
builtin_words GetChar = []
builtin_words Spawn = passed (typ (ptr (typ (func (signature (more (typ (int Long) false false) none) (typ void false false) false)) false false)) false false)
    ∷ passed (typ (int Long) false false) ∷ []
builtin_words Join = passed (typ (int Int) false false) ∷ []
builtin_words Abort = []

abbrev pub is_constructor_of : Typ → FuncKind → Option ℕ → Bool
is_constructor_of t kind class = is_constructor kind && passes (λ (n : ℕ). is_class n (form_in t)) class

-- what is thrown: an object of class type, or a scalar (C++14 15.1)
abbrev pub is_thrown : Typ → Head → Bool
is_thrown t h = cond (is_class_typ t) (is_lvalue h.cat && form_eq (form_in t) (form_in h.typ)) (is_scalar_value t && is_prvalue_of t h)

-- a handler's exception: what the slot of its frame has, and the scalars that go there; none where it has no name
abbrev pub referred : Typ → Typ
referred (typ (ref t) c v) = t
referred t = t

abbrev pub is_handler_of : List Class → List Typ → Option ℕ → Typ → List Head → Bool
is_handler_of classes frame None t hs = length hs == 0
is_handler_of classes frame (Some place) t hs = at_place frame place (referred t) && are_scalars classes (referred t) hs

-- the values of a switch's labels are of the kind of its value
abbrev pub is_case_of : Option IntKind → TKind → Bool
is_case_of o (Case w) = passes (λ (k : IntKind). is_promoted k && is_word_of k w) o
is_case_of o kind = true

abbrev pub are_cases : Option IntKind → List Head → Bool
are_cases o hs = list_all (λ (h : Head). is_case_of o h.kind) hs

-- `return` has a value exactly where the result is neither void nor a class; a body that ends without one gives 0
abbrev pub is_returned : Typ → Head → Bool
is_returned t h = initialises t h || (is_reference t && is_zero_literal h.kind && is_prvalue_of (typ (int ULong) false false) h)

abbrev pub has_value : Typ → Bool
has_value t = not (is_void t) && not (is_class_typ t)

abbrev pub is_return : Typ → List Head → Bool
is_return t [] = not (has_value t)
is_return t (h ∷ []) = has_value t && is_returned t h
is_return t hs = false

-- the kid in a place passes
abbrev pub kid : ℕ → (Head → Bool) → List Head → Bool
kid i test hs = passes test (slice_get hs i)

abbrev pub two_kids : (Head → Head → Bool) → List Head → Bool
two_kids test hs = kid 0 (λ a. kid 1 (λ b. test a b) hs) hs

-- a node of this kind, type and category fits kids with these heads
abbrev pub row_fits : Setting → TKind → Typ → Cat → List Head → Bool
row_fits s (Literal w) t cat hs = is_prvalue cat && is_scalar_value t && passes (λ (k : IntKind). is_word_of k w) (kind_in (form_in t))
row_fits s (Local place) t cat hs = is_lvalue cat && at_place s.function.frame place t
row_fits s (Global g) t cat hs = is_lvalue cat && passes (λ (found : GlobalRecord). typ_eq t found.typ) (slice_get s.globals g)
row_fits s (FunctionAddress f) t cat hs = is_lvalue cat && passes (λ (g : Func). typ_eq t (typ (func g.declared.signature) false false)) (slice_get s.funcs f)
row_fits s (ClassTable n) t cat hs = is_prvalue cat && typ_eq t (typ (int ULong) false false) && nat_lt n (length s.classes)
row_fits s (Load k volatile) t cat hs = kid 0 (is_load (result_of s.function) k volatile t cat) hs
row_fits s (Convert k) t cat hs = is_prvalue cat && is_scalar_value t && scalar_of k t && kid 0 (λ h. is_prvalue h.cat
    && is_some (kind_in (form_in h.typ))) hs
row_fits s Retype t cat hs = kid 0 (is_retyped t cat) hs
row_fits s (Binary op k) t cat hs = two_kids (is_binary op k t cat) hs
row_fits s Conditional t cat hs = kid 0 is_bool hs && kid 1 (is_branch t cat) hs && kid 2 (is_branch t cat) hs
row_fits s Comma t cat hs = kid 1 (same_value t cat) hs
row_fits s (Assign k volatile) t cat hs = is_lvalue cat && is_access k volatile t && kid 0 (is_lvalue_of t) hs && kid 1 (is_prvalue_of (unqualified t)) hs
row_fits s (Update op stored operation volatile old) t cat hs = two_kids (is_update op stored operation volatile old t cat) hs
row_fits s CopyAssign t cat hs = is_lvalue cat && is_class_typ t && kid 0 (is_lvalue_of t) hs && kid 1 (λ h. is_lvalue h.cat
    && form_eq (form_in t) (form_in h.typ)) hs && kid 2 (builds t) hs
row_fits s (Materialize place argument) t cat hs = is_lvalue cat && at_place s.function.frame place t && kid 0 (builds t) hs
    && are_destructions s t (drop 1 hs)
row_fits s FullExpression t cat hs = kid 0 (same_value t cat) hs
row_fits s (Call f) t cat hs = passes (λ (g : Func). not (is_special g.kind) && is_result (result_of g) t cat
    && are_words (words_of g) hs) (slice_get s.funcs f)
row_fits s (VirtualCall f n slot pointer) t cat hs = passes (λ (g : Func). is_virtual_call s n slot t cat g
    && are_words (words_of g) hs) (slice_get s.funcs f) && has_pointer_at s.classes pointer n
row_fits s PointerCall t cat hs = kid 0 (λ h. is_prvalue h.cat && passes (λ (g : Signature). is_result (result_in Plain g) t cat
    && are_words (signature_words None g) (drop 1 hs)) (called_in (form_in h.typ))) hs
row_fits s (CallBuiltin b) t cat hs = is_prvalue cat && typ_eq t (typ (builtin_result b) false false) && are_words (builtin_words b) hs
row_fits s Throw t cat hs = is_prvalue cat && typ_eq t (unqualified t) && kid 0 (is_thrown t) hs && are_scalars s.classes t (drop 1 hs)
row_fits s Rethrow t cat hs = is_statement_typ t cat
row_fits s (Store k volatile) t cat hs = is_prvalue cat && is_access k volatile t && kid 0 (initialises t) hs
row_fits s (CopyScalar k volatile) t cat hs = is_prvalue cat && is_access k volatile t
row_fits s (Construct f) t cat hs = is_prvalue cat && passes (λ (g : Func). is_constructor_of t g.kind g.class
    && are_words (signature_words None g.declared.signature) hs) (slice_get s.funcs f)
row_fits s (CopyConstruct f) t cat hs = is_prvalue cat && passes (λ (g : Func). is_constructor g.kind && passes (λ (n : ℕ). is_class n (form_in t)
    && takes_itself n g.declared.signature) g.class) (slice_get s.funcs f)
row_fits s CopyFrom t cat hs = is_prvalue cat && kid 0 (is_copied_from t) hs && kid 1 (builds t) hs
row_fits s Pieces t cat hs = is_prvalue cat && are_pieces s.classes t hs
row_fits s (Piece offset) t cat hs = is_prvalue cat && kid 0 (builds t) hs && are_destructions s t (drop 1 hs)
row_fits s (Elements count stride) t cat hs = is_prvalue cat && nat_lt 0 count && kid 0 (λ h. are_elements s.classes count stride 1 t h
    && are_destructions s h.typ (drop 1 hs)) hs
row_fits s (Block subobjects) t cat hs = is_statement_typ t cat
row_fits s Init t cat hs = is_statement_typ t cat && two_kids (λ address init. is_lvalue address.cat && builds address.typ init
    && are_destructions s address.typ (drop 2 hs) || is_prvalue address.cat && is_void address.typ && is_loaded address.kind && length hs == 2) hs
row_fits s Defer t cat hs = is_statement_typ t cat && kid 0 (λ h. is_lvalue h.cat && are_destructions s h.typ (drop 1 hs)) hs
row_fits s (Loop test_first) t cat hs = is_statement_typ t cat && kid 0 is_bool hs
row_fits s Switch t cat hs = is_statement_typ t cat && kid 0 (λ h. is_prvalue h.cat && gives_promoted (kind_in (form_in h.typ))
    && are_cases (kind_in (form_in h.typ)) (drop 1 hs)) hs
row_fits s (Case w) t cat hs = is_statement_typ t cat
row_fits s Default t cat hs = is_statement_typ t cat
row_fits s Break t cat hs = is_statement_typ t cat
row_fits s Continue t cat hs = is_statement_typ t cat
row_fits s Return t cat hs = is_statement_typ t cat && is_return (result_of s.function) hs
row_fits s Try t cat hs = is_statement_typ t cat
row_fits s (Handler place) t cat hs = is_prvalue cat && is_handler_of s.classes s.function.frame place t (drop 1 hs)
row_fits s (Atomic kind) t cat hs = is_statement_typ t cat
row_fits s Synchronized t cat hs = is_statement_typ t cat
row_fits s (Destroy f offset count stride) t cat hs = is_statement_typ t cat
row_fits s (Field offset k) t cat hs = is_statement_typ t cat
