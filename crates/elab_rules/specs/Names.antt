-- Names, members and `this` (C++14 3.4, 5.1.1, 5.2.5, 10.2).
use Rattle.std.specs.Prelude.{ℕ, suc, ◌==◌, nat_lt, Bool, true, false, not, ◌&&◌, List, [], ◌∷◌, Option, Some, None, is_some, Result, Ok}
use Rattle.std.specs.Prelude.{Err, if◌then◌else◌, slice_get, unwrap_or, codes}
use Rattle.std.specs.Str.{bytes_eq}
use Rattle.elab_ctx.specs.tx_ints.declared.kinds.IntKind.TheVariants.{ULong}
use Rattle.elab_ctx.specs.cpp_types.Typ.{Typ, typ, Form, void, ptr, ref, func, tx_ex}
use Rattle.elab_ctx.specs.cpp_types.Class.{Class, Member, completion_of}
use Rattle.elab_ctx.specs.cpp_types.Conversion.{bases}
use Rattle.elab_ctx.specs.cpp_types.declared.classes.At.{At}
use Rattle.elab_ctx.specs.cpp_types.declared.ranks.Cat.TheVariants.{Lvalue, Prvalue}
use Rattle.elab_ctx.specs.cpp_names.Names.{found_in}
use Rattle.elab_ctx.specs.cpp_names.declared.entity.Entity.{Entity}
use Rattle.elab_ctx.specs.cpp_names.declared.entity.EntityKind.{EntityKind}
use Rattle.elab_ctx.specs.cpp_names.declared.entity.EntityKind.TheVariants as entities
use Rattle.elab_ctx.specs.cpp_tree.declared.kinds.TKind.TheVariants.{Literal, Local, Global as GlobalNode, Function, Load, Default, Builtin}
use Rattle.elab_ctx.specs.cpp_tree.declared.program.FuncKind.{FuncKind}
use Rattle.elab_ctx.specs.cpp_tree.declared.program.FuncKind.TheVariants.{Plain}
use Rattle.elab_ctx.specs.cpp_tree.declared.faults.ElabFault.{ElabFault}
use Rattle.elab_ctx.specs.cpp_tree.declared.faults.ElabFault.TheVariants.{Ill}
use Rattle.elab_ctx.specs.cpp_tree.declared.faults.IllRule.TheVariants.{UnknownName, BadInit, Capture as CaptureRule, OutOfProfile, BadOperand, Incomplete}
use Rattle.elab_ctx.specs.cpp_tree.declared.faults.IllRule.TheVariants.{NoMember, Ambiguous}
use Rattle.elab_ctx.specs.cpp_tree.Trees.{Tree, node, Trees, none, one, typ_in}
use Rattle.elab_ctx.specs.cpp_tree.Units.{Global}
use Rattle.elab_ctx.specs.cpp_tree.Notation.{plain}
use Rattle.elab_ctx.specs.cpp_tree.Typing.{form_in, qualified, is_class_typ}
use Rattle.elab_ctx.specs.cpp_layout.Measured.{member_offset}
use Rattle.elab_ctx.specs.Ctx.{Ctx, Work, Func, Variable, This, Capture, Lambda}
use Rattle.elab_ctx.specs.Steps.{and_then, expect, check, Operand, Made}
use Rattle.elab_rules.specs.Values.{retyped, part_at, valued}
use Rattle.elab_rules.specs.Initialising.{func_at, places_from, same_number, class_number, object_of}

-- What is looked up and not yet chosen. An expression that names functions is a `Function` of type `void`, with its object where they are members; the
-- functions are those
-- of that name in the class or at file scope. `get` of a `std::tx_exception` is a `Default` with its object, and `std::abort` a `Builtin`. No typed program has
-- these.

abbrev pub functions : ℕ → At → Trees → Tree
functions k at object = node (Function k) (plain void) Lvalue at object

-- Variables

-- an address that a slot holds: the slot has the type of its item of the frame
abbrev pub held_by : Typ → Typ → At → ℕ → Tree
held_by t item at place = node (Load ULong false) t Lvalue at (one (node (Local place) item Lvalue at none))

abbrev pub is_pointer : Typ → Bool
is_pointer (typ (ptr u) d w) = true
is_pointer t = false

abbrev pub variable_tree : At → ℕ → Typ → Typ → Tree
variable_tree at place item (typ (ref t) c v) = held_by t (typ (ref t) c v) at place
variable_tree at place item t = if is_class_typ t && is_pointer item then held_by t item at place else node (Local place) t Lvalue at none

abbrev pub item_at : Work → ℕ → Typ → Typ
item_at w place t = unwrap_or (slice_get w.frame place) t

-- `this`

abbrev pub this_pointer : At → This → Tree
this_pointer at t = node (Load ULong false) (plain (ptr t.typ)) Prvalue at (one (node (Local t.place) (plain (ptr t.typ)) Lvalue at none))

abbrev pub same_variable : Option ℕ → Option ℕ → Bool
same_variable (Some m) (Some n) = m == n
same_variable None None = true
same_variable _ _ = false

-- a capture and its index among the members of the lambda's class
pub record Captured : Type 0 where
  pub index : ℕ
  pub capture : Capture

abbrev pub captured_from : ℕ → Option ℕ → List Capture → Option Captured
captured_from i variable [] = None
captured_from i variable (x ∷ xs) = if same_variable variable x.variable then Some (record { index = i; capture = x }) else captured_from (suc i) variable xs

abbrev pub offset_of_member : List Class → ℕ → Option Class → ℕ → Option Member → ℕ
offset_of_member classes n (Some c) i (Some m) = member_offset classes n c i m
offset_of_member classes n _ i _ = 0

abbrev pub members_in : Option Class → List Member
members_in (Some c) = c.members
members_in None = []

-- where a member of a class lies
abbrev pub offset_at : List Class → ℕ → ℕ → ℕ
offset_at classes n i = offset_of_member classes n (slice_get classes n) i (slice_get (members_in (slice_get classes n)) i)

abbrev pub is_const_typ : Typ → Bool
is_const_typ (typ f c v) = c

abbrev pub captured_place : Ctx → At → This → Lambda → ℕ → Typ → Tree
captured_place c at t l i u = part_at (offset_at c.classes l.class i) u at (this_pointer at t)

abbrev pub in_capture : Ctx → At → This → Lambda → ℕ → Typ → Tree
in_capture c at t l i (typ (ref u) d v) = node (Load ULong false) u Lvalue at (one (captured_place c at t l i (typ (ref u) d v)))
in_capture c at t l i u = captured_place c at t l i (qualified (is_const_typ t.typ) false u)

-- a captured variable, in the object of the lambda
abbrev pub captured_tree : Ctx → At → This → Lambda → Captured → Tree
captured_tree c at t l x = in_capture c at t l x.index x.capture.typ

-- the lambda around, if any, and the object at hand
abbrev pub captured_variable : Ctx → At → ℕ → Lambda → Result Tree ElabFault
captured_variable c at i l = and_then (expect at CaptureRule (captured_from 0 (Some i) l.captures))
    (λ (x : Captured). and_then (expect at UnknownName c.this) (λ (t : This). Ok (captured_tree c at t l x)))

abbrev pub is_outer : ℕ → Option Lambda → Option Lambda
is_outer i (Some l) = if nat_lt i l.outer then Some l else None
is_outer i None = None

abbrev pub own_variable : Work → At → Variable → Result Tree ElabFault
own_variable w at v = and_then (expect at BadInit v.typ) (λ (t : Typ). Ok (variable_tree at v.place (item_at w v.place t) t))

abbrev pub variable_in : Ctx → Work → At → ℕ → Option Lambda → Result Tree ElabFault
variable_in c w at i (Some l) = captured_variable c at i l
variable_in c w at i None = and_then (expect at UnknownName (slice_get c.variables i)) (λ (v : Variable). own_variable w at v)

-- the pointer `this` (C++14 9.3.2), captured where a lambda is around
abbrev pub this_in : Ctx → At → Option Lambda → Result Tree ElabFault
this_in c at None = and_then (expect at UnknownName c.this) (λ (t : This). Ok (this_pointer at t))
this_in c at (Some l) = and_then (expect at CaptureRule (captured_from 0 None l.captures))
    (λ (x : Captured). and_then (expect at UnknownName c.this) (λ (t : This). Ok (valued at (captured_tree c at t l x))))

abbrev pub this_tree : Ctx → At → Result Tree ElabFault
this_tree c at = this_in c at c.lambda

-- Members (C++14 10.2): the class itself first, then its base; a name hides those of the base

-- a data member of a class by its index, or the first of the functions of a name
pub data Found : Type 0 where
  field : ℕ → ℕ → Typ → Found
  methods : ℕ → Found

abbrev pub field_from : ℕ → ℕ → List ℕ → List Member → Option Found
field_from n i name [] = None
field_from n i name (m ∷ ms) = if bytes_eq m.name name then Some (field n i m.typ) else field_from n (suc i) name ms

abbrev pub is_plain_kind : FuncKind → Bool
is_plain_kind Plain = true
is_plain_kind kind = false

-- a member function of this name, no special member
abbrev pub is_method : ℕ → List ℕ → Func → Bool
is_method n name f = bytes_eq f.declared.name name && same_number n f.class && is_plain_kind f.kind

abbrev pub is_free : List ℕ → Func → Bool
is_free name f = bytes_eq f.declared.name name && not (is_some f.class)

abbrev pub first_place : List ℕ → Option Found
first_place [] = None
first_place (k ∷ ks) = Some (methods k)

abbrev pub or_else : {A : Type 0} → Option A → Option A → Option A
or_else (Some a) b = Some a
or_else None b = b

abbrev pub own_member : Ctx → List ℕ → ℕ → Option Found
own_member c name n = or_else (field_from n 0 name (members_in (slice_get c.classes n))) (first_place (places_from (is_method n name) 0 c.funcs))

abbrev pub found_along : Ctx → List ℕ → List ℕ → Option Found
found_along c name [] = None
found_along c name (n ∷ ns) = or_else (own_member c name n) (found_along c name ns)

abbrev pub member_found : Ctx → List ℕ → ℕ → Option Found
member_found c name n = found_along c name (n ∷ bases c.classes n)

abbrev pub is_volatile_object : Typ → Bool
is_volatile_object (typ f c v) = v

-- the member of an object: the qualifiers of the object are those of the member too
abbrev pub member_of : Ctx → At → Tree → Found → Tree
member_of c at object (field n i t) = part_at (offset_at c.classes n i)
    (qualified (is_const_typ (typ_in object)) (is_volatile_object (typ_in object)) t) at object
member_of c at object (methods k) = functions k at (one object)

abbrev pub is_tx_exception : Typ → Bool
is_tx_exception (typ (tx_ex t) c v) = true
is_tx_exception t = false

-- `get` of a `std::tx_exception`
abbrev pub exception_member : At → List ℕ → Tree → Result Tree ElabFault
exception_member at name object = if bytes_eq name (codes "get") then Ok (node Default (plain void) Lvalue at (one object)) else Err (Ill at NoMember)

abbrev pub class_member : Ctx → At → At → List ℕ → Tree → Result Tree ElabFault
class_member c at dot name object = and_then (expect dot BadOperand (class_number (typ_in object)))
    (λ n. and_then (check at Incomplete (is_some (completion_of c.classes n))) (λ y.
    and_then (expect at NoMember (member_found c name n)) (λ (f : Found). Ok (member_of c at object f))))

-- `object.name`, where `dot` is the place of the name
abbrev pub member_access : Ctx → Work → At → At → List ℕ → Operand → Result Made ElabFault
member_access c w at dot name o = if is_tx_exception (typ_in o.tree) then and_then (exception_member at name (object_of c w o.at o.tree).tree)
    (λ (t : Tree). Ok (record { tree = t; work = (object_of c w o.at o.tree).work }))
    else and_then (class_member c at dot name (object_of c w o.at o.tree).tree)
    (λ (t : Tree). Ok (record { tree = t; work = (object_of c w o.at o.tree).work }))

-- Names (C++14 3.4.1): variables of the function stand inside its class, and that inside the file

abbrev pub enumerator_tree : Ctx → At → ℕ → Result Tree ElabFault
enumerator_tree c at i = and_then (expect at UnknownName (slice_get c.enumerators i)) (λ e. Ok (node (Literal e.word) e.typ Prvalue at none))

abbrev pub global_tree : Work → At → ℕ → Result Tree ElabFault
global_tree w at g = and_then (expect at UnknownName (slice_get w.globals g)) (λ (x : Global). Ok (node (GlobalNode g) x.typ Lvalue at none))

abbrev pub of_entity : Ctx → Work → At → EntityKind → ℕ → Result Tree ElabFault
of_entity c w at entities.Local i = variable_in c w at i (is_outer i c.lambda)
of_entity c w at entities.Global i = global_tree w at i
of_entity c w at entities.Funcs i = Ok (functions i at none)
of_entity c w at entities.Enumerator i = enumerator_tree c at i
of_entity c w at kind i = Err (Ill at UnknownName)

abbrev pub is_local : EntityKind → Bool
is_local entities.Local = true
is_local kind = false

abbrev pub is_local_entity : Option Entity → Bool
is_local_entity (Some e) = is_local e.kind
is_local_entity None = false

abbrev pub file_name : Ctx → Work → At → Option Entity → Result Tree ElabFault
file_name c w at (Some e) = of_entity c w at e.kind e.id
file_name c w at None = Err (Ill at UnknownName)

abbrev pub target_of : Form → Option Typ
target_of (ptr t) = Some t
target_of f = None

abbrev pub implicit_member : Ctx → At → Found → Result Tree ElabFault
implicit_member c at f = and_then (this_tree c at) (λ (p : Tree). and_then (expect at UnknownName (target_of (form_in (typ_in p))))
    (λ (t : Typ). Ok (member_of c at (retyped at t Lvalue p) f)))

abbrev pub class_name : Ctx → Work → At → List ℕ → Option Entity → Option Found → Result Tree ElabFault
class_name c w at name e (Some f) = implicit_member c at f
class_name c w at name e None = file_name c w at e

abbrev pub member_here : Ctx → List ℕ → Option ℕ → Option Found
member_here c name (Some n) = member_found c name n
member_here c name None = None

-- what a name means where it stands
abbrev pub named : Ctx → Work → At → List ℕ → Result Tree ElabFault
named c w at name = if is_local_entity (found_in c.scopes name) then file_name c w at (found_in c.scopes name) else class_name c w at name
    (found_in c.scopes name) (member_here c name c.class)

-- One function for those that an expression names, where it is no call (C++14 13.4, profile)

abbrev pub only_function : Ctx → At → ℕ → List ℕ → Result Tree ElabFault
only_function c at k (i ∷ []) = and_then (check at OutOfProfile (not (is_some (func_at c.funcs i).builtin)))
    (λ y. Ok (node (Function i) (plain (func (func_at c.funcs i).declared.signature)) Lvalue at none))
only_function c at k is = Err (Ill at Ambiguous)

abbrev pub resolved_function : Ctx → At → ℕ → Trees → Result Tree ElabFault
resolved_function c at k none = only_function c at k (places_from (is_free (func_at c.funcs k).declared.name) 0 c.funcs)
resolved_function c at k kids = Err (Ill at BadOperand)

-- an expression that names functions as the function, and every other one as it is
abbrev pub resolved : Ctx → Tree → Result Tree ElabFault
resolved c (node (Function k) (typ void d v) Lvalue at kids) = resolved_function c at k kids
resolved c (node Default t cat at kids) = Err (Ill at BadOperand)
resolved c (node (Builtin b) (typ void d v) Lvalue at kids) = Err (Ill at OutOfProfile)
resolved c t = Ok t
