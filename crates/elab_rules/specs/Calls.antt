-- Calls (C++14 5.2.2, 13.3): by name, of member functions, through pointers, of lambdas.
use Rattle.std.specs.Prelude.{ℕ, zero, suc, ◌==◌, ◌+◌, Bool, true, false, not, ◌&&◌, List, [], ◌∷◌, Option, Some, None, is_some}
use Rattle.std.specs.Prelude.{Result, Ok, Err, if◌then◌else◌, slice_get, unwrap_or, codes}
use Rattle.std.specs.Str.{bytes_eq}
use Rattle.elab_ctx.specs.cpp_types.Typ.{Typ, typ, Form, void, ptr, ref, func, class, closure, tx_ex, Signature}
use Rattle.elab_ctx.specs.cpp_types.Class.{Class, completion_of}
use Rattle.elab_ctx.specs.cpp_types.Conversion.{bases}
use Rattle.elab_ctx.specs.cpp_types.declared.classes.At.{At}
use Rattle.elab_ctx.specs.cpp_types.declared.ranks.Cat.{Cat}
use Rattle.elab_ctx.specs.cpp_types.declared.ranks.Cat.TheVariants.{Lvalue, Prvalue}
use Rattle.cpp_overload.specs.Choosing.{chosen}
use Rattle.elab_ctx.specs.cpp_layout.Layout.{has_class_pointer, base_items, class_extent, next_multiple, end_from}
use Rattle.elab_ctx.specs.cpp_tree.declared.kinds.TKind.{TKind}
use Rattle.elab_ctx.specs.cpp_tree.declared.kinds.TKind.TheVariants.{Call, VirtualCall, PointerCall, Builtin as BuiltinNode, Function, Default}
use Rattle.elab_ctx.specs.cpp_tree.declared.kinds.TKind.TheVariants.{CopyFrom, Load}
use Rattle.elab_ctx.specs.cpp_tree.declared.kinds.Builtin.{Builtin}
use Rattle.elab_ctx.specs.cpp_tree.declared.faults.ElabFault.{ElabFault}
use Rattle.elab_ctx.specs.cpp_tree.declared.faults.ElabFault.TheVariants.{Ill}
use Rattle.elab_ctx.specs.cpp_tree.declared.faults.IllRule.TheVariants.{NotCallable, NoViable, BadMain, Incomplete}
use Rattle.elab_ctx.specs.cpp_tree.Trees.{Tree, node, Trees, none, more, one, two, typ_in}
use Rattle.elab_ctx.specs.cpp_tree.Units.{SlotFunc}
use Rattle.elab_ctx.specs.cpp_tree.Notation.{plain}
use Rattle.elab_ctx.specs.cpp_tree.Typing.{form_in, unqualified, is_class_typ, is_volatile_typ, kind_in}
use Rattle.elab_ctx.specs.Ctx.{Ctx, Work, Func}
use Rattle.elab_ctx.specs.Steps.{and_then, expect, check, Operand, Made, MadeAll}
use Rattle.elab_rules.specs.Values.{retyped, valued}
use Rattle.elab_rules.specs.Objects.{copies, followed_by}
use Rattle.elab_rules.specs.Initialising.{candidate, candidates_at, func_at, arguments, meant, words, places_from, same_number, class_number, as_base}
use Rattle.elab_rules.specs.Initialising.{signature_parameters, signature_result, object_of}
use Rattle.elab_rules.specs.Names.{is_free, is_method}
use Rattle.elab_ctx.specs.tx_ints.declared.kinds.IntKind.{IntKind}

-- What a call gives (C++14 5.2.2 p10): what a reference refers to, a class as it is, a scalar without qualifiers

abbrev pub result_category : Typ → Cat
result_category (typ (ref t) c v) = Lvalue
result_category t = Prvalue

abbrev pub result_type : Typ → Typ
result_type (typ (ref t) c v) = t
result_type t = if is_class_typ t then t else unqualified t

abbrev pub call_node : At → TKind → Typ → Trees → Tree
call_node at kind r words = node kind (result_type r) (result_category r) at words

-- a class that is given is complete
abbrev pub complete_result : Ctx → At → Typ → Result Bool ElabFault
complete_result c at (typ (class n) d v) = check at Incomplete (is_some (completion_of c.classes n))
complete_result c at t = Ok true

-- Slots (C++14 10.3)

abbrev pub is_of_class : ℕ → Func → Bool
is_of_class n f = same_number n f.class

abbrev pub count_before : (Func → Bool) → ℕ → List Func → ℕ
count_before test zero fs = 0
count_before test (suc k) [] = 0
count_before test (suc k) (f ∷ fs) = (if test f then 1 else 0) + count_before test k fs

-- the index of a function among those of its class
abbrev pub index_in_class : ℕ → ℕ → List Func → ℕ
index_in_class n k fs = count_before (is_of_class n) k fs

abbrev pub slot_from : ℕ → ℕ → ℕ → List SlotFunc → Option ℕ
slot_from i n index [] = None
slot_from i n index (x ∷ xs) = if x.class == n && x.func == index then Some i else slot_from (suc i) n index xs

-- the slot in which a class has its function as the final overrider
abbrev pub slot_of_function : Ctx → ℕ → ℕ → ℕ
slot_of_function c n k = unwrap_or (slot_from 0 n (index_in_class n k c.funcs) (unwrap_or (slice_get c.slots n) [])) 0

abbrev pub base_of_class : Option Class → Option ℕ
base_of_class (Some k) = k.base
base_of_class None = None

abbrev pub own_pointer_offset : List Class → ℕ → ℕ
own_pointer_offset classes n = next_multiple (end_from 0 (base_items (class_extent classes) (base_of_class (slice_get classes n)))) 8

abbrev pub pointer_along : List Class → List ℕ → Option ℕ
pointer_along classes [] = None
pointer_along classes (n ∷ ns) = if has_class_pointer classes n then Some (own_pointer_offset classes n) else pointer_along classes ns

-- where objects of a class have their class pointer, if they have one
abbrev pub pointer_offset : List Class → ℕ → Option ℕ
pointer_offset classes n = pointer_along classes (n ∷ bases classes n)

-- Functions by name

-- the words of a call of the function in this place
abbrev pub called : Ctx → Work → At → TKind → Signature → Trees → List Operand → Result Made ElabFault
called c w at kind sig object os = and_then (complete_result c at (signature_result sig))
    (λ y. and_then (words c w (signature_parameters sig) os) (λ (m : MadeAll).
    Ok (record { tree = call_node at kind (signature_result sig) (followed_by object m.trees); work = m.work })))

abbrev pub call_kind : Option Builtin → ℕ → TKind
call_kind (Some b) k = BuiltinNode b
call_kind None k = Call k

abbrev pub best_of : Ctx → At → List ℕ → List Operand → Result ℕ ElabFault
best_of c at places os = and_then (meant at (chosen c.classes (candidates_at candidate c.funcs places) (arguments os)))
    (λ i. expect at NoViable (slice_get places i))

abbrev pub is_main : Func → Bool
is_main f = bytes_eq f.declared.name (codes "main") && not (is_some f.class)

abbrev pub call_free : Ctx → Work → At → ℕ → List Operand → Result Made ElabFault
call_free c w at k os = and_then (check at BadMain (not (is_main (func_at c.funcs k))))
    (λ y. and_then (best_of c at (places_from (is_free (func_at c.funcs k).declared.name) 0 c.funcs) os) (λ i.
    called c w at (call_kind (func_at c.funcs i).builtin i) (func_at c.funcs i).declared.signature none os))

-- Member functions

-- the object as one of the class that declares the function
abbrev pub as_object : At → ℕ → Tree → Tree
as_object at n e = if same_number n (class_number (typ_in e)) then e else as_base at n (typ_in e) e

abbrev pub member_kind : Ctx → ℕ → ℕ → TKind
member_kind c n k = if (func_at c.funcs k).declared.is_virtual then VirtualCall k n (slot_of_function c n k)
    (unwrap_or (pointer_offset c.classes n) 0) else Call k

abbrev pub call_method_of : Ctx → Work → At → ℕ → ℕ → Tree → List Operand → Result Made ElabFault
call_method_of c w at n k object os = and_then (best_of c at (places_from (is_method n (func_at c.funcs k).declared.name) 0 c.funcs)
    (record { tree = object; at = at; zero = false } ∷ os)) (λ i.
    called c w at (member_kind c n i) (func_at c.funcs i).declared.signature (one (as_object at n object)) os)

abbrev pub call_method : Ctx → Work → At → ℕ → Tree → List Operand → Result Made ElabFault
call_method c w at k object os = and_then (expect at NotCallable (func_at c.funcs k).class) (λ n. call_method_of c w at n k object os)

-- `get()` of a `std::tx_exception`: the value in it
abbrev pub loaded_value : At → Option IntKind → Typ → Tree → Tree
loaded_value at (Some kind) t e = node (Load kind false) t Prvalue at (one e)
loaded_value at None t e = retyped at t Prvalue e

abbrev pub exception_value : Ctx → At → Tree → Typ → Tree
exception_value c at e (typ f d v) = if is_class_typ (typ f d v) then node CopyFrom (typ f false false) Prvalue at
    (two e (copies c.classes at (typ f false false))) else loaded_value at (kind_in f) (typ f false false) e

abbrev pub value_type : Form → Option Typ
value_type (tx_ex t) = Some t
value_type f = None

-- (it takes no object that is volatile)
abbrev pub call_get : Ctx → Work → At → Tree → List Operand → Result Made ElabFault
call_get c w at e [] = and_then (expect at NotCallable (value_type (form_in (typ_in e))))
    (λ (t : Typ). and_then (check at NoViable (not (is_volatile_typ (typ_in e)))) (λ y. Ok (record { tree = exception_value c at e t; work = w })))
call_get c w at e os = Err (Ill at NoViable)

-- Values that are called

abbrev pub is_closure_call : ℕ → Func → Bool
is_closure_call n f = same_number n f.class

abbrev pub call_closure : Ctx → Work → At → ℕ → Operand → List Operand → Result Made ElabFault
call_closure c w at n callee os = and_then (best_of c at (places_from (is_closure_call n) 0 c.funcs)
    (record { tree = (object_of c w callee.at callee.tree).tree; at = callee.at; zero = false } ∷ os)) (λ i.
    called c (object_of c w callee.at callee.tree).work at (Call i) (func_at c.funcs i).declared.signature (one (object_of c w callee.at callee.tree).tree) os)

abbrev pub call_pointer : Ctx → Work → At → Form → Tree → List Operand → Result Made ElabFault
call_pointer c w at (ptr (typ (func sig) d v)) p os =
    and_then (meant at (chosen c.classes (record { signature = sig; this = None } ∷ []) (arguments os))) (λ i. called c w at PointerCall sig (one p) os)
call_pointer c w at f p os = Err (Ill at NotCallable)

abbrev pub call_value : Ctx → Work → At → Form → Operand → List Operand → Result Made ElabFault
call_value c w at (closure n) callee os = call_closure c w at n callee os
call_value c w at f callee os = call_pointer c w at (form_in (typ_in (valued callee.at callee.tree))) (valued callee.at callee.tree) os

-- `std::abort()`
abbrev pub call_abort : Work → At → Builtin → List Operand → Result Made ElabFault
call_abort w at b [] = Ok (record { tree = node (BuiltinNode b) (plain void) Prvalue at none; work = w })
call_abort w at b os = Err (Ill at NoViable)

abbrev pub call_form : Ctx → Work → At → Operand → Tree → List Operand → Result Made ElabFault
call_form c w at callee (node (Function k) (typ void d v) Lvalue p none) os = call_free c w at k os
call_form c w at callee (node (Function k) (typ void d v) Lvalue p (more object none)) os = call_method c w at k object os
call_form c w at callee (node Default t cat p (more e none)) os = call_get c w at e os
call_form c w at callee (node (BuiltinNode b) (typ void d v) Lvalue p none) os = call_abort w at b os
call_form c w at callee t os = call_value c w at (form_in (typ_in t)) callee os

-- a call of what an expression names or gives
abbrev pub call : Ctx → Work → At → Operand → List Operand → Result Made ElabFault
call c w at callee os = call_form c w at callee callee.tree os
