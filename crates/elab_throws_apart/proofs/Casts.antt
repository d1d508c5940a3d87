-- Casts, calls, `sizeof` and `throw` give no `throw` of an object.
use Rattle.std.proofs.Common.{refl, ℕ, Bool, true, false, not, ◌&&◌, List, [], ◌∷◌, Option, Some, None, is_some, Ok, if◌then◌else◌}
use Rattle.std.specs.Prelude.{unwrap_or}
use Rattle.elab_rules.specs.cpp_overload.Choosing.{chosen}
use Rattle.elab_rules.specs.cpp_types.Typ.{Typ, typ, Form, void, int, enum, null, ptr, ref, array, func, class, closure, tx_ex, Signature}
use Rattle.elab_rules.specs.cpp_types.Conversion.{referred}
use Rattle.elab_rules.specs.cpp_types.declared.classes.At.{At}
use Rattle.elab_rules.specs.cpp_types.declared.ranks.Cat.{Cat}
use Rattle.elab_rules.specs.cpp_types.declared.ranks.Cat.TheVariants.{Lvalue, Prvalue}
use Rattle.elab_rules.specs.cpp_tree.declared.kinds.Builtin.{Builtin}
use Rattle.elab_rules.specs.cpp_tree.declared.kinds.TKind.{TKind}
use Rattle.elab_rules.specs.cpp_tree.declared.kinds.TKind.TheVariants as forms
use Rattle.elab_rules.specs.cpp_tree.declared.faults.IllRule.TheVariants.{BadOperand, BadInit, Incomplete, NotCallable, NoViable, BadMain}
use Rattle.elab_rules.specs.cpp_tree.Trees.{Tree, node, Trees, none, more, one, typ_in}
use Rattle.elab_rules.specs.cpp_tree.Typing.{form_in, unqualified, is_class_typ, is_void, is_reference, kind_in, is_volatile_typ}
use Rattle.elab_rules.specs.elab_ctx.Ctx.{Ctx, Work}
use Rattle.elab_rules.specs.elab_ctx.Steps.{and_then, check, expect, Operand, Made}
use Rattle.elab_rules.specs.Values.{valued, is_exception_form}
use Rattle.elab_rules.specs.Initialising
use Rattle.elab_rules.specs.Initialising.{initial, func_at, object_of, arguments, meant, words, places_from, signature_parameters, signature_result}
use Rattle.elab_rules.specs.Objects.{followed_by}
use Rattle.elab_rules.specs.Operators.{value, is_function, measurable}
use Rattle.elab_rules.specs.Types.{is_bounded}
use Rattle.elab_rules.specs.Names.{is_free, is_method}
use Rattle.elab_rules.specs.Calls as calls
use Rattle.elab_rules.specs.Casts as casts
use Rattle.elab_fits.specs.Standing.{On}
use Rattle.elab_fits.proofs.Steps.{bind, skip, either}
use Rattle.elab_throws_apart.specs.Throws.{AreApart}
use Rattle.elab_throws_apart.proofs.Trees.{Apart, MadeApart, tree_if, retyped_apart, lvalue_apart, valued_apart, converted_apart}
use Rattle.elab_throws_apart.proofs.Objects.{initial_apart}
use Rattle.elab_throws_apart.proofs.Initials.{values_apart}

-- Casts (C++14 5.2.9, 5.4)

stored_at_apart : (at : At) (e : Tree) → Apart e → Apart (casts.stored_at at e)
stored_at_apart at (node (forms.Store kind v) t cat p kids) h = refl
stored_at_apart at (node kind t cat p kids) h = h

as_expression_apart : (at : At) (t : Typ) (e : Tree) → Apart e → Apart (casts.as_expression at t e)
as_expression_apart at t e h = tree_if (is_exception_form (form_in t) && not (is_exception_form (form_in (typ_in e)))) (node forms.Retype t Prvalue at (one (casts.stored_at at e))) e
    (retyped_apart at t Prvalue (casts.stored_at at e) (stored_at_apart at e h)) h

reference_cast : (at : At) (u : Typ) (e : Tree) → Apart (casts.reference_cast at u e)
reference_cast at u (node forms.Retype t Lvalue p kids) = lvalue_apart at u kids
reference_cast at u (node kind t cat p kids) = lvalue_apart at u (one (node kind t cat p kids))

scalar_cast : (c : Ctx) (w : Work) (at : At) (t : Typ) (o : Operand) → Apart o.tree → On MadeApart (casts.scalar_cast c w at t o)
scalar_cast c w at t o h = either MadeApart (casts.is_numeric (form_in (typ_in (value o))) && casts.is_numeric (form_in t)) _ _
    (λ i. converted_apart at t (value o) (valued_apart o.at o.tree h))
    (λ i. initial_apart c w (unqualified t) (record { tree = value o; at = at; zero = o.zero }) (valued_apart o.at o.tree h))

class_cast : (c : Ctx) (w : Work) (at : At) (t : Typ) (os : List Operand) → AreApart os
    → On MadeApart (and_then (Initialising.from_values c w t at os)
    (λ (m : Made). Ok (Initialising.with_tree (casts.as_expression at t) m)))
class_cast c w at t os h = bind MadeApart MadeApart (Initialising.from_values c w t at os) _ (values_apart c w t at os h)
    (λ m i. as_expression_apart at t m.tree i)

object_cast : (c : Ctx) (w : Work) (at : At) (t : Typ) (o : Operand) → Apart o.tree
    → On MadeApart (if is_class_typ t then and_then (Initialising.from_values c w t at (o ∷ []))
    (λ (m : Made). Ok (Initialising.with_tree (casts.as_expression at t) m)) else casts.scalar_cast c w at t o)
object_cast c w at t o h = either MadeApart (is_class_typ t) _ _ (λ i. class_cast c w at t (o ∷ []) (h, tt)) (λ i. scalar_cast c w at t o h)

cast_in : (c : Ctx) (w : Work) (at : At) (t : Typ) (f : Form) (o : Operand) → Apart o.tree → On MadeApart (casts.cast_in c w at t f o)
cast_in c w at t void o h = refl
cast_in c w at t (ref u) o h = skip MadeApart (initial c w t o) _ (λ m. reference_cast at u m.tree)
cast_in c w at t (func s) o h = tt
cast_in c w at t (array u k) o h = tt
cast_in c w at t f o h = object_cast c w at t o h

pub cast : (c : Ctx) (w : Work) (at : At) (t : Typ) (o : Operand) → Apart o.tree → On MadeApart (casts.cast c w at t o)
cast c w at t o h = cast_in c w at t (form_in t) o h

-- `T(a, ..)` (5.2.3)

pub functional : (c : Ctx) (w : Work) (at : At) (t : Typ) (os : List Operand) → AreApart os → On MadeApart (casts.functional c w at t os)
functional c w at t (o ∷ []) h = cast c w at t o h.0
functional c w at t [] h = either MadeApart (is_class_typ t) _ _ (λ i. class_cast c w at t [] tt)
    (λ i. either MadeApart (is_void t) _ _ (λ j. refl)
    (λ j. skip MadeApart (check at BadInit (is_some (kind_in (form_in t)) && not (is_reference t))) _ (λ k. refl)))
functional c w at t (o ∷ p ∷ os) h = either MadeApart (is_class_typ t) _ _ (λ i. class_cast c w at t (o ∷ p ∷ os) h) (λ i. tt)

-- `sizeof` and `throw` (5.3.3, 15.1)

pub size_literal : (c : Ctx) (at operand : At) (t : Typ) → On Apart (casts.size_literal c at operand t)
size_literal c at operand t = skip Apart (check at BadOperand (not (is_function (referred t)) && not (is_void (referred t)))) _
    (λ y. skip Apart (check at Incomplete (is_bounded (referred t))) _ (λ x. skip Apart (measurable c at (referred t)) _ (λ z. refl)))

pub throw : (c : Ctx) (w : Work) (at : At) (os : List Operand) → On MadeApart (casts.throw c w at os)
throw c w at [] = refl
throw c w at (o ∷ os) = skip MadeApart (casts.throw_in c w at (form_in (typ_in o.tree)) o) _ (λ m. refl)

-- Calls (5.2.2)

-- a node of this kind is none, whatever its type
abbrev NoThrowKind : TKind → Type 0
NoThrowKind kind = (t : Typ) (cat : Cat) (at : At) (kids : Trees) → Apart (node kind t cat at kids)

called : (c : Ctx) (w : Work) (at : At) (kind : TKind) (sig : Signature) (object : Trees) (os : List Operand) → NoThrowKind kind
    → On MadeApart (calls.called c w at kind sig object os)
called c w at kind sig object os h = skip MadeApart (calls.complete_result c at (signature_result sig)) _
    (λ y. skip MadeApart (words c w (signature_parameters sig) os) _
    (λ m. h (calls.result_type (signature_result sig)) (calls.result_category (signature_result sig)) at (followed_by object m.trees)))

call_kind : (o : Option Builtin) (k : ℕ) → NoThrowKind (calls.call_kind o k)
call_kind (Some b) k t cat at kids = refl
call_kind None k t cat at kids = refl

kind_if : (b : Bool) (x y : TKind) → NoThrowKind x → NoThrowKind y → NoThrowKind (if b then x else y)
kind_if true x y h g = h
kind_if false x y h g = g

member_kind : (c : Ctx) (n k : ℕ) → NoThrowKind (calls.member_kind c n k)
member_kind c n k = kind_if (func_at c.funcs k).declared.is_virtual
    (forms.VirtualCall k n (calls.slot_of_function c n k) (unwrap_or (calls.pointer_offset c.classes n) 0)) (forms.Call k) (λ t cat at kids. refl) (λ t cat at kids. refl)

call_free : (c : Ctx) (w : Work) (at : At) (k : ℕ) (os : List Operand) → On MadeApart (calls.call_free c w at k os)
call_free c w at k os = skip MadeApart (check at BadMain (not (calls.is_main (func_at c.funcs k)))) _
    (λ y. skip MadeApart (calls.best_of c at (places_from (is_free (func_at c.funcs k).declared.name) 0 c.funcs) os) _
    (λ i. called c w at (calls.call_kind (func_at c.funcs i).builtin i) (func_at c.funcs i).declared.signature none os (call_kind (func_at c.funcs i).builtin i)))

call_method : (c : Ctx) (w : Work) (at : At) (k : ℕ) (object : Tree) (os : List Operand) → On MadeApart (calls.call_method c w at k object os)
call_method c w at k object os = skip MadeApart (expect at NotCallable (func_at c.funcs k).class) _
    (λ n. skip MadeApart (calls.best_of c at (places_from (is_method n (func_at c.funcs k).declared.name) 0 c.funcs)
    (record { tree = object; at = at; zero = false } ∷ os)) _
    (λ i. called c w at (calls.member_kind c n i) (func_at c.funcs i).declared.signature (one (calls.as_object at n object)) os (member_kind c n i)))

-- the value in a `std::tx_exception`
exception_value : (c : Ctx) (at : At) (e : Tree) (t : Typ) → Apart (calls.exception_value c at e t)
exception_value c at e (typ void d v) = refl
exception_value c at e (typ (int k) d v) = refl
exception_value c at e (typ (enum n s) d v) = refl
exception_value c at e (typ null d v) = refl
exception_value c at e (typ (ptr t) d v) = refl
exception_value c at e (typ (ref t) d v) = refl
exception_value c at e (typ (array t n) d v) = refl
exception_value c at e (typ (func s) d v) = refl
exception_value c at e (typ (class n) d v) = refl
exception_value c at e (typ (closure n) d v) = refl
exception_value c at e (typ (tx_ex t) d v) = refl

call_get : (c : Ctx) (w : Work) (at : At) (e : Tree) (os : List Operand) → On MadeApart (calls.call_get c w at e os)
call_get c w at e [] = skip MadeApart (expect at NotCallable (calls.value_type (form_in (typ_in e)))) _
    (λ t. skip MadeApart (check at NoViable (not (is_volatile_typ (typ_in e)))) _ (λ y. exception_value c at e t))
call_get c w at e (o ∷ os) = tt

call_closure : (c : Ctx) (w : Work) (at : At) (n : ℕ) (callee : Operand) (os : List Operand) → On MadeApart (calls.call_closure c w at n callee os)
call_closure c w at n callee os = skip MadeApart (calls.best_of c at (places_from (calls.is_closure_call n) 0 c.funcs)
    (record { tree = (object_of c w callee.at callee.tree).tree; at = callee.at; zero = false } ∷ os)) _
    (λ i. called c (object_of c w callee.at callee.tree).work at (forms.Call i) (func_at c.funcs i).declared.signature
    (one (object_of c w callee.at callee.tree).tree) os (λ t cat p kids. refl))

call_pointer : (c : Ctx) (w : Work) (at : At) (f : Form) (p : Tree) (os : List Operand) → On MadeApart (calls.call_pointer c w at f p os)
call_pointer c w at (ptr (typ (func sig) d v)) p os =
    skip MadeApart (meant at (chosen c.classes (record { signature = sig; this = None } ∷ []) (arguments os))) _
    (λ i. called c w at forms.PointerCall sig (one p) os (λ t cat q kids. refl))
call_pointer c w at f p os = tt

call_value : (c : Ctx) (w : Work) (at : At) (f : Form) (callee : Operand) (os : List Operand) → On MadeApart (calls.call_value c w at f callee os)
call_value c w at (closure n) callee os = call_closure c w at n callee os
call_value c w at f callee os = call_pointer c w at (form_in (typ_in (valued callee.at callee.tree))) (valued callee.at callee.tree) os

call_abort : (w : Work) (at : At) (b : Builtin) (os : List Operand) → On MadeApart (calls.call_abort w at b os)
call_abort w at b [] = refl
call_abort w at b (o ∷ os) = tt

call_form : (c : Ctx) (w : Work) (at : At) (callee : Operand) (t : Tree) (os : List Operand) → On MadeApart (calls.call_form c w at callee t os)
call_form c w at callee (node (forms.Function k) (typ void d v) Lvalue p none) os = call_free c w at k os
call_form c w at callee (node (forms.Function k) (typ void d v) Lvalue p (more object none)) os = call_method c w at k object os
call_form c w at callee (node forms.Default t cat p (more e none)) os = call_get c w at e os
call_form c w at callee (node (forms.Builtin b) (typ void d v) Lvalue p none) os = call_abort w at b os
call_form c w at callee t os = call_value c w at (form_in (typ_in t)) callee os

pub call : (c : Ctx) (w : Work) (at : At) (callee : Operand) (os : List Operand) → On MadeApart (calls.call c w at callee os)
call c w at callee os = call_form c w at callee callee.tree os
