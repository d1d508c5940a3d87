-- Calls.
use Rattle.std.proofs.Common.{◌≡◌, refl, sym, ap, subst, ℕ, Bool, true, false, List, [], ◌∷◌, Option, Some, None, Result, Ok, Err, slice_get}
use Rattle.std.specs.Prelude.{not, if◌then◌else◌}
use Rattle.elab_rules.specs.tx_ints.declared.kinds.IntKind.{IntKind}
use Rattle.elab_rules.specs.cpp_types.Typ.{Typ, typ, Form, void, int, enum, null, ptr, ref, array, func, class, closure, tx_ex, Signature}
use Rattle.elab_rules.specs.cpp_types.declared.classes.At.{At}
use Rattle.elab_rules.specs.cpp_types.declared.ranks.Cat.TheVariants.{Lvalue}
use Rattle.elab_rules.specs.cpp_overload.Choosing.{chosen, choice_of}
use Rattle.elab_rules.specs.cpp_overload.declared.calls.NoBest.{NoBest}
use Rattle.elab_rules.specs.cpp_overload.declared.calls.NoBest.TheVariants.{NoViable as NoneViable, Ambiguous}
use Rattle.elab_rules.proofs.cpp_overload.Choosing.{chosen_is_meant}
use Rattle.elab_rules.specs.cpp_tree.declared.kinds.TKind.{TKind}
use Rattle.elab_rules.specs.cpp_tree.declared.kinds.TKind.TheVariants.{Call, PointerCall, Function, Default, Builtin}
use Rattle.elab_rules.specs.cpp_tree.declared.kinds.Builtin.{Builtin as BuiltinKind}
use Rattle.elab_rules.specs.cpp_tree.declared.faults.IllRule.TheVariants.{BadMain, NotCallable, NoViable}
use Rattle.elab_rules.specs.cpp_tree.Trees.{Tree, node, Trees, none, more, one, typ_in, kind_of, kids_of}
use Rattle.elab_rules.specs.cpp_tree.Typing.{form_in, unqualified, is_class_typ, is_volatile_typ, kind_in}
use Rattle.elab_rules.specs.elab_ctx.Ctx.{Ctx, Work}
use Rattle.elab_rules.specs.elab_ctx.Steps.{and_then, expect, Operand, Typed, at_of}
use Rattle.elab_rules.specs.Values.{valued}
use Rattle.elab_rules.specs.Initialising.{candidate, candidates_at, arguments, func_at, places_from, signature_result, signature_parameters, meant, words}
use Rattle.elab_rules.specs.Initialising.{object_of}
use Rattle.elab_rules.specs.Names.{is_free, is_method}
use Rattle.elab_rules.specs.Calls.{result_type, result_category, called, complete_result, best_of, is_main, call_free, as_object, member_kind, call_method_of}
use Rattle.elab_rules.specs.Calls.{call_method, loaded_value, exception_value, call_get, is_closure_call, call_closure, call_pointer, call_value, call_abort}
use Rattle.elab_rules.specs.Calls.{call_form, call_kind, call, call_node}
use Rattle.elab_rules.specs.Calls as rules
use Rattle.elab_rules.specs.Expressions.{expression_of, operands_of, an_operand}
use Rattle.elab_laws.specs.Reading.{On, IsPrvalue, value_type}
use Rattle.elab_laws.specs.Calling.{Returns, a_reference, an_object, a_value, IsThis, Means, result_at, name_at, OfCall, of_function, of_member, of_closure}
use Rattle.elab_laws.specs.Calling.{of_pointer, of_get, of_abort, Called, Calls}
use Rattle.elab_laws.proofs.Reading.{skip, after, checked, expected, weaken, made_in}
use Rattle.elab_laws.proofs.Arithmetic.{form_is}
use Rattle.elab_laws.proofs.Parts.{InMade, object_typ}

-- Results

returns_law : (at : At) (kind : TKind) (r : Typ) (kids : Trees) → Returns r (call_node at kind r kids)
returns_law at kind (typ (ref t) d v) kids = a_reference t refl (record { has_type = refl; category = refl })
returns_law at kind (typ (class n) d v) kids = an_object refl (record { has_type = refl; category = refl })
returns_law at kind (typ (closure n) d v) kids = an_object refl (record { has_type = refl; category = refl })
returns_law at kind (typ (tx_ex t) d v) kids = an_object refl (record { has_type = refl; category = refl })
returns_law at kind (typ void d v) kids = a_value refl (record { has_type = refl; category = refl })
returns_law at kind (typ (int j) d v) kids = a_value refl (record { has_type = refl; category = refl })
returns_law at kind (typ (enum n s) d v) kids = a_value refl (record { has_type = refl; category = refl })
returns_law at kind (typ null d v) kids = a_value refl (record { has_type = refl; category = refl })
returns_law at kind (typ (ptr t) d v) kids = a_value refl (record { has_type = refl; category = refl })
returns_law at kind (typ (array t n) d v) kids = a_value refl (record { has_type = refl; category = refl })
returns_law at kind (typ (func s) d v) kids = a_value refl (record { has_type = refl; category = refl })

called_law : (c : Ctx) (w : Work) (at : At) (kind : TKind) (sig : Signature) (before : Trees) (os : List Operand)
    → On (InMade (Returns (signature_result sig))) (rules.called c w at kind sig before os)
called_law c w at kind sig before os = skip (InMade (Returns (signature_result sig))) (complete_result c at (signature_result sig)) _
    (λ y. skip (InMade (Returns (signature_result sig))) (words c w (signature_parameters sig) os) _ (λ m. returns_law at kind (signature_result sig) _))

-- Overloads

some_place : (at : At) (x : Option ℕ) (i : ℕ) → expect at NoViable x ≡ Ok i → x ≡ Some i
some_place at (Some j) i h = cc
some_place at None i h = absurd cc

meant_is : (at : At) (places : List ℕ) (i : ℕ) (r : Result ℕ NoBest)
    → and_then (meant at (choice_of r)) (λ (j : ℕ). expect at NoViable (slice_get places j)) ≡ Ok i → IsThis places i r
meant_is at places i (Ok j) h = some_place at (slice_get places j) i h
meant_is at places i (Err NoneViable) h = absurd cc
meant_is at places i (Err (Ambiguous a b)) h = absurd cc

means_law : (c : Ctx) (at : At) (places : List ℕ) (os : List Operand) (i : ℕ) → best_of c at places os ≡ Ok i → Means c places (arguments os) i
means_law c at places os i h = record {
  each = λ r g. meant_is at places i r
      (subst (λ z. and_then (meant at z) (λ (j : ℕ). expect at NoViable (slice_get places j)) ≡ Ok i)
      (chosen_is_meant c.classes (candidates_at candidate c.funcs places) (arguments os) r g) h);
}

-- Calls

free_law : (c : Ctx) (w : Work) (at : At) (k : ℕ) (callee : Operand) (os : List Operand) → kind_of callee.tree ≡ Function k → kids_of callee.tree ≡ none
    → On (InMade (OfCall c callee os)) (call_free c w at k os)
free_law c w at k callee os h g = checked (InMade (OfCall c callee os)) at BadMain (not (is_main (func_at c.funcs k))) _
    (λ y. after (InMade (OfCall c callee os)) (best_of c at (places_from (is_free (name_at c k)) 0 c.funcs) os) _ (λ i e.
    weaken (InMade (Returns (result_at c i))) (InMade (OfCall c callee os))
    (rules.called c w at (call_kind (func_at c.funcs i).builtin i) (func_at c.funcs i).declared.signature none os)
    (λ m r. of_function k i h g (means_law c at (places_from (is_free (name_at c k)) 0 c.funcs) os i e) r)
    (called_law c w at (call_kind (func_at c.funcs i).builtin i) (func_at c.funcs i).declared.signature none os)))

method_law : (c : Ctx) (w : Work) (at : At) (k n : ℕ) (callee : Operand) (object : Tree) (os : List Operand) → kind_of callee.tree ≡ Function k
    → kids_of callee.tree ≡ one object → (func_at c.funcs k).class ≡ Some n → On (InMade (OfCall c callee os)) (call_method_of c w at n k object os)
method_law c w at k n callee object os h g l = after (InMade (OfCall c callee os))
    (best_of c at (places_from (is_method n (name_at c k)) 0 c.funcs) (record { tree = object; at = at; zero = false } ∷ os)) _ (λ i e.
    weaken (InMade (Returns (result_at c i))) (InMade (OfCall c callee os))
    (rules.called c w at (member_kind c n i) (func_at c.funcs i).declared.signature (one (as_object at n object)) os)
    (λ m r. of_member k n i object h g l (means_law c at (places_from (is_method n (name_at c k)) 0 c.funcs)
    (record { tree = object; at = at; zero = false } ∷ os) i e) r)
    (called_law c w at (member_kind c n i) (func_at c.funcs i).declared.signature (one (as_object at n object)) os))

member_law : (c : Ctx) (w : Work) (at : At) (k : ℕ) (callee : Operand) (object : Tree) (os : List Operand) → kind_of callee.tree ≡ Function k
    → kids_of callee.tree ≡ one object → On (InMade (OfCall c callee os)) (call_method c w at k object os)
member_law c w at k callee object os h g = expected (InMade (OfCall c callee os)) at NotCallable (func_at c.funcs k).class _
    (λ n l. method_law c w at k n callee object os h g l)

loaded_law : (at : At) (i : Option IntKind) (t : Typ) (e : Tree) → IsPrvalue t (loaded_value at i t e)
loaded_law at (Some i) t e = record { has_type = refl; category = refl }
loaded_law at None t e = record { has_type = refl; category = refl }

either_prvalue : (b : Bool) (t : Typ) (x y : Tree) → IsPrvalue t x → IsPrvalue t y → IsPrvalue t (if b then x else y)
either_prvalue true t x y h k = h
either_prvalue false t x y h k = k

exception_law : (c : Ctx) (at : At) (e : Tree) (t : Typ) → IsPrvalue (unqualified t) (exception_value c at e t)
exception_law c at e (typ f d v) = either_prvalue (is_class_typ (typ f d v)) (typ f false false) _ (loaded_value at (kind_in f) (typ f false false) e)
    (record { has_type = refl; category = refl }) (loaded_law at (kind_in f) (typ f false false) e)

exception_of : (f : Form) (t : Typ) → rules.value_type f ≡ Some t → f ≡ tx_ex t
exception_of (tx_ex u) t h = cc
exception_of void t h = absurd cc
exception_of (int j) t h = absurd cc
exception_of (enum n s) t h = absurd cc
exception_of null t h = absurd cc
exception_of (ptr u) t h = absurd cc
exception_of (ref u) t h = absurd cc
exception_of (array u n) t h = absurd cc
exception_of (func s) t h = absurd cc
exception_of (class n) t h = absurd cc
exception_of (closure n) t h = absurd cc

is_not : (b : Bool) → not b ≡ true → b ≡ false
is_not false h = refl
is_not true h = absurd cc

get_law : (c : Ctx) (w : Work) (at : At) (callee : Operand) (e : Tree) (os : List Operand) → kind_of callee.tree ≡ Default → kids_of callee.tree ≡ one e
    → On (InMade (OfCall c callee os)) (call_get c w at e os)
get_law c w at callee e [] h g = expected (InMade (OfCall c callee [])) at NotCallable (rules.value_type (form_in (typ_in e))) _
    (λ t i. checked (InMade (OfCall c callee [])) at NoViable (not (is_volatile_typ (typ_in e))) _
    (λ n. of_get t e h g (exception_of (form_in (typ_in e)) t i) (is_not (is_volatile_typ (typ_in e)) n) refl (exception_law c at e t)))
get_law c w at callee e (o ∷ os) h g = tt

abort_law : (c : Ctx) (w : Work) (at : At) (b : BuiltinKind) (callee : Operand) (os : List Operand) → kind_of callee.tree ≡ Builtin b
    → On (InMade (OfCall c callee os)) (call_abort w at b os)
abort_law c w at b callee [] h = of_abort b h refl (record { has_type = refl; category = refl })
abort_law c w at b callee (o ∷ os) h = tt

closure_law : (c : Ctx) (w : Work) (at : At) (n : ℕ) (callee : Operand) (os : List Operand) → form_in (typ_in callee.tree) ≡ closure n
    → On (InMade (OfCall c callee os)) (call_closure c w at n callee os)
closure_law c w at n callee os h = after (InMade (OfCall c callee os))
    (best_of c at (places_from (is_closure_call n) 0 c.funcs)
    (record { tree = (object_of c w callee.at callee.tree).tree; at = callee.at; zero = false } ∷ os)) _ (λ i e.
    weaken (InMade (Returns (result_at c i))) (InMade (OfCall c callee os))
    (rules.called c (object_of c w callee.at callee.tree).work at (Call i) (func_at c.funcs i).declared.signature
    (one (object_of c w callee.at callee.tree).tree) os)
    (λ m r. of_closure n i (object_of c w callee.at callee.tree).tree h (object_typ c w callee.at callee.tree)
    (means_law c at (places_from (is_closure_call n) 0 c.funcs)
    (record { tree = (object_of c w callee.at callee.tree).tree; at = callee.at; zero = false } ∷ os) i e) r)
    (called_law c (object_of c w callee.at callee.tree).work at (Call i) (func_at c.funcs i).declared.signature
    (one (object_of c w callee.at callee.tree).tree) os))

pointer_law : (c : Ctx) (w : Work) (at : At) (f : Form) (callee : Operand) (p : Tree) (os : List Operand) → value_type callee ≡ f
    → On (InMade (OfCall c callee os)) (call_pointer c w at f p os)
pointer_law c w at (ptr (typ (func sig) d v)) callee p os h =
    skip (InMade (OfCall c callee os)) (meant at (chosen c.classes (record { signature = sig; this = None } ∷ []) (arguments os))) _ (λ i.
    weaken (InMade (Returns (signature_result sig))) (InMade (OfCall c callee os)) (rules.called c w at PointerCall sig (one p) os)
    (λ m r. of_pointer sig d v h r) (called_law c w at PointerCall sig (one p) os))
pointer_law c w at f callee p os h = tt

value_law : (c : Ctx) (w : Work) (at : At) (f : Form) (callee : Operand) (os : List Operand) → form_in (typ_in callee.tree) ≡ f
    → On (InMade (OfCall c callee os)) (call_value c w at f callee os)
value_law c w at (closure n) callee os h = closure_law c w at n callee os h
value_law c w at f callee os h = pointer_law c w at (form_in (typ_in (valued callee.at callee.tree))) callee (valued callee.at callee.tree) os
    (sym (form_is callee))

form_law : (c : Ctx) (w : Work) (at : At) (callee : Operand) (e : Tree) (os : List Operand) → callee.tree ≡ e
    → On (InMade (OfCall c callee os)) (call_form c w at callee e os)
form_law c w at callee (node (Function k) (typ void d v) Lvalue p none) os h = free_law c w at k callee os (ap kind_of h) (ap kids_of h)
form_law c w at callee (node (Function k) (typ void d v) Lvalue p (more object none)) os h = member_law c w at k callee object os (ap kind_of h) (ap kids_of h)
form_law c w at callee (node Default t cat p (more e none)) os h = get_law c w at callee e os (ap kind_of h) (ap kids_of h)
form_law c w at callee (node (Builtin b) (typ void d v) Lvalue p none) os h = abort_law c w at b callee os (ap kind_of h)
form_law c w at callee e os h = value_law c w at (form_in (typ_in e)) callee os (ap (λ (z : Tree). form_in (typ_in z)) h)

pub calls_law : Calls
calls_law s c w p t f es = after (Called s c w f es) (expression_of s c w f) _ (λ x h. after (Called s c w f es) (operands_of s c x.work es) _ (λ xs g.
    weaken (λ (r : Typed). OfCall c x.operand xs.operands r.operand.tree) (Called s c w f es)
    (an_operand (at_of p) (call c xs.work (at_of p) x.operand xs.operands))
    (λ r m. record { callee = x; callee_is = h; args = xs; args_are = g; holds = m })
    (made_in (OfCall c x.operand xs.operands) (at_of p) (call c xs.work (at_of p) x.operand xs.operands)
    (form_law c xs.work (at_of p) x.operand x.operand.tree xs.operands refl))))
