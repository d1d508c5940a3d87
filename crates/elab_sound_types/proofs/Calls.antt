-- Calls give what has the type of an expression.
use Rattle.std.proofs.Common.{◌≡◌, refl, ap, ◌∙◌, sym, ℕ, Bool, true, false, not, ◌&&◌, ◌||◌, List, [], ◌∷◌, Option, Some, None}
use Rattle.std.specs.Prelude.{if◌then◌else◌}
use Rattle.std.proofs.lemmas.Bool.{and_parts}
use Rattle.elab_rules.specs.cpp_types.Typ.{Typ, typ, Form, void, int, enum, null, ptr, ref, array, func, class, closure, tx_ex, Signature, signature}
use Rattle.elab_rules.specs.cpp_types.Class.{Class}
use Rattle.elab_rules.specs.cpp_types.declared.classes.At.{At}
use Rattle.elab_rules.specs.cpp_types.declared.ranks.Cat.{Cat}
use Rattle.elab_rules.specs.cpp_types.declared.ranks.Cat.TheVariants.{Lvalue, Prvalue}
use Rattle.elab_rules.specs.cpp_overload.Choosing.{chosen}
use Rattle.elab_rules.specs.cpp_tree.declared.kinds.Builtin.{Builtin}
use Rattle.elab_rules.specs.cpp_tree.declared.kinds.TKind.{TKind}
use Rattle.elab_rules.specs.cpp_tree.declared.kinds.TKind.TheVariants as forms
use Rattle.elab_rules.specs.cpp_tree.declared.faults.IllRule.TheVariants.{NotCallable, NoViable, BadMain}
use Rattle.elab_rules.specs.cpp_tree.Trees.{Tree, node, Trees, none, more, one, typ_in, cat_of}
use Rattle.elab_rules.specs.cpp_tree.Typing.{form_in}
use Rattle.elab_rules.specs.elab_ctx.Ctx.{Ctx, Work}
use Rattle.elab_rules.specs.elab_ctx.Steps.{expect, check, Operand}
use Rattle.elab_rules.specs.Values.{valued}
use Rattle.elab_rules.specs.Initialising.{func_at, object_of, arguments, meant, words, places_from, signature_parameters, signature_result}
use Rattle.elab_rules.specs.Names.{is_free, is_method}
use Rattle.elab_rules.specs.Calls as calls
use Rattle.elab_fits.specs.Standing.{On}
use Rattle.elab_fits.proofs.Steps.{skip, expected}
use Rattle.elab_sound_types.specs.Types.{target, result, value, is_held, is_sound, is_sound_signature, are_sound, is_head, IsExpression, IsLookedUp}
use Rattle.elab_sound_types.specs.Types.{IsSoundTree, free, method, get, abort, expression, looked_up}
use Rattle.elab_sound_types.specs.Contexts.{HasSoundTypes}
use Rattle.elab_sound_types.proofs.Sound.{both}
use Rattle.elab_sound_types.proofs.Trees.{Plain, some_same, expression_node, class_head, valued_sound}
use Rattle.elab_sound_types.proofs.Growth.{held_class}
use Rattle.elab_sound_types.proofs.Initial.{made}
use Rattle.elab_sound_types.proofs.Pointers.{pointers_law}
use Rattle.elab_sound_types.proofs.Names.{function_sound}

-- What a call gives (C++14 5.2.2 p10)

result_head : (cs : List Class) (r : Typ) → is_sound cs result r ≡ true → is_head cs (calls.result_type r) (calls.result_category r) ≡ true
result_head cs (typ (ref t) c v) h = (and_parts (not (c || v)) (is_sound cs target t) h).1
result_head cs (typ void c v) h = refl
result_head cs (typ (int k) c v) h = refl
result_head cs (typ (enum e s) c v) h = refl
result_head cs (typ null c v) h = refl
result_head cs (typ (ptr t) c v) h = both h refl
result_head cs (typ (array t k) c v) h = absurd cc
result_head cs (typ (func s) c v) h = absurd cc
result_head cs (typ (class k) c v) h = class_head cs result (class k) (c || v) c v Prvalue refl h
result_head cs (typ (closure k) c v) h = class_head cs result (closure k) (c || v) c v Prvalue refl h
result_head cs (typ (tx_ex (typ f d w)) c v) h = class_head cs result (tx_ex (typ f d w)) (c || v) c v Prvalue refl h

signature_given : (cs : List Class) (s : Signature) → is_sound_signature cs s ≡ true → is_sound cs result (signature_result s) ≡ true
signature_given cs (signature ps r x) h = (and_parts (are_sound cs ps) (is_sound cs result r) h).1

called : (cs : List Class) (c : Ctx) (w : Work) (at : At) (kind : TKind) (s : Signature) (self : Trees) (os : List Operand) → Plain kind
    → is_sound_signature cs s ≡ true → On (made cs) (calls.called c w at kind s self os)
called cs c w at kind s self os p h = skip (made cs) (calls.complete_result c at (signature_result s)) _
    (λ y. skip (made cs) (words c w (signature_parameters s) os) _
    (λ m. expression_node cs kind (calls.result_type (signature_result s)) (calls.result_category (signature_result s)) at _ p
    (result_head cs (signature_result s) (signature_given cs s h))))

call_plain : (k : ℕ) → Plain (forms.Call k)
call_plain k = record { chosen = refl; written = λ cat t kids. refl }

kind_if : (b : Bool) (x y : TKind) → Plain x → Plain y → Plain (if b then x else y)
kind_if true x y h g = h
kind_if false x y h g = g

call_kind : (o : Option Builtin) (k : ℕ) → Plain (calls.call_kind o k)
call_kind (Some b) k = record { chosen = refl; written = λ cat t kids. refl }
call_kind None k = call_plain k

-- `get` of an exception

held_head : (cs : List Class) (f : Form) (t : Typ) (c v : Bool) (cat : Cat) → calls.value_type f ≡ Some t → is_head cs (typ f c v) cat ≡ true
    → is_sound cs value (typ (tx_ex t) c v) ≡ true
held_head cs (tx_ex u) t c v cat e h = exception_of u t cat (some_same u t e) h
  where
    exception_of : (a b : Typ) (x : Cat) → a ≡ b → is_head cs (typ (tx_ex a) c v) x ≡ true → is_sound cs value (typ (tx_ex b) c v) ≡ true
    exception_of (typ f d w) b Lvalue e h = ap (λ (z : Typ). is_sound cs value (typ (tx_ex z) c v)) (sym e) ∙ h
    exception_of (typ f d w) b Prvalue e h = ap (λ (z : Typ). is_sound cs value (typ (tx_ex z) c v)) (sym e)
        ∙ (and_parts (not (d || w) && is_held cs f) true h).0
held_head cs void t c v cat e h = absurd cc
held_head cs (int k) t c v cat e h = absurd cc
held_head cs (enum m s) t c v cat e h = absurd cc
held_head cs null t c v cat e h = absurd cc
held_head cs (ptr u) t c v cat e h = absurd cc
held_head cs (ref u) t c v cat e h = absurd cc
held_head cs (array u k) t c v cat e h = absurd cc
held_head cs (func s) t c v cat e h = absurd cc
held_head cs (class k) t c v cat e h = absurd cc
held_head cs (closure k) t c v cat e h = absurd cc

exception_value : (cs : List Class) (c : Ctx) (at : At) (e : Tree) (f : Form) (d v : Bool) → is_held cs f ≡ true → IsExpression cs (calls.exception_value c at e (typ f d v))
exception_value cs c at e (int k) d v h = record { head = refl; chosen = refl; written = refl }
exception_value cs c at e (enum m s) d v h = record { head = refl; chosen = refl; written = refl }
exception_value cs c at e (class k) d v h = record { head = class_head cs value (class k) false false false Prvalue refl (held_class cs k h); chosen = refl; written = refl }
exception_value cs c at e void d v h = absurd cc
exception_value cs c at e null d v h = absurd cc
exception_value cs c at e (ptr t) d v h = absurd cc
exception_value cs c at e (ref t) d v h = absurd cc
exception_value cs c at e (array t k) d v h = absurd cc
exception_value cs c at e (func s) d v h = absurd cc
exception_value cs c at e (closure k) d v h = absurd cc
exception_value cs c at e (tx_ex t) d v h = absurd cc

value_of_held : (cs : List Class) (c : Ctx) (at : At) (e : Tree) (t : Typ) (d v : Bool) → is_sound cs value (typ (tx_ex t) d v) ≡ true
    → IsExpression cs (calls.exception_value c at e t)
value_of_held cs c at e (typ f x y) d v h = exception_value cs c at e f x y (and_parts (not (x || y)) (is_held cs f) h).1

call_get : (cs : List Class) (c : Ctx) (w : Work) (at : At) (e : Tree) (os : List Operand) → IsExpression cs e → On (made cs) (calls.call_get c w at e os)
call_get cs c w at (node kind (typ f d v) cat p kids) [] h = expected (made cs) at NotCallable (calls.value_type f) _
    (λ t i. skip (made cs) (check at NoViable (not v)) _
    (λ y. value_of_held cs c at (node kind (typ f d v) cat p kids) t d v (held_head cs f t d v cat i h.head)))
call_get cs c w at e (o ∷ os) h = tt

-- Through pointers

call_pointer : (cs : List Class) (c : Ctx) (w : Work) (at : At) (f : Form) (p : Tree) (os : List Operand) → ((u : Typ) → f ≡ ptr u → is_sound cs target u ≡ true)
    → On (made cs) (calls.call_pointer c w at f p os)
call_pointer cs c w at (ptr (typ (func s) d v)) p os h = skip (made cs) (meant at (chosen c.classes (record { signature = s; this = None } ∷ []) (arguments os))) _
    (λ i. called cs c w at forms.PointerCall s (one p) os (record { chosen = refl; written = λ cat t kids. refl })
    (and_parts (not (d || v)) (is_sound_signature cs s) (h (typ (func s) d v) refl)).1)
call_pointer cs c w at f p os h = tt

call_abort : (cs : List Class) (w : Work) (at : At) (b : Builtin) (os : List Operand) → On (made cs) (calls.call_abort w at b os)
call_abort cs w at b [] = record { head = refl; chosen = refl; written = refl }
call_abort cs w at b (o ∷ os) = tt

-- Of a context with sound types

module _ (c : Ctx) (v : Work) (h : HasSoundTypes c v) where
  abbrev cs : List Class
  cs = c.classes

  call_free : (w : Work) (at : At) (k : ℕ) (os : List Operand) → On (made cs) (calls.call_free c w at k os)
  call_free w at k os = skip (made cs) (check at BadMain (not (calls.is_main (func_at c.funcs k)))) _
      (λ y. skip (made cs) (calls.best_of c at (places_from (is_free (func_at c.funcs k).declared.name) 0 c.funcs) os) _
      (λ i. called cs c w at (calls.call_kind (func_at c.funcs i).builtin i) (func_at c.funcs i).declared.signature none os
      (call_kind (func_at c.funcs i).builtin i) (function_sound c v h i)))

  member_kind : (m k : ℕ) → Plain (calls.member_kind c m k)
  member_kind m k = kind_if (func_at c.funcs k).declared.is_virtual _ _ (record { chosen = refl; written = λ cat t kids. refl }) (call_plain k)

  call_method : (w : Work) (at : At) (k : ℕ) (self : Tree) (os : List Operand) → On (made cs) (calls.call_method c w at k self os)
  call_method w at k self os = skip (made cs) (expect at NotCallable (func_at c.funcs k).class) _
      (λ m. skip (made cs) (calls.best_of c at (places_from (is_method m (func_at c.funcs k).declared.name) 0 c.funcs)
      (record { tree = self; at = at; zero = false } ∷ os)) _
      (λ i. called cs c w at (calls.member_kind c m i) (func_at c.funcs i).declared.signature (one (calls.as_object at m self)) os (member_kind m i)
      (function_sound c v h i)))

  call_closure : (w : Work) (at : At) (m : ℕ) (callee : Operand) (os : List Operand) → On (made cs) (calls.call_closure c w at m callee os)
  call_closure w at m callee os = skip (made cs) (calls.best_of c at (places_from (calls.is_closure_call m) 0 c.funcs)
      (record { tree = (object_of c w callee.at callee.tree).tree; at = callee.at; zero = false } ∷ os)) _
      (λ i. called cs c (object_of c w callee.at callee.tree).work at (forms.Call i) (func_at c.funcs i).declared.signature
      (one (object_of c w callee.at callee.tree).tree) os (call_plain i) (function_sound c v h i))

  through_value : (w : Work) (at : At) (callee : Operand) (os : List Operand) → IsExpression cs callee.tree
      → On (made cs) (calls.call_pointer c w at (form_in (typ_in (valued callee.at callee.tree))) (valued callee.at callee.tree) os)
  through_value w at callee os g = call_pointer cs c w at (form_in (typ_in (valued callee.at callee.tree))) (valued callee.at callee.tree) os
      (λ u e. pointers_law cs (typ_in (valued callee.at callee.tree)) u (cat_of (valued callee.at callee.tree)) (valued_sound cs callee.at callee.tree g).head e)

  call_value : (w : Work) (at : At) (f : Form) (callee : Operand) (os : List Operand) → IsExpression cs callee.tree
      → On (made cs) (calls.call_value c w at f callee os)
  call_value w at (closure m) callee os g = call_closure w at m callee os
  call_value w at f callee os g = through_value w at callee os g

  -- an expression that is called is a value
  call_expression : (w : Work) (at : At) (callee : Operand) (t : Tree) (os : List Operand) → IsExpression cs t → IsExpression cs callee.tree
      → On (made cs) (calls.call_form c w at callee t os)
  call_expression w at callee (node (forms.Function k) (typ void d x) Lvalue p none) os g i = let e : false ≡ true = g.head in absurd cc
  call_expression w at callee (node (forms.Function k) (typ void d x) Lvalue p (more self none)) os g i = let e : false ≡ true = g.head in absurd cc
  call_expression w at callee (node forms.Default t cat p (more e none)) os g i = let e : true ≡ false = g.chosen in absurd cc
  call_expression w at callee (node (forms.Builtin b) (typ void d x) Lvalue p none) os g i = let e : false ≡ true = g.head in absurd cc
  call_expression w at callee t os g i = call_value w at (form_in (typ_in t)) callee os i

  call_found : (w : Work) (at : At) (callee : Operand) (t : Tree) (os : List Operand) → IsLookedUp cs t → On (made cs) (calls.call_form c w at callee t os)
  call_found w at callee _ os (free k p) = call_free w at k os
  call_found w at callee _ os (method k p e g) = call_method w at k e os
  call_found w at callee _ os (get p e g) = call_get cs c w at e os g
  call_found w at callee _ os (abort p) = call_abort cs w at _ os

  pub call : (w : Work) (at : At) (callee : Operand) (os : List Operand) → IsSoundTree cs callee.tree → On (made cs) (calls.call c w at callee os)
  call w at callee os (expression g) = call_expression w at callee callee.tree os g g
  call w at callee os (looked_up g) = call_found w at callee callee.tree os g
