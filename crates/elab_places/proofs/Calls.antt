-- Calls, casts and throws own what their operands own, and what was added for them.
use Rattle.std.proofs.Common.{◌≡◌, refl, ap, ℕ, ◌+◌, ◌≤◌, false, not, ◌&&◌, List, [], ◌∷◌, Option, Some, None, is_some, Result, Ok, Err, arith}
use Rattle.std.specs.Prelude.{if◌then◌else◌}
use Rattle.elab_rules.specs.tx_ints.declared.kinds.IntKind.{IntKind}
use Rattle.elab_rules.specs.cpp_types.Typ.{Typ, typ, Form, void, ptr, ref, array, func, class, closure, tx_ex, Signature}
use Rattle.elab_rules.specs.cpp_types.declared.classes.At.{At}
use Rattle.elab_rules.specs.cpp_types.declared.ranks.Cat.TheVariants.{Lvalue}
use Rattle.elab_rules.specs.cpp_overload.Choosing.{chosen}
use Rattle.elab_rules.specs.cpp_tree.declared.kinds.TKind.{TKind}
use Rattle.elab_rules.specs.cpp_tree.declared.kinds.TKind.TheVariants as forms
use Rattle.elab_rules.specs.cpp_tree.declared.kinds.Builtin.{Builtin}
use Rattle.elab_rules.specs.cpp_tree.declared.faults.ElabFault.{ElabFault}
use Rattle.elab_rules.specs.cpp_tree.declared.faults.IllRule.TheVariants.{NotCallable, NoViable, BadMain, BadInit, BadThrow, NoCopy, NotTriviallyCopyable}
use Rattle.elab_rules.specs.cpp_tree.Trees.{Tree, node, Trees, none, more, one, typ_in}
use Rattle.elab_rules.specs.cpp_tree.Typing.{form_in, unqualified, is_class_typ, is_void, is_volatile_typ, is_reference, kind_in}
use Rattle.elab_rules.specs.elab_ctx.Ctx.{Ctx, Work}
use Rattle.elab_rules.specs.elab_ctx.Steps.{and_then, expect, check, Operand, Made}
use Rattle.elab_rules.specs.Objects.{followed_by, traits_at}
use Rattle.elab_rules.specs.Values
use Rattle.elab_rules.specs.Initialising
use Rattle.elab_rules.specs.Initialising.{func_at, places_from, signature_parameters, signature_result}
use Rattle.elab_rules.specs.Operators
use Rattle.elab_rules.specs.Names.{is_free, is_method}
use Rattle.elab_rules.specs.Calls
use Rattle.elab_rules.specs.Casts
use Rattle.elab_places.proofs.Counting.{Sought, held, all_held, operands_held, own_count, Gives, GiveAll, HoldsAtMost, same}
use Rattle.elab_places.proofs.Steps.{On, bind, skip, either, choose}
use Rattle.elab_places.proofs.Parts as parts
use Rattle.elab_places.proofs.Values as values
use Rattle.elab_places.proofs.Initials as initials
use Rattle.elab_places.proofs.Operators as operators
use Rattle.elab_places.proofs.Choices as choices

module _ (g : Sought) where
  -- Calls

  -- a call of a kind that has no place of its own
  called : (c : Ctx) (w : Work) (at : At) (kind : TKind) (sig : Signature) (self : Trees) (os : List Operand)
      → ((ts : Trees) → own_count g kind ts ≡ 0)
      → On (Gives g (all_held g self + operands_held g os) w) (Calls.called c w at kind sig self os)
  called c w at kind sig self os k = skip P (Calls.complete_result c at (signature_result sig)) _
      (λ y. bind (GiveAll g (operands_held g os) w) P (Initialising.words c w (signature_parameters sig) os) _ (initials.words g c w (signature_parameters sig) os)
      (λ m h. omega (arith, k (followed_by self m.trees), parts.followed g self m.trees)))
    where
      P : Made → Type 0
      P = Gives g (all_held g self + operands_held g os) w

  call_kind : (b : Option Builtin) (i : ℕ) (ts : Trees) → own_count g (Calls.call_kind b i) ts ≡ 0
  call_kind (Some b) i ts = refl
  call_kind None i ts = refl

  call_free : (c : Ctx) (w : Work) (at : At) (f : ℕ) (os : List Operand) → On (Gives g (operands_held g os) w) (Calls.call_free c w at f os)
  call_free c w at f os = skip (Gives g (operands_held g os) w) (check at BadMain (not (Calls.is_main (func_at c.funcs f)))) _
      (λ y. skip (Gives g (operands_held g os) w) (Calls.best_of c at (places_from (is_free (func_at c.funcs f).declared.name) 0 c.funcs) os) _
      (λ i. initials.wider g (0 + operands_held g os) (operands_held g os) w
      (Calls.called c w at (Calls.call_kind (func_at c.funcs i).builtin i) (func_at c.funcs i).declared.signature none os) (omega arith)
      (called c w at (Calls.call_kind (func_at c.funcs i).builtin i) (func_at c.funcs i).declared.signature none os
      (call_kind (func_at c.funcs i).builtin i))))

  member_kind : (c : Ctx) (n i : ℕ) (ts : Trees) → own_count g (Calls.member_kind c n i) ts ≡ 0
  member_kind c n i ts = choose (λ (kind : TKind). own_count g kind ts ≡ 0) (func_at c.funcs i).declared.is_virtual _ _ refl refl

  as_object : (at : At) (n : ℕ) (e : Tree) → held g (Calls.as_object at n e) ≤ held g e
  as_object at n e = choose (HoldsAtMost g (held g e)) (Initialising.same_number n (Initialising.class_number (typ_in e))) _ _ (same (held g e))
      (values.as_base g at n (typ_in e) e)

  call_method_of : (c : Ctx) (w : Work) (at : At) (n f : ℕ) (self : Tree) (os : List Operand)
      → On (Gives g (held g self + operands_held g os) w) (Calls.call_method_of c w at n f self os)
  call_method_of c w at n f self os = skip (Gives g (held g self + operands_held g os) w)
      (Calls.best_of c at (places_from (is_method n (func_at c.funcs f).declared.name) 0 c.funcs) (record { tree = self; at = at; zero = false } ∷ os)) _
      (λ i. initials.wider g (all_held g (one (Calls.as_object at n self)) + operands_held g os) (held g self + operands_held g os) w
      (Calls.called c w at (Calls.member_kind c n i) (func_at c.funcs i).declared.signature (one (Calls.as_object at n self)) os)
      (omega (arith, as_object at n self))
      (called c w at (Calls.member_kind c n i) (func_at c.funcs i).declared.signature (one (Calls.as_object at n self)) os (member_kind c n i)))

  call_method : (c : Ctx) (w : Work) (at : At) (f : ℕ) (self : Tree) (os : List Operand)
      → On (Gives g (held g self + operands_held g os) w) (Calls.call_method c w at f self os)
  call_method c w at f self os = skip (Gives g (held g self + operands_held g os) w) (expect at NotCallable (func_at c.funcs f).class) _
      (λ n. call_method_of c w at n f self os)

  loaded_value : (at : At) (k : Option IntKind) (t : Typ) (e : Tree) → held g (Calls.loaded_value at k t e) ≤ held g e
  loaded_value at (Some kind) t e = omega arith
  loaded_value at None t e = omega arith

  exception_value : (c : Ctx) (at : At) (e : Tree) (t : Typ) → held g (Calls.exception_value c at e t) ≤ held g e
  exception_value c at e (typ f d v) = choose (HoldsAtMost g (held g e)) (is_class_typ (typ f d v)) _ _
      (omega (arith, parts.copies g c.classes at (typ f false false))) (loaded_value at (kind_in f) (typ f false false) e)

  call_get : (c : Ctx) (w : Work) (at : At) (e : Tree) (os : List Operand) → On (Gives g (held g e + operands_held g os) w) (Calls.call_get c w at e os)
  call_get c w at e [] = skip (Gives g (held g e + 0) w) (expect at NotCallable (Calls.value_type (form_in (typ_in e)))) _
      (λ (t : Typ). skip (Gives g (held g e + 0) w) (check at NoViable (not (is_volatile_typ (typ_in e)))) _ (λ y. omega (arith, exception_value c at e t)))
  call_get c w at e (o ∷ os) = tt

  -- an operand and the words behind it
  abbrev GivesCall : Work → Operand → List Operand → Made → Type 0
  GivesCall w callee os m = Gives g (held g callee.tree + operands_held g os) w m

  call_closure : (c : Ctx) (w : Work) (at : At) (n : ℕ) (callee : Operand) (os : List Operand)
      → On (GivesCall w callee os) (Calls.call_closure c w at n callee os)
  call_closure c w at n callee os = skip (GivesCall w callee os)
      (Calls.best_of c at (places_from (Calls.is_closure_call n) 0 c.funcs) (record { tree = x.tree; at = callee.at; zero = false } ∷ os)) _
      (λ i. initials.later g (all_held g (one x.tree) + operands_held g os) (held g callee.tree + operands_held g os) w x.work
      (Calls.called c x.work at (forms.Call i) (func_at c.funcs i).declared.signature (one x.tree) os)
      (omega (arith, initials.object g c w callee.at callee.tree))
      (called c x.work at (forms.Call i) (func_at c.funcs i).declared.signature (one x.tree) os (λ ts. refl)))
    where
      x : Made
      x = Initialising.object_of c w callee.at callee.tree

  call_pointer : (c : Ctx) (w : Work) (at : At) (f : Form) (p : Tree) (os : List Operand)
      → On (Gives g (held g p + operands_held g os) w) (Calls.call_pointer c w at f p os)
  call_pointer c w at (ptr (typ (func sig) d v)) p os = skip (Gives g (held g p + operands_held g os) w)
      (Initialising.meant at (chosen c.classes (record { signature = sig; this = None } ∷ []) (Initialising.arguments os))) _
      (λ i. initials.wider g (all_held g (one p) + operands_held g os) (held g p + operands_held g os) w
      (Calls.called c w at forms.PointerCall sig (one p) os) (omega arith) (called c w at forms.PointerCall sig (one p) os (λ ts. refl)))
  call_pointer c w at f p os = tt

  pointed_call : (c : Ctx) (w : Work) (at : At) (callee : Operand) (os : List Operand)
      → On (GivesCall w callee os)
      (Calls.call_pointer c w at (form_in (typ_in (Values.valued callee.at callee.tree))) (Values.valued callee.at callee.tree) os)
  pointed_call c w at callee os = initials.wider g (held g p + operands_held g os) (held g callee.tree + operands_held g os) w
      (Calls.call_pointer c w at (form_in (typ_in p)) p os) (omega (arith, values.valued g callee.at callee.tree)) (call_pointer c w at (form_in (typ_in p)) p os)
    where
      p : Tree
      p = Values.valued callee.at callee.tree

  call_value : (c : Ctx) (w : Work) (at : At) (f : Form) (callee : Operand) (os : List Operand)
      → On (GivesCall w callee os) (Calls.call_value c w at f callee os)
  call_value c w at (closure n) callee os = call_closure c w at n callee os
  call_value c w at f callee os = pointed_call c w at callee os

  call_abort : (d : ℕ) (w : Work) (at : At) (b : Builtin) (os : List Operand) → On (Gives g d w) (Calls.call_abort w at b os)
  call_abort d w at b [] = omega arith
  call_abort d w at b (o ∷ os) = tt

  -- what is called is the operand's tree
  call_form : (c : Ctx) (w : Work) (at : At) (callee : Operand) (t : Tree) (os : List Operand) → callee.tree ≡ t
      → On (GivesCall w callee os) (Calls.call_form c w at callee t os)
  call_form c w at callee (node (forms.Function i) (typ void d v) Lvalue p none) os e =
      initials.wider g (operands_held g os) (held g callee.tree + operands_held g os) w (Calls.call_free c w at i os) (omega arith) (call_free c w at i os)
  call_form c w at callee (node (forms.Function i) (typ void d v) Lvalue p (more self none)) os e =
      initials.wider g (held g self + operands_held g os) (held g callee.tree + operands_held g os) w (Calls.call_method c w at i self os)
      (inner self e) (call_method c w at i self os)
    where
      inner : (x : Tree) → callee.tree ≡ node (forms.Function i) (typ void d v) Lvalue p (more x none)
          → held g x + operands_held g os ≤ held g callee.tree + operands_held g os
      inner x h = let q : held g callee.tree ≡ held g (node (forms.Function i) (typ void d v) Lvalue p (more x none)) = ap (held g) h in omega arith
  call_form c w at callee (node forms.Default t cat p (more x none)) os e =
      initials.wider g (held g x + operands_held g os) (held g callee.tree + operands_held g os) w (Calls.call_get c w at x os)
      (let q : held g callee.tree ≡ held g (node forms.Default t cat p (more x none)) = ap (held g) e in omega arith) (call_get c w at x os)
  call_form c w at callee (node (forms.Builtin b) (typ void d v) Lvalue p none) os e = call_abort (held g callee.tree + operands_held g os) w at b os
  call_form c w at callee t os e = call_value c w at (form_in (typ_in t)) callee os

  pub call : (c : Ctx) (w : Work) (at : At) (callee : Operand) (os : List Operand) → On (GivesCall w callee os) (Calls.call c w at callee os)
  call c w at callee os = call_form c w at callee callee.tree os refl

  -- Casts

  stored_at : (at : At) (e : Tree) → held g (Casts.stored_at at e) ≤ held g e
  stored_at at (node (forms.Store kind v) t cat p ts) = same (held g (node (forms.Store kind v) t cat p ts))
  stored_at at (node kind t cat p ts) = same (held g (node kind t cat p ts))

  as_expression : (at : At) (t : Typ) (e : Tree) → held g (Casts.as_expression at t e) ≤ held g e
  as_expression at t e = choose (HoldsAtMost g (held g e))
      (Values.is_exception_form (form_in t) && not (Values.is_exception_form (form_in (typ_in e)))) _ _ (omega (arith, stored_at at e)) (same (held g e))

  reference_cast : (at : At) (u : Typ) (e : Tree) → held g (Casts.reference_cast at u e) ≤ held g e
  reference_cast at u (node forms.Retype t Lvalue p ts) = omega arith
  reference_cast at u (node kind t cat p ts) = omega arith

  -- what is made of what was made
  pub with_tree : (b : ℕ) (w : Work) (r : Result Made ElabFault) (f : Tree → Tree) → ((e : Tree) → held g (f e) ≤ held g e) → On (Gives g b w) r
      → On (Gives g b w) (and_then r (λ (m : Made). Ok (Initialising.with_tree f m)))
  with_tree b w (Ok m) f h i = omega (arith, h m.tree)
  with_tree b w (Err e) f h i = tt

  scalar_cast : (c : Ctx) (w : Work) (at : At) (t : Typ) (o : Operand) → On (Gives g (held g o.tree) w) (Casts.scalar_cast c w at t o)
  scalar_cast c w at t o = either (Gives g (held g o.tree) w) (Casts.is_numeric (form_in (typ_in (Operators.value o))) && Casts.is_numeric (form_in t)) _ _
      (omega (arith, values.converted g at t (Operators.value o), operators.value g o))
      (initials.wider g (held g (Operators.value o)) (held g o.tree) w
      (Initialising.initial c w (unqualified t) (record { tree = Operators.value o; at = at; zero = o.zero })) (operators.value g o)
      (initials.initial g c w (unqualified t) (record { tree = Operators.value o; at = at; zero = o.zero })))

  object_cast : (c : Ctx) (w : Work) (at : At) (t : Typ) (os : List Operand)
      → On (Gives g (operands_held g os) w) (and_then (Initialising.from_values c w t at os)
      (λ (m : Made). Ok (Initialising.with_tree (Casts.as_expression at t) m)))
  object_cast c w at t os = with_tree (operands_held g os) w (Initialising.from_values c w t at os) (Casts.as_expression at t)
      (as_expression at t) (initials.from_values g c w t at os)

  other_cast : (c : Ctx) (w : Work) (at : At) (t : Typ) (o : Operand)
      → On (Gives g (held g o.tree + 0) w) (if is_class_typ t then and_then (Initialising.from_values c w t at (o ∷ []))
      (λ (m : Made). Ok (Initialising.with_tree (Casts.as_expression at t) m)) else Casts.scalar_cast c w at t o)
  other_cast c w at t o = either (Gives g (held g o.tree + 0) w) (is_class_typ t) _ _ (object_cast c w at t (o ∷ []))
      (initials.wider g (held g o.tree) (held g o.tree + 0) w (Casts.scalar_cast c w at t o) (omega arith) (scalar_cast c w at t o))

  reference_made : (c : Ctx) (w : Work) (at : At) (t u : Typ) (o : Operand)
      → On (Gives g (held g o.tree + 0) w) (and_then (Initialising.initial c w t o) (λ (m : Made). Ok (Initialising.with_tree (Casts.reference_cast at u) m)))
  reference_made c w at t u o = with_tree (held g o.tree + 0) w (Initialising.initial c w t o) (Casts.reference_cast at u) (reference_cast at u)
      (initials.wider g (held g o.tree) (held g o.tree + 0) w (Initialising.initial c w t o) (omega arith) (initials.initial g c w t o))

  cast_in : (c : Ctx) (w : Work) (at : At) (t : Typ) (f : Form) (o : Operand) → On (Gives g (held g o.tree + 0) w) (Casts.cast_in c w at t f o)
  cast_in c w at t void o = omega (arith, choices.dropped g c w o)
  cast_in c w at t (ref u) o = reference_made c w at t u o
  cast_in c w at t (func s) o = tt
  cast_in c w at t (array u n) o = tt
  cast_in c w at t f o = other_cast c w at t o

  pub cast : (c : Ctx) (w : Work) (at : At) (t : Typ) (o : Operand) → On (Gives g (held g o.tree + 0) w) (Casts.cast c w at t o)
  cast c w at t o = cast_in c w at t (form_in t) o

  pub functional : (c : Ctx) (w : Work) (at : At) (t : Typ) (os : List Operand) → On (Gives g (operands_held g os) w) (Casts.functional c w at t os)
  functional c w at t (o ∷ []) = cast c w at t o
  functional c w at t [] = either (Gives g 0 w) (is_class_typ t) _ _ (object_cast c w at t [])
      (either (Gives g 0 w) (is_void t) _ _ (omega arith)
      (skip (Gives g 0 w) (check at BadInit (is_some (kind_in (form_in t)) && not (is_reference t))) _ (λ y. omega arith)))
  functional c w at t (o ∷ p ∷ os) = either (Gives g (operands_held g (o ∷ p ∷ os)) w) (is_class_typ t) _ _ (object_cast c w at t (o ∷ p ∷ os)) tt

  -- Throws

  throw_node : (c : Ctx) (at : At) (t : Typ) (e : Tree) → held g (Casts.throw_node c at t e) ≤ held g e
  throw_node c at t e = omega (arith, parts.fields g c.classes at t)

  throw_object : (c : Ctx) (w : Work) (at : At) (o : Operand) → On (Gives g (held g o.tree) w) (Casts.throw_object c w at o)
  throw_object c w at o = skip (Gives g (held g o.tree) w) (check o.at NoCopy (not (is_volatile_typ (typ_in o.tree)))) _
      (λ y. skip (Gives g (held g o.tree) w) (Casts.within_exception c at (typ_in o.tree)) _
      (λ z. initials.of_object g c w o.at o.tree (Casts.throw_node c at (typ_in o.tree)) (λ x. throw_node c at (typ_in o.tree) x)))

  throw_scalar : (c : Ctx) (w : Work) (at : At) (o : Operand)
      → On (Gives g (held g o.tree) w) (and_then (check at BadThrow (Casts.is_thrown_scalar (form_in (typ_in (Operators.value o)))))
      (λ y. Ok (record { tree = Casts.throw_node c at (typ_in (Operators.value o)) (Operators.value o); work = w })))
  throw_scalar c w at o = skip (Gives g (held g o.tree) w) (check at BadThrow (Casts.is_thrown_scalar (form_in (typ_in (Operators.value o))))) _
      (λ y. omega (arith, throw_node c at (typ_in (Operators.value o)) (Operators.value o), operators.value g o))

  throw_in : (c : Ctx) (w : Work) (at : At) (f : Form) (o : Operand) → On (Gives g (held g o.tree) w) (Casts.throw_in c w at f o)
  throw_in c w at (class n) o = skip (Gives g (held g o.tree) w) (check at NotTriviallyCopyable (traits_at c n).is_trivially_copyable) _
      (λ y. throw_object c w at o)
  throw_in c w at (tx_ex t) o = throw_object c w at o
  throw_in c w at f o = throw_scalar c w at o

  pub throw : (c : Ctx) (w : Work) (at : At) (os : List Operand) → On (Gives g (operands_held g os) w) (Casts.throw c w at os)
  throw c w at [] = omega arith
  throw c w at (o ∷ os) = with_tree (operands_held g (o ∷ os)) w (Casts.throw_in c w at (form_in (typ_in o.tree)) o) (Operators.without_value at)
      (λ e. omega arith)
      (initials.wider g (held g o.tree) (operands_held g (o ∷ os)) w (Casts.throw_in c w at (form_in (typ_in o.tree)) o) (omega arith)
      (throw_in c w at (form_in (typ_in o.tree)) o))
