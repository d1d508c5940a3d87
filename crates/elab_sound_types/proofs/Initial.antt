-- Temporaries, references that are bound, and conversions have the types of expressions.
use Rattle.std.proofs.Common.{◌≡◌, refl, sym, subst, Bool, true, false, not, ◌&&◌, ◌||◌, cond, List, Option, Some, None, Result, Ok}
use Rattle.std.specs.Prelude.{if◌then◌else◌}
use Rattle.std.proofs.lemmas.Bool.{and_parts}
use Rattle.elab_rules.specs.cpp_types.Typ.{Typ, typ, Form, void, int, enum, null, ptr, ref, array, func, class, closure, tx_ex}
use Rattle.elab_rules.specs.cpp_types.Equal.{form_eq, typ_eq}
use Rattle.elab_rules.specs.cpp_types.Class.{Class}
use Rattle.elab_rules.specs.cpp_types.Conversion.{step_of, bound, has_value, decayed, is_object, object_binding, related_step, temporary, keeps, const_of}
use Rattle.elab_rules.specs.cpp_types.Conversion.{volatile_of, is_lvalue, only_const, form_of}
use Rattle.elab_rules.specs.cpp_types.declared.classes.At.{At}
use Rattle.elab_rules.specs.cpp_types.declared.ranks.Cat.{Cat}
use Rattle.elab_rules.specs.cpp_types.declared.ranks.Cat.TheVariants.{Lvalue, Prvalue}
use Rattle.elab_rules.specs.cpp_types.declared.ranks.Step.{Step}
use Rattle.elab_rules.specs.cpp_types.declared.ranks.Step.TheVariants.{Identity}
use Rattle.elab_rules.specs.cpp_types.declared.ranks.Conversion.{Conversion}
use Rattle.elab_rules.specs.cpp_types.declared.ranks.Binding.TheVariants.{Value, Direct, Temporary}
use Rattle.elab_rules.specs.cpp_tree.declared.faults.ElabFault.{ElabFault}
use Rattle.elab_rules.specs.cpp_tree.declared.faults.IllRule.TheVariants.{NoConversion}
use Rattle.elab_rules.specs.cpp_tree.Trees.{Tree, typ_in, cat_of}
use Rattle.elab_rules.specs.cpp_tree.Typing.{is_class_prvalue}
use Rattle.elab_rules.specs.elab_ctx.Ctx.{Ctx, Work}
use Rattle.elab_rules.specs.elab_ctx.Steps.{and_then, expect, Operand, Made}
use Rattle.elab_rules.specs.Values.{valued, stepped}
use Rattle.elab_rules.specs.Initialising.{object_of, seen_as, bound_by, initial}
use Rattle.elab_fits.specs.Standing.{On}
use Rattle.elab_sound_types.specs.Types.{target, result, value, is_sound, is_head, IsExpression}
use Rattle.elab_sound_types.proofs.Sound.{unqualified_sound}
use Rattle.elab_sound_types.proofs.Trees.{tree_if, class_sound, lvalue_retyped, valued_sound, converted_sound, stepped_sound}

-- what is made has the type of an expression
abbrev pub made : List Class → Made → Type 0
made cs m = IsExpression cs m.tree

pub made_if : (cs : List Class) (b : Bool) (x y : Made) → (b ≡ true → made cs x) → (b ≡ false → made cs y) → made cs (if b then x else y)
made_if cs true x y h k = h refl
made_if cs false x y h k = k refl

-- the object that a prvalue of a class stands for is an lvalue of its type
object_type : (cs : List Class) (t : Typ) (cat : Cat) → is_class_prvalue t cat ≡ true → is_head cs t cat ≡ true → is_sound cs target t ≡ true
object_type cs t Prvalue i h = class_sound cs t Prvalue i h
object_type cs t Lvalue i h = absurd cc

pub object_sound : (cs : List Class) (c : Ctx) (w : Work) (at : At) (e : Tree) → IsExpression cs e → made cs (object_of c w at e)
object_sound cs c w at e h = made_if cs (is_class_prvalue (typ_in e) (cat_of e)) _ _
    (λ i. record { head = object_type cs (typ_in e) (cat_of e) i h.head; chosen = refl; written = refl }) (λ i. h)

pub seen_sound : (cs : List Class) (at : At) (t : Typ) (e : Tree) → is_sound cs target t ≡ true → IsExpression cs e → IsExpression cs (seen_as at t e)
seen_sound cs at t e h g = tree_if (IsExpression cs) (typ_eq t (typ_in e)) _ _ g (lvalue_retyped cs at t e h)

-- Conversions to values

-- what is done with a conversion
abbrev bind_it : Ctx → Work → Typ → Operand → Conversion → Result Made ElabFault
bind_it c w t o v = Ok (bound_by c w v.binding v.step t o.at o.tree)

by_value : (cs : List Class) (c : Ctx) (w : Work) (t : Typ) (o : Operand) (b : Bool) (r : Option Step)
    → ((x : Step) → r ≡ Some x → IsExpression cs (stepped o.at x t (valued o.at o.tree)))
    → On (made cs) (and_then (expect o.at NoConversion (cond b (bound Value r) None)) (bind_it c w t o))
by_value cs c w t o true (Some x) g = g x refl
by_value cs c w t o true None g = tt
by_value cs c w t o false r g = tt

-- an exception is converted from one of its type alone
exception_same : (b : Bool) (x : Step) → cond b (Some Identity) None ≡ Some x → x ≡ Identity
exception_same true x h = sym (some_same h)
  where
    some_same : Some Identity ≡ Some x → Identity ≡ x
    some_same h = cc
exception_same false x h = absurd cc

exception_step : (classes : List Class) (literal : Bool) (g : Form) (u : Typ) (x : Step) → step_of classes literal g (tx_ex u) ≡ Some x → x ≡ Identity
exception_step classes literal (ptr t) u x h = absurd cc
exception_step classes literal void u x h = absurd cc
exception_step classes literal (int k) u x h = absurd cc
exception_step classes literal (enum m s) u x h = absurd cc
exception_step classes literal null u x h = absurd cc
exception_step classes literal (ref t) u x h = absurd cc
exception_step classes literal (array t k) u x h = absurd cc
exception_step classes literal (func g) u x h = absurd cc
exception_step classes literal (class k) u x h = absurd cc
exception_step classes literal (closure k) u x h = absurd cc
exception_step classes literal (tx_ex t) u x h = exception_same (form_eq (tx_ex t) (tx_ex u)) x h

identity_sound : (cs : List Class) (at : At) (step : Step) (t : Typ) (v : Tree) → step ≡ Identity → is_sound cs value t ≡ true → IsExpression cs v
    → IsExpression cs (stepped at step t v)
identity_sound cs at step t v e h g = subst (λ (x : Step). IsExpression cs (stepped at x t v)) (sym e) (converted_sound cs at t v h g)

-- Conversions to references

by_temporary : (cs : List Class) (c : Ctx) (w : Work) (t : Typ) (o : Operand) (b : Bool) (r : Option Step) → ((x : Step) → made cs (bound_by c w Temporary x t o.at o.tree))
    → On (made cs) (and_then (expect o.at NoConversion (cond b (bound Temporary r) None)) (bind_it c w t o))
by_temporary cs c w t o true (Some x) g = g x
by_temporary cs c w t o true None g = tt
by_temporary cs c w t o false r g = tt

by_direct : (cs : List Class) (c : Ctx) (w : Work) (t : Typ) (o : Operand) (b : Bool) (x : Step) → made cs (bound_by c w Direct x t o.at o.tree)
    → On (made cs) (and_then (expect o.at NoConversion (cond b (Some (record { step = x; binding = Direct })) None)) (bind_it c w t o))
by_direct cs c w t o true x g = g
by_direct cs c w t o false x g = tt

by_object : (cs : List Class) (c : Ctx) (w : Work) (t u : Typ) (o : Operand) (r : Option Step) → ((x : Step) → made cs (bound_by c w Direct x t o.at o.tree))
    → ((x : Step) → made cs (bound_by c w Temporary x t o.at o.tree))
    → On (made cs) (and_then (expect o.at NoConversion (object_binding c.classes (cat_of o.tree) o.zero (typ_in o.tree) u r)) (bind_it c w t o))
by_object cs c w t u o (Some x) g k = by_direct cs c w t o (keeps (const_of (typ_in o.tree)) (volatile_of (typ_in o.tree)) (const_of u) (volatile_of u)
    && (is_lvalue (cat_of o.tree) || only_const u)) x (g x)
by_object cs c w t u o None g k = by_temporary cs c w t o (only_const u) (step_of c.classes o.zero (decayed (typ_in o.tree)) (form_of u)) k

by_reference : (cs : List Class) (c : Ctx) (w : Work) (t u : Typ) (o : Operand) (a b : Bool) → ((x : Step) → made cs (bound_by c w Direct x t o.at o.tree))
    → ((x : Step) → made cs (bound_by c w Temporary x t o.at o.tree))
    → On (made cs) (and_then (expect o.at NoConversion (cond a (cond b
    (object_binding c.classes (cat_of o.tree) o.zero (typ_in o.tree) u (related_step c.classes (typ_in o.tree) u))
    (temporary c.classes o.zero (typ_in o.tree) u)) None)) (bind_it c w t o))
by_reference cs c w t u o true true g k = by_object cs c w t u o (related_step c.classes (typ_in o.tree) u) g k
by_reference cs c w t u o true false g k = by_temporary cs c w t o (only_const u) (step_of c.classes o.zero (decayed (typ_in o.tree)) (form_of u)) k
by_reference cs c w t u o false b g k = tt

-- The conversion that initialises (C++14 8.5)

pub initial_sound : (cs : List Class) (c : Ctx) (w : Work) (t : Typ) (o : Operand) → is_sound cs result t ≡ true → IsExpression cs o.tree → On (made cs) (initial c w t o)
initial_sound cs c w (typ (ref u) q v) o h e = by_reference cs c w (typ (ref u) q v) u o (has_value (typ_in o.tree)) (is_object (cat_of o.tree) (typ_in o.tree))
    (λ x. seen_sound cs o.at u (object_of c w o.at o.tree).tree i (object_sound cs c w o.at o.tree e))
    (λ x. record { head = unqualified_sound cs target u i; chosen = refl; written = refl })
  where
    i : is_sound cs target u ≡ true
    i = (and_parts (not (q || v)) (is_sound cs target u) h).1
initial_sound cs c w (typ void q v) o h e = by_value cs c w (typ void q v) o (has_value (typ_in o.tree)) _
    (λ x i. stepped_sound cs o.at x (typ void q v) (valued o.at o.tree) refl refl (valued_sound cs o.at o.tree e))
initial_sound cs c w (typ (int k) q v) o h e = by_value cs c w (typ (int k) q v) o (has_value (typ_in o.tree)) _
    (λ x i. stepped_sound cs o.at x (typ (int k) q v) (valued o.at o.tree) refl refl (valued_sound cs o.at o.tree e))
initial_sound cs c w (typ (enum m s) q v) o h e = by_value cs c w (typ (enum m s) q v) o (has_value (typ_in o.tree)) _
    (λ x i. stepped_sound cs o.at x (typ (enum m s) q v) (valued o.at o.tree) refl refl (valued_sound cs o.at o.tree e))
initial_sound cs c w (typ null q v) o h e = by_value cs c w (typ null q v) o (has_value (typ_in o.tree)) _
    (λ x i. stepped_sound cs o.at x (typ null q v) (valued o.at o.tree) refl refl (valued_sound cs o.at o.tree e))
initial_sound cs c w (typ (ptr t) q v) o h e = by_value cs c w (typ (ptr t) q v) o (has_value (typ_in o.tree)) _
    (λ x i. stepped_sound cs o.at x (typ (ptr t) q v) (valued o.at o.tree) h refl (valued_sound cs o.at o.tree e))
initial_sound cs c w (typ (array t k) q v) o h e = absurd cc
initial_sound cs c w (typ (func g) q v) o h e = absurd cc
initial_sound cs c w (typ (class k) q v) o h e = by_value cs c w (typ (class k) q v) o (has_value (typ_in o.tree)) _
    (λ x i. stepped_sound cs o.at x (typ (class k) q v) (valued o.at o.tree) h refl (valued_sound cs o.at o.tree e))
initial_sound cs c w (typ (closure k) q v) o h e = by_value cs c w (typ (closure k) q v) o (has_value (typ_in o.tree)) _
    (λ x i. stepped_sound cs o.at x (typ (closure k) q v) (valued o.at o.tree) h refl (valued_sound cs o.at o.tree e))
initial_sound cs c w (typ (tx_ex (typ f d u)) q v) o h e = by_value cs c w (typ (tx_ex (typ f d u)) q v) o (has_value (typ_in o.tree)) _
    (λ x i. identity_sound cs o.at x (typ (tx_ex (typ f d u)) q v) (valued o.at o.tree) (exception_step c.classes o.zero (decayed (typ_in o.tree)) (typ f d u) x i) h
    (valued_sound cs o.at o.tree e))
