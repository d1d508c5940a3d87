-- What a reference is bound to in a temporary is no object of a class: an object that converts to it is bound itself.
use Rattle.std.proofs.Common.{◌≡◌, refl, sym, ap, ◌∙◌, Bool, true, false, ◌&&◌, ◌||◌, List, Option, Some, None}
use Rattle.std.specs.Prelude.{cond}
use Rattle.std.proofs.lemmas.Option.{same_Some}
use Rattle.elab_rules.specs.cpp_types.Typ.{Typ, typ, void, int, enum, null, ptr, ref, array, func, class, closure, tx_ex}
use Rattle.elab_rules.specs.cpp_types.Class.{Class}
use Rattle.elab_rules.specs.cpp_types.Equal.{form_eq}
use Rattle.elab_rules.specs.cpp_types.Conversion.{conversion_of, conversion_to, object_binding, temporary, bound, step_of, decayed}
use Rattle.elab_rules.specs.cpp_types.Conversion.{related_step, to_base, form_of, only_const, keeps, const_of, volatile_of, has_value, is_object, is_object_form, is_lvalue, referred}
use Rattle.elab_rules.specs.cpp_types.declared.ranks.Cat.{Cat}
use Rattle.elab_rules.specs.cpp_types.declared.ranks.Cat.TheVariants.{Lvalue, Prvalue}
use Rattle.elab_rules.specs.cpp_types.declared.ranks.Conversion.{Conversion}
use Rattle.elab_rules.specs.cpp_types.declared.ranks.Step.{Step}
use Rattle.elab_rules.specs.cpp_types.declared.ranks.Step.TheVariants.{Identity}
use Rattle.elab_rules.specs.cpp_types.declared.ranks.Binding.{Binding}
use Rattle.elab_rules.specs.cpp_types.declared.ranks.Binding.TheVariants.{Value, Direct, Temporary}
use Rattle.elab_rules.specs.cpp_tree.Typing.{unqualified}
use Rattle.elab_rules.specs.cpp_tree.WellFormed.{is_item}

-- where there is one
abbrev Where : {A : Type 0} → Type 0 → Option A → Type 0
Where P None = Unit {0}
Where P (Some a) = P

abbrev Item : List Class → Typ → Type 0
Item classes u = is_item classes (unqualified u) ≡ true

always : {A : Type 0} (P : Type 0) (o : Option A) → P → Where P o
always P None p = tt
always P (Some a) p = p

-- a step leads to no array, and to a class from a class alone
same_step : (classes : List Class) (u : Typ) (b : Bool) (x : Option Step) → cond b (Some Identity) x ≡ None → Where (Item classes u) (cond b (Some Identity) x)
same_step classes u true x h = absurd cc
same_step classes u false None h = tt
same_step classes u false (Some y) h = absurd cc

step_fine : (classes : List Class) (literal : Bool) (s u : Typ) → (is_object_form (form_of s) ≡ true → related_step classes s u ≡ None)
    → Where (Item classes u) (step_of classes literal (decayed s) (form_of u))
step_fine classes literal s (typ void q w) x = always (Item classes (typ void q w)) (step_of classes literal (decayed s) void) refl
step_fine classes literal s (typ (int k) q w) x = always (Item classes (typ (int k) q w)) (step_of classes literal (decayed s) (int k)) refl
step_fine classes literal s (typ (enum n b) q w) x = always (Item classes (typ (enum n b) q w)) (step_of classes literal (decayed s) (enum n b)) refl
step_fine classes literal s (typ null q w) x = always (Item classes (typ null q w)) (step_of classes literal (decayed s) null) refl
step_fine classes literal s (typ (ptr t) q w) x = always (Item classes (typ (ptr t) q w)) (step_of classes literal (decayed s) (ptr t)) refl
step_fine classes literal s (typ (ref t) q w) x = always (Item classes (typ (ref t) q w)) (step_of classes literal (decayed s) (ref t)) refl
step_fine classes literal s (typ (func g) q w) x = always (Item classes (typ (func g) q w)) (step_of classes literal (decayed s) (func g)) refl
step_fine classes literal (typ void c v) (typ (array e l) q w) x = tt
step_fine classes literal (typ (int j) c v) (typ (array e l) q w) x = tt
step_fine classes literal (typ (enum m b) c v) (typ (array e l) q w) x = tt
step_fine classes literal (typ null c v) (typ (array e l) q w) x = tt
step_fine classes literal (typ (ptr p) c v) (typ (array e l) q w) x = tt
step_fine classes literal (typ (ref p) c v) (typ (array e l) q w) x = tt
step_fine classes literal (typ (array (typ h a d) m) c v) (typ (array e l) q w) x = tt
step_fine classes literal (typ (func g) c v) (typ (array e l) q w) x = tt
step_fine classes literal (typ (class m) c v) (typ (array e l) q w) x = tt
step_fine classes literal (typ (closure m) c v) (typ (array e l) q w) x = tt
step_fine classes literal (typ (tx_ex p) c v) (typ (array e l) q w) x = tt
step_fine classes literal (typ void c v) (typ (class n) q w) x = tt
step_fine classes literal (typ (int j) c v) (typ (class n) q w) x = tt
step_fine classes literal (typ (enum m b) c v) (typ (class n) q w) x = tt
step_fine classes literal (typ null c v) (typ (class n) q w) x = tt
step_fine classes literal (typ (ptr p) c v) (typ (class n) q w) x = tt
step_fine classes literal (typ (ref p) c v) (typ (class n) q w) x = tt
step_fine classes literal (typ (array (typ h a d) m) c v) (typ (class n) q w) x = tt
step_fine classes literal (typ (func g) c v) (typ (class n) q w) x = tt
step_fine classes literal (typ (closure m) c v) (typ (class n) q w) x = tt
step_fine classes literal (typ (tx_ex p) c v) (typ (class n) q w) x = tt
step_fine classes literal (typ void c v) (typ (closure n) q w) x = tt
step_fine classes literal (typ (int j) c v) (typ (closure n) q w) x = tt
step_fine classes literal (typ (enum m b) c v) (typ (closure n) q w) x = tt
step_fine classes literal (typ null c v) (typ (closure n) q w) x = tt
step_fine classes literal (typ (ptr p) c v) (typ (closure n) q w) x = tt
step_fine classes literal (typ (ref p) c v) (typ (closure n) q w) x = tt
step_fine classes literal (typ (array (typ h a d) m) c v) (typ (closure n) q w) x = tt
step_fine classes literal (typ (func g) c v) (typ (closure n) q w) x = tt
step_fine classes literal (typ (class m) c v) (typ (closure n) q w) x = tt
step_fine classes literal (typ (tx_ex p) c v) (typ (closure n) q w) x = tt
step_fine classes literal (typ void c v) (typ (tx_ex e) q w) x = tt
step_fine classes literal (typ (int j) c v) (typ (tx_ex e) q w) x = tt
step_fine classes literal (typ (enum m b) c v) (typ (tx_ex e) q w) x = tt
step_fine classes literal (typ null c v) (typ (tx_ex e) q w) x = tt
step_fine classes literal (typ (ptr p) c v) (typ (tx_ex e) q w) x = tt
step_fine classes literal (typ (ref p) c v) (typ (tx_ex e) q w) x = tt
step_fine classes literal (typ (array (typ h a d) m) c v) (typ (tx_ex e) q w) x = tt
step_fine classes literal (typ (func g) c v) (typ (tx_ex e) q w) x = tt
step_fine classes literal (typ (class m) c v) (typ (tx_ex e) q w) x = tt
step_fine classes literal (typ (closure m) c v) (typ (tx_ex e) q w) x = tt
step_fine classes literal (typ (class m) c v) (typ (class n) q w) x = same_step classes (typ (class n) q w) (form_eq (class m) (class n)) (to_base classes m n) (x refl)
step_fine classes literal (typ (closure m) c v) (typ (closure n) q w) x = same_step classes (typ (closure n) q w) (form_eq (closure m) (closure n)) None (x refl)
step_fine classes literal (typ (tx_ex p) c v) (typ (tx_ex e) q w) x = same_step classes (typ (tx_ex e) q w) (form_eq (tx_ex p) (tx_ex e)) None (x refl)

-- Bindings

abbrev Fine : List Class → Typ → Option Conversion → Type 0
Fine classes u None = Unit {0}
Fine classes u (Some v) = v.binding ≡ Temporary → Item classes u

bound_fine : (classes : List Class) (u : Typ) (b : Binding) (o : Option Step) → Where (Item classes u) o → Fine classes u (bound b o)
bound_fine classes u b None h = tt
bound_fine classes u b (Some x) h = λ e. h

cond_fine : (classes : List Class) (u : Typ) (b : Bool) (x : Option Conversion) → Fine classes u x → Fine classes u (cond b x None)
cond_fine classes u true x h = h
cond_fine classes u false x h = tt

temporary_fine : (classes : List Class) (literal : Bool) (s u : Typ) → (is_object_form (form_of s) ≡ true → related_step classes s u ≡ None)
    → Fine classes u (temporary classes literal s u)
temporary_fine classes literal s u x = cond_fine classes u (only_const u) (bound Temporary (step_of classes literal (decayed s) (form_of u)))
    (bound_fine classes u Temporary (step_of classes literal (decayed s) (form_of u)) (step_fine classes literal s u x))

binding_fine : (classes : List Class) (cat : Cat) (literal : Bool) (s u : Typ) (o : Option Step) → related_step classes s u ≡ o
    → Fine classes u (object_binding classes cat literal s u o)
binding_fine classes cat literal s u None e = temporary_fine classes literal s u (λ z. e)
binding_fine classes cat literal s u (Some x) e = cond_fine classes u (keeps (const_of s) (volatile_of s) (const_of u) (volatile_of u) && (is_lvalue cat || only_const u))
    (Some (record { step = x; binding = Direct })) (λ z. absurd cc)

-- what is no object is of no class
not_both : (A : Type 0) (b : Bool) → b ≡ false → b ≡ true → A
not_both A b f t = let k : false ≡ true = sym f ∙ t in absurd cc

no_object : (classes : List Class) (literal : Bool) (cat : Cat) (s u : Typ) → is_object cat s ≡ false → Fine classes u (temporary classes literal s u)
no_object classes literal Lvalue s u e = absurd cc
no_object classes literal Prvalue (typ f c v) u e =
    temporary_fine classes literal (typ f c v) u (λ z. not_both (related_step classes (typ f c v) u ≡ None) (is_object_form f) e z)

reference_by : (classes : List Class) (cat : Cat) (literal : Bool) (s u : Typ) (b : Bool) → is_object cat s ≡ b
    → Fine classes u (cond b (object_binding classes cat literal s u (related_step classes s u)) (temporary classes literal s u))
reference_by classes cat literal s u true e = binding_fine classes cat literal s u (related_step classes s u) refl
reference_by classes cat literal s u false e = no_object classes literal cat s u e

value_fine : (classes : List Class) (u : Typ) (o : Option Step) → Fine classes u (bound Value o)
value_fine classes u None = tt
value_fine classes u (Some x) = λ e. absurd cc

to_fine : (classes : List Class) (cat : Cat) (literal : Bool) (s t : Typ) → Fine classes (referred t) (conversion_to classes cat literal s t)
to_fine classes cat literal s (typ (ref u) c v) = reference_by classes cat literal s u (is_object cat s) refl
to_fine classes cat literal s (typ void c v) = value_fine classes (typ void c v) (step_of classes literal (decayed s) void)
to_fine classes cat literal s (typ (int k) c v) = value_fine classes (typ (int k) c v) (step_of classes literal (decayed s) (int k))
to_fine classes cat literal s (typ (enum n b) c v) = value_fine classes (typ (enum n b) c v) (step_of classes literal (decayed s) (enum n b))
to_fine classes cat literal s (typ null c v) = value_fine classes (typ null c v) (step_of classes literal (decayed s) null)
to_fine classes cat literal s (typ (ptr p) c v) = value_fine classes (typ (ptr p) c v) (step_of classes literal (decayed s) (ptr p))
to_fine classes cat literal s (typ (array p m) c v) = value_fine classes (typ (array p m) c v) (step_of classes literal (decayed s) (array p m))
to_fine classes cat literal s (typ (func g) c v) = value_fine classes (typ (func g) c v) (step_of classes literal (decayed s) (func g))
to_fine classes cat literal s (typ (class n) c v) = value_fine classes (typ (class n) c v) (step_of classes literal (decayed s) (class n))
to_fine classes cat literal s (typ (closure n) c v) = value_fine classes (typ (closure n) c v) (step_of classes literal (decayed s) (closure n))
to_fine classes cat literal s (typ (tx_ex p) c v) = value_fine classes (typ (tx_ex p) c v) (step_of classes literal (decayed s) (tx_ex p))

pub conversion_fine : (classes : List Class) (s : Typ) (cat : Cat) (literal : Bool) (t : Typ) → Fine classes (referred t) (conversion_of classes s cat literal t)
conversion_fine classes s cat literal t =
    cond_fine classes (referred t) (has_value s) (conversion_to classes cat literal s t) (to_fine classes cat literal s t)

pub given : (classes : List Class) (u : Typ) (o : Option Conversion) (v : Conversion) → o ≡ Some v → Fine classes u o → v.binding ≡ Temporary
    → is_item classes (unqualified u) ≡ true
given classes u None v e h b = absurd cc
given classes u (Some x) v e h b = h (ap (λ (z : Conversion). z.binding) (same_Some x v e) ∙ b)
