-- Objects of classes that casts make.
use Rattle.std.proofs.Common.{◌≡◌, refl, sym, ap, ◌∙◌, subst, ℕ, zero, suc, Bool, true, false, ◌&&◌, ◌||◌, List, [], ◌∷◌, length, Option, Some, None}
use Rattle.std.proofs.Common.{Result, Ok, Err, eqb-true}
use Rattle.std.proofs.lemmas.Bool.{and_parts}
use Rattle.std.specs.Prelude.{not, if◌then◌else◌}
use Rattle.elab_rules.specs.cpp_types.Typ.{Typ, typ, Form, void, int, enum, null, ptr, ref, array, func, class, closure, tx_ex}
use Rattle.elab_rules.specs.cpp_types.Equal.{typ_eq, form_eq}
use Rattle.elab_rules.specs.cpp_types.Class.{Class}
use Rattle.elab_rules.specs.cpp_types.declared.classes.At.{At}
use Rattle.elab_rules.specs.cpp_types.declared.ranks.Cat.{Cat}
use Rattle.elab_rules.specs.cpp_types.declared.ranks.Cat.TheVariants.{Lvalue, Prvalue}
use Rattle.elab_rules.specs.cpp_overload.Choosing.{chosen}
use Rattle.elab_rules.specs.cpp_tree.declared.kinds.TKind.TheVariants.{Retype, Construct, Store, CopyFrom, Pieces}
use Rattle.elab_rules.specs.cpp_tree.declared.faults.ElabFault.{ElabFault}
use Rattle.elab_rules.specs.cpp_tree.declared.faults.IllRule.TheVariants.{NoConversion, NoCopy}
use Rattle.elab_rules.specs.cpp_tree.Trees.{Tree, node, none, more, one, typ_in, cat_of, kind_of}
use Rattle.elab_rules.specs.cpp_tree.Typing.{form_in, is_class_prvalue, is_volatile_typ, goes_both_ways}
use Rattle.elab_rules.specs.elab_ctx.Ctx.{Ctx, Work, Special, absent, trivial, function}
use Rattle.elab_rules.specs.elab_ctx.Steps.{and_then, check, Operand, Made}
use Rattle.elab_rules.specs.Values.{builder, is_exception_form}
use Rattle.elab_rules.specs.Objects.{Leaf, class_whole, zero_leaf, zeros, traits_at}
use Rattle.elab_rules.specs.Initialising.{initial, object_of, with_tree, is_prvalue_of_class, same_number, class_number, rebuilt, building, constructed_copy}
use Rattle.elab_rules.specs.Initialising.{reference_word, parameters_at, copied_object, has_copy, meant, makers, argument, arguments, constructor_at}
use Rattle.elab_rules.specs.Initialising.{constructed_by, words, constructed, from_nothing, makeable, default_by, is_prvalue_itself, class_from, from_values}
use Rattle.elab_rules.specs.Initialising.{is_same_or_base, is_closure_itself, closure_copied, exception_built, exception_copied, exception_made, exception_from}
use Rattle.elab_rules.specs.Initialising.{exact_object, is_other_prvalue, object_operand}
use Rattle.elab_rules.specs.Names.{is_tx_exception}
use Rattle.elab_rules.specs.Casts.{as_expression, stored_at}
use Rattle.elab_laws.specs.Reading.{On, IsPrvalue}
use Rattle.elab_laws.specs.Casting.{is_built, own_object, IsObject, is_held}
use Rattle.elab_laws.proofs.Reading.{bind, skip, weaken, either}
use Rattle.elab_laws.proofs.Equal.{typ_same}
use Rattle.elab_laws.proofs.Parts.{InMade}

-- Prvalues of classes

abbrev IsOf : ℕ → Tree → Type 0
IsOf n e = class_number (typ_in e) ≡ Some n

number_is : (n : ℕ) (x : Option ℕ) → same_number n x ≡ true → x ≡ Some n
number_is n (Some m) h = ap Some (eqb-true m n h)
number_is n None h = absurd cc

itself_is : (n : ℕ) (e : Tree) → is_prvalue_of_class n e ≡ true → IsOf n e
itself_is n e h = number_is n (class_number (typ_in e)) (and_parts (is_class_prvalue (typ_in e) (cat_of e)) (same_number n (class_number (typ_in e))) h).1

prvalue_is : (t : Typ) (cat : Cat) → is_class_prvalue t cat ≡ true → cat ≡ Prvalue
prvalue_is t Prvalue h = refl
prvalue_is t Lvalue h = absurd cc

itself_prvalue : (n : ℕ) (e : Tree) → is_prvalue_of_class n e ≡ true → cat_of e ≡ Prvalue
itself_prvalue n e h = prvalue_is (typ_in e) (cat_of e) (and_parts (is_class_prvalue (typ_in e) (cat_of e)) (same_number n (class_number (typ_in e))) h).0

-- Objects of a class

abbrev pub ClassObject : ℕ → Bool → Bool → List Operand → Tree → Type 0
ClassObject n d v os e = IsOf n e × IsObject (typ (class n) d v) (own_object (typ (class n) d v) os) e

-- where no operand is such a prvalue
other_object : (t : Typ) (own e : Tree) (a b : Bool) → a ≡ false → IsPrvalue t e → IsObject t (if a && b then Some own else None) e
other_object t own e false b h p = p
other_object t own e true b h p = absurd cc

zero_built : (depth : ℕ) (leaf : Leaf) (classes : List Class) (at : At) (n : ℕ) (d v : Bool) → IsPrvalue (typ (class n) d v) (class_whole depth leaf classes at n d v)
zero_built zero leaf classes at n d v = record { has_type = refl; category = refl }
zero_built (suc depth) leaf classes at n d v = record { has_type = refl; category = refl }

rebuilt_object : (classes : List Class) (n : ℕ) (d v : Bool) (e : Tree) → cat_of e ≡ Prvalue
    → IsObject (typ (class n) d v) (if not (is_built e) then Some e else None) (rebuilt classes (kind_of e) (typ (class n) d v) e)
rebuilt_object classes n d v (node (Construct k) t cat at kids) h = record { has_type = refl; category = h }
rebuilt_object classes n d v (node (Store k marked) t cat at kids) h = record { has_type = refl; category = h }
rebuilt_object classes n d v (node Pieces t cat at kids) h = zero_built (length classes) zero_leaf classes at n d v
rebuilt_object classes n d v (node CopyFrom t cat at (more source copies)) h = record { has_type = refl; category = h }
rebuilt_object classes n d v (node CopyFrom t cat at none) h = refl
rebuilt_object classes n d v (node kind t cat at kids) h = refl

building_by : (classes : List Class) (n : ℕ) (d v : Bool) (e : Tree) (a b : Bool) → a ≡ true → cat_of e ≡ Prvalue
    → IsObject (typ (class n) d v) (if a && (b || not (is_built e)) then Some e else None)
    (if b then e else rebuilt classes (kind_of e) (typ (class n) d v) e)
building_by classes n d v e true true h p = refl
building_by classes n d v e true false h p = rebuilt_object classes n d v e p
building_by classes n d v e false b h p = absurd cc

object_number : (n : ℕ) (d v : Bool) (own e : Tree) (b : Bool) → IsOf n own → IsObject (typ (class n) d v) (if b then Some own else None) e → IsOf n e
object_number n d v own e true h i = ap (λ (x : Tree). class_number (typ_in x)) i ∙ h
object_number n d v own e false h i = ap class_number i.has_type

building_object : (classes : List Class) (n : ℕ) (d v : Bool) (o : Operand) → is_prvalue_of_class n o.tree ≡ true
    → ClassObject n d v (o ∷ []) (building classes (typ (class n) d v) o.tree)
building_object classes n d v o h =
    let i = building_by classes n d v o.tree (is_prvalue_of_class n o.tree) (typ_eq (typ (class n) d v) (typ_in o.tree)) h (itself_prvalue n o.tree h) in (
      object_number n d v o.tree (building classes (typ (class n) d v) o.tree)
          (is_prvalue_of_class n o.tree && (typ_eq (typ (class n) d v) (typ_in o.tree) || not (is_built o.tree))) (itself_is n o.tree h) i,
      i,
    )

default_law : (c : Ctx) (n : ℕ) (d v : Bool) (at : At) (s : Special) → On (IsPrvalue (typ (class n) d v)) (default_by c (typ (class n) d v) at s)
default_law c n d v at absent = tt
default_law c n d v at trivial = zero_built (length c.classes) zero_leaf c.classes at n d v
default_law c n d v at (function k) = record { has_type = refl; category = refl }

by_law : (c : Ctx) (w : Work) (n : ℕ) (t : Typ) (at : At) (os : List Operand) (k : Option ℕ) → On (InMade (IsPrvalue t)) (constructed_by c w n t at os k)
by_law c w n t at os (Some k) = skip (InMade (IsPrvalue t)) (words c w (parameters_at c.funcs k) os) _ (λ m. record { has_type = refl; category = refl })
by_law c w n t at (o ∷ []) None = skip (InMade (IsPrvalue t)) (check o.at NoCopy (not (is_volatile_typ (typ_in o.tree)))) _
    (λ y. record { has_type = refl; category = refl })
by_law c w n t at os None = tt

pub constructed_law : (c : Ctx) (w : Work) (n : ℕ) (d v : Bool) (at : At) (os : List Operand)
    → On (InMade (ClassObject n d v os)) (constructed c w n (typ (class n) d v) at os)
constructed_law c w n d v at [] = bind (IsPrvalue (typ (class n) d v)) (InMade (ClassObject n d v [])) (from_nothing c (typ (class n) d v) at) _
    (skip (IsPrvalue (typ (class n) d v)) (makeable c at n) _ (λ k. default_law c n d v at (traits_at c n).default))
    (λ e g. (ap class_number g.has_type, g))
constructed_law c w n d v at (o ∷ []) = skip (InMade (ClassObject n d v (o ∷ []))) (makeable c at n) _
    (λ k. either (InMade (ClassObject n d v (o ∷ []))) (is_prvalue_itself n (o ∷ [])) _ _ (λ b. building_object c.classes n d v o b)
    (λ b. skip (InMade (ClassObject n d v (o ∷ []))) (meant at (chosen c.classes (makers c n) (arguments (o ∷ [])))) _
    (λ i. weaken (InMade (IsPrvalue (typ (class n) d v))) (InMade (ClassObject n d v (o ∷ [])))
    (constructed_by c w n (typ (class n) d v) at (o ∷ []) (constructor_at c n i))
    (λ m g. (
      ap class_number g.has_type,
      other_object (typ (class n) d v) o.tree m.tree (is_prvalue_of_class n o.tree)
          (typ_eq (typ (class n) d v) (typ_in o.tree) || not (is_built o.tree)) b g,
    )) (by_law c w n (typ (class n) d v) at (o ∷ []) (constructor_at c n i)))))
constructed_law c w n d v at (o ∷ p ∷ os) = skip (InMade (ClassObject n d v (o ∷ p ∷ os))) (makeable c at n) _
    (λ k. skip (InMade (ClassObject n d v (o ∷ p ∷ os))) (meant at (chosen c.classes (makers c n) (arguments (o ∷ p ∷ os)))) _
    (λ i. weaken (InMade (IsPrvalue (typ (class n) d v))) (InMade (ClassObject n d v (o ∷ p ∷ os)))
    (constructed_by c w n (typ (class n) d v) at (o ∷ p ∷ os) (constructor_at c n i)) (λ m g. (ap class_number g.has_type, g))
    (by_law c w n (typ (class n) d v) at (o ∷ p ∷ os) (constructor_at c n i))))

-- Objects of lambdas

abbrev pub LambdaObject : ℕ → Bool → Bool → List Operand → Tree → Type 0
LambdaObject n d v os e = IsOf n e × IsObject (typ (closure n) d v) (own_object (typ (closure n) d v) os) e

closure_anew : (c : Ctx) (w : Work) (n : ℕ) (d v : Bool) (at : At) (o : Operand) (own : Option Tree) → own ≡ None
    → On (λ (m : Made). IsOf n m.tree × IsObject (typ (closure n) d v) own m.tree) (and_then (check o.at NoConversion (same_number n (class_number (typ_in o.tree))))
    (λ y. and_then (check o.at NoCopy (not (is_volatile_typ (typ_in o.tree)))) (λ z. Ok (with_tree (closure_copied c n d v at) (object_of c w o.at o.tree)))))
closure_anew c w n d v at o (Some own) h = absurd cc
closure_anew c w n d v at o None h = skip (λ (m : Made). IsOf n m.tree × IsPrvalue (typ (closure n) d v) m.tree)
    (check o.at NoConversion (same_number n (class_number (typ_in o.tree)))) _
    (λ y. skip (λ (m : Made). IsOf n m.tree × IsPrvalue (typ (closure n) d v) m.tree) (check o.at NoCopy (not (is_volatile_typ (typ_in o.tree)))) _
    (λ z. (refl, record { has_type = refl; category = refl })))

closure_by : (c : Ctx) (w : Work) (n : ℕ) (d v : Bool) (at : At) (o : Operand) (b : Bool) → is_closure_itself n d v o.tree ≡ b
    → On (λ (m : Made). IsOf n m.tree × IsObject (typ (closure n) d v) (if b then Some o.tree else None) m.tree)
    (if b then Ok (record { tree = o.tree; work = w }) else and_then (check o.at NoConversion (same_number n (class_number (typ_in o.tree))))
    (λ y. and_then (check o.at NoCopy (not (is_volatile_typ (typ_in o.tree)))) (λ z. Ok (with_tree (closure_copied c n d v at) (object_of c w o.at o.tree)))))
closure_by c w n d v at o true h = (itself_is n o.tree (and_parts (is_prvalue_of_class n o.tree) (typ_eq (typ (closure n) d v) (typ_in o.tree)) h).0, refl)
closure_by c w n d v at o false h = closure_anew c w n d v at o None refl

pub lambda_law : (c : Ctx) (w : Work) (n : ℕ) (d v : Bool) (at : At) (o : Operand) (os : List Operand)
    → On (InMade (LambdaObject n d v (o ∷ os))) (class_from c w (typ (closure n) d v) at o)
lambda_law c w n d v at o [] = closure_by c w n d v at o (is_closure_itself n d v o.tree) refl
lambda_law c w n d v at o (p ∷ os) = either (InMade (LambdaObject n d v (o ∷ p ∷ os))) (is_closure_itself n d v o.tree) _ _
    (λ b. let q = and_parts (is_prvalue_of_class n o.tree) (typ_eq (typ (closure n) d v) (typ_in o.tree)) b in
    (itself_is n o.tree q.0, record { has_type = sym (typ_same (typ (closure n) d v) (typ_in o.tree) q.1); category = itself_prvalue n o.tree q.0 }))
    (λ b. closure_anew c w n d v at o None refl)

-- Objects of `std::tx_exception`

abbrev IsException : Tree → Type 0
IsException e = is_tx_exception (typ_in e) ≡ true

abbrev NoException : Tree → Type 0
NoException e = is_exception_form (form_in (typ_in e)) ≡ false

exception_same : (t : Typ) → is_exception_form (form_in t) ≡ is_tx_exception t
exception_same (typ (tx_ex t) d v) = refl
exception_same (typ void d v) = refl
exception_same (typ (int j) d v) = refl
exception_same (typ (enum n s) d v) = refl
exception_same (typ null d v) = refl
exception_same (typ (ptr t) d v) = refl
exception_same (typ (ref t) d v) = refl
exception_same (typ (array t n) d v) = refl
exception_same (typ (func s) d v) = refl
exception_same (typ (class n) d v) = refl
exception_same (typ (closure n) d v) = refl

made_exception : (at : At) (t : Typ) (e : Tree) (b : Bool) → is_exception_form (form_in (typ_in e)) ≡ b → is_tx_exception t ≡ true
    → IsException (if not b then node Retype t Prvalue at (one (stored_at at e)) else e)
made_exception at t e true h i = sym (exception_same (typ_in e)) ∙ h
made_exception at t e false h i = i

exception_is : (at : At) (u : Typ) (d v : Bool) (e : Tree) → IsException (as_expression at (typ (tx_ex u) d v) e)
exception_is at u d v e = made_exception at (typ (tx_ex u) d v) e (is_exception_form (form_in (typ_in e))) refl refl

-- a value is written in an exception, and an exception stays as it is
wrapped_by : (at : At) (t : Typ) (e : Tree) (b : Bool) → b ≡ false → IsPrvalue t (if not b then node Retype t Prvalue at (one (stored_at at e)) else e)
wrapped_by at t e false h = record { has_type = refl; category = refl }
wrapped_by at t e true h = absurd cc

wrapped : (at : At) (u : Typ) (d v : Bool) (e : Tree) → NoException e → IsPrvalue (typ (tx_ex u) d v) (as_expression at (typ (tx_ex u) d v) e)
wrapped at u d v e h = wrapped_by at (typ (tx_ex u) d v) e (is_exception_form (form_in (typ_in e))) h

left_by : (at : At) (t : Typ) (e : Tree) (b : Bool) → b ≡ true → (if not b then node Retype t Prvalue at (one (stored_at at e)) else e) ≡ e
left_by at t e true h = refl
left_by at t e false h = absurd cc

left : (at : At) (u : Typ) (d v : Bool) (e : Tree) → is_exception_form (form_in (typ_in e)) ≡ true → as_expression at (typ (tx_ex u) d v) e ≡ e
left at u d v e h = left_by at (typ (tx_ex u) d v) e (is_exception_form (form_in (typ_in e))) h

-- what is held is no exception
held_form : (f : Form) → is_held f ≡ true → is_exception_form f ≡ false
held_form (int k) h = refl
held_form (enum n s) h = refl
held_form (class n) h = refl
held_form f h = absurd cc

number_form : (t : Typ) (n : ℕ) → class_number t ≡ Some n → is_exception_form (form_in t) ≡ false
number_form (typ (tx_ex u) d v) n h = absurd cc
number_form (typ f d v) n h = refl

zeros_form : (classes : List Class) (at : At) (f : Form) (d v : Bool) → is_held f ≡ true → NoException (zeros classes at (typ f d v))
zeros_form classes at (int k) d v h = refl
zeros_form classes at (enum n s) d v h = refl
zeros_form classes at (class n) d v h = ap (λ (t : Typ). is_exception_form (form_in t)) (zero_built (length classes) zero_leaf classes at n d v).has_type
zeros_form classes at f d v h = absurd cc

-- what builds a value, as one of a type with other qualifiers
rebuilt_value : (classes : List Class) (f : Form) (d v : Bool) (e : Tree) → is_held f ≡ true → is_built e ≡ true
    → NoException (rebuilt classes (kind_of e) (typ f d v) e)
rebuilt_value classes f d v (node (Construct k) t cat at kids) h b = held_form f h
rebuilt_value classes f d v (node (Store k marked) t cat at kids) h b = held_form f h
rebuilt_value classes f d v (node Pieces t cat at kids) h b = zeros_form classes at f d v h
rebuilt_value classes f d v (node CopyFrom t cat at (more source copies)) h b = held_form f h
rebuilt_value classes f d v (node CopyFrom t cat at none) h b = absurd cc
rebuilt_value classes f d v (node kind t cat at kids) h b = absurd cc

rebuilt_same : (classes : List Class) (t : Typ) (e : Tree) → is_built e ≡ false → rebuilt classes (kind_of e) t e ≡ e
rebuilt_same classes t (node (Construct k) u cat at kids) b = absurd cc
rebuilt_same classes t (node (Store k marked) u cat at kids) b = absurd cc
rebuilt_same classes t (node Pieces u cat at kids) b = absurd cc
rebuilt_same classes t (node CopyFrom u cat at (more source copies)) b = absurd cc
rebuilt_same classes t (node CopyFrom u cat at none) b = refl
rebuilt_same classes t (node kind u cat at kids) b = refl

no_value : (f : Form) (d v : Bool) (e : Tree) → is_held f ≡ true → is_exception_form (form_in (typ_in e)) ≡ true → typ_eq (typ f d v) (typ_in e) ≡ true → ⊥
no_value f d v e h x z = let a : true ≡ false = sym x ∙ sym (ap (λ (t : Typ). is_exception_form (form_in t)) (typ_same (typ f d v) (typ_in e) z)) ∙ held_form f h in
    absurd cc

-- one that is an exception already
rebuilt_exception : (classes : List Class) (at : At) (u : Typ) (f : Form) (d v : Bool) (e : Tree) (b : Bool) → is_built e ≡ b → is_held f ≡ true
    → is_exception_form (form_in (typ_in e)) ≡ true
    → IsObject (typ (tx_ex u) d v) (if not b then Some e else None) (as_expression at (typ (tx_ex u) d v) (rebuilt classes (kind_of e) (typ f d v) e))
rebuilt_exception classes at u f d v e true i h x =
    wrapped at u d v (rebuilt classes (kind_of e) (typ f d v) e) (rebuilt_value classes f d v e h i)
rebuilt_exception classes at u f d v e false i h x =
    ap (λ (y : Tree). as_expression at (typ (tx_ex u) d v) y) (rebuilt_same classes (typ f d v) e i) ∙ left at u d v e x

building_exception : (classes : List Class) (at : At) (u : Typ) (f : Form) (d v : Bool) (e : Tree) (z : Bool) → typ_eq (typ f d v) (typ_in e) ≡ z
    → is_held f ≡ true → is_exception_form (form_in (typ_in e)) ≡ true
    → IsObject (typ (tx_ex u) d v) (if not (is_built e) then Some e else None)
    (as_expression at (typ (tx_ex u) d v) (if z then e else rebuilt classes (kind_of e) (typ f d v) e))
building_exception classes at u f d v e true i h x = absurd (no_value f d v e h x i)
building_exception classes at u f d v e false i h x = rebuilt_exception classes at u f d v e (is_built e) refl h x

-- one that is no exception
rebuilt_plain : (classes : List Class) (f : Form) (d v : Bool) (e : Tree) (b : Bool) → is_built e ≡ b → is_held f ≡ true → NoException e
    → NoException (rebuilt classes (kind_of e) (typ f d v) e)
rebuilt_plain classes f d v e true i h x = rebuilt_value classes f d v e h i
rebuilt_plain classes f d v e false i h x = subst NoException (sym (rebuilt_same classes (typ f d v) e i)) x

building_plain : (classes : List Class) (f : Form) (d v : Bool) (e : Tree) (z : Bool) → is_held f ≡ true → NoException e
    → NoException (if z then e else rebuilt classes (kind_of e) (typ f d v) e)
building_plain classes f d v e true h x = x
building_plain classes f d v e false h x = rebuilt_plain classes f d v e (is_built e) refl h x

-- of an exception of any qualifiers
built_object : (classes : List Class) (at : At) (f : Form) (a b d v : Bool) (e : Tree) (x y : Bool) → is_exception_form (form_in (typ_in e)) ≡ x
    → is_held f ≡ true → IsObject (typ (tx_ex (typ f a b)) d v) (if x && (y || not (is_built e)) then Some e else None)
    (as_expression at (typ (tx_ex (typ f a b)) d v) (if y then e else building classes (typ f d v) e))
built_object classes at f a b d v e true true i h = left at (typ f a b) d v e i
built_object classes at f a b d v e true false i h =
    building_exception classes at (typ f a b) f d v e (typ_eq (typ f d v) (typ_in e)) refl h i
built_object classes at f a b d v e false true i h = wrapped at (typ f a b) d v e i
built_object classes at f a b d v e false false i h =
    wrapped at (typ f a b) d v (building classes (typ f d v) e) (building_plain classes f d v e (typ_eq (typ f d v) (typ_in e)) h i)

made_by : (c : Ctx) (w : Work) (f : Form) (a b d v : Bool) (at : At) (o : Operand) (g x : Bool) → is_exception_form (form_in (typ_in (builder o.tree))) ≡ x
    → is_held f ≡ true
    → IsObject (typ (tx_ex (typ f a b)) d v) (if x && (typ_eq (typ (tx_ex (typ f a b)) d v) (typ_in (builder o.tree)) || not (is_built (builder o.tree))) then
    Some (builder o.tree) else None) (as_expression at (typ (tx_ex (typ f a b)) d v)
    (if g && not x then with_tree (exception_copied c (typ (tx_ex (typ f a b)) d v) at) (object_of c w o.at o.tree) else
    record { tree = exception_built c.classes (typ (tx_ex (typ f a b)) d v) (builder o.tree); work = w }).tree)
made_by c w f a b d v at o true false i h = record { has_type = refl; category = refl }
made_by c w f a b d v at o true true i h =
    built_object c.classes at f a b d v (builder o.tree) true (typ_eq (typ (tx_ex (typ f a b)) d v) (typ_in (builder o.tree))) i h
made_by c w f a b d v at o false x i h =
    built_object c.classes at f a b d v (builder o.tree) x (typ_eq (typ (tx_ex (typ f a b)) d v) (typ_in (builder o.tree))) i h

made_object : (c : Ctx) (w : Work) (f : Form) (a b d v : Bool) (at : At) (o : Operand) → is_held f ≡ true
    → IsObject (typ (tx_ex (typ f a b)) d v) (if is_exception_form (form_in (typ_in (builder o.tree)))
    && (typ_eq (typ (tx_ex (typ f a b)) d v) (typ_in (builder o.tree)) || not (is_built (builder o.tree))) then Some (builder o.tree) else None)
    (as_expression at (typ (tx_ex (typ f a b)) d v) (exception_made c w (typ (tx_ex (typ f a b)) d v) at o).tree)
made_object c w f a b d v at o h =
    made_by c w f a b d v at o (goes_both_ways (kind_of (builder o.tree))) (is_exception_form (form_in (typ_in (builder o.tree)))) refl h

-- The value in an exception that is no copy of another

reference_copy : (c : Ctx) (w : Work) (n : ℕ) (t : Typ) (at : At) (o : Operand) (k : Option ℕ) → class_number t ≡ Some n
    → On (InMade (IsOf n)) (constructed_copy c w n t at o k)
reference_copy c w n t at o None h = h
reference_copy c w n t at o (Some k) h = skip (InMade (IsOf n)) (reference_word c w (parameters_at c.funcs k) o) _ (λ m. h)

copied_law : (c : Ctx) (w : Work) (n : ℕ) (t : Typ) (at : At) (o : Operand) → class_number t ≡ Some n → On (InMade (IsOf n)) (copied_object c w n t at o)
copied_law c w n t at o h = skip (InMade (IsOf n)) (check o.at NoCopy (not (is_volatile_typ (typ_in o.tree)) && has_copy (traits_at c n).copy)) _
    (λ y. skip (InMade (IsOf n)) (meant at (chosen c.classes (makers c n) (argument o ∷ []))) _ (λ i. reference_copy c w n t at o (constructor_at c n i) h))

class_law : (c : Ctx) (w : Work) (n : ℕ) (d v : Bool) (at : At) (o : Operand) → On (InMade (IsOf n)) (class_from c w (typ (class n) d v) at o)
class_law c w n d v at o = skip (InMade (IsOf n)) (makeable c at n) _
    (λ k. either (InMade (IsOf n)) (is_prvalue_of_class n o.tree) _ _ (λ b. (building_object c.classes n d v o b).0)
    (λ b. skip (InMade (IsOf n)) (check o.at NoConversion (is_same_or_base c.classes (class_number (typ_in o.tree)) (Some n))) _
    (λ y. copied_law c w n (typ (class n) d v) at o refl)))

exact_law : (c : Ctx) (w : Work) (n : ℕ) (d v : Bool) (at : At) (o : Operand) → On (InMade (IsOf n)) (exact_object c w (typ (class n) d v) at o)
exact_law c w n d v at o = either (InMade (IsOf n)) (is_other_prvalue (typ (class n) d v) o.tree) _ _
    (λ h. class_law c (object_of c w o.at o.tree).work n d v at (object_operand o (object_of c w o.at o.tree).tree)) (λ h. class_law c w n d v at o)

value_law : (c : Ctx) (w : Work) (f : Form) (d v : Bool) (at : At) (o : Operand) → is_held f ≡ true
    → On (InMade NoException) (exception_from c w (typ f d v) at (o ∷ []))
value_law c w (int k) d v at o h = skip (InMade NoException) (initial c w (typ (int k) d v) o) _ (λ m. refl)
value_law c w (enum n s) d v at o h = skip (InMade NoException) (initial c w (typ (enum n s) d v) o) _ (λ m. refl)
value_law c w (class n) d v at o h = weaken (InMade (IsOf n)) (InMade NoException) (exact_object c w (typ (class n) d v) at o)
    (λ m g. number_form (typ_in m.tree) n g) (exact_law c w n d v at o)
value_law c w f d v at o h = absurd cc

-- Casts to exceptions

abbrev pub ExceptionObject : Typ → Bool → Bool → List Operand → Tree → Type 0
ExceptionObject u d v os e = IsException e × (is_held (form_in u) ≡ true → IsObject (typ (tx_ex u) d v) (own_object (typ (tx_ex u) d v) os) e)

-- what is made is such an object, once it is an expression
abbrev Written : Typ → At → Option Tree → Made → Type 0
Written t at own m = IsObject t own (as_expression at t m.tree)

one_exception : (c : Ctx) (w : Work) (f : Form) (a b d v : Bool) (at : At) (o : Operand) (same object : Bool) → is_held f ≡ true
    → On (Written (typ (tx_ex (typ f a b)) d v) at (if same && (object && (is_exception_form (form_in (typ_in (builder o.tree)))
    && (typ_eq (typ (tx_ex (typ f a b)) d v) (typ_in (builder o.tree)) || not (is_built (builder o.tree))))) then Some (builder o.tree) else None))
    (if same then and_then (check o.at NoConversion (form_eq (form_in (typ_in o.tree)) (tx_ex (typ f a b))))
    (λ y. if object then Ok (exception_made c w (typ (tx_ex (typ f a b)) d v) at o) else
    and_then (check o.at NoCopy (not (is_volatile_typ (typ_in o.tree))))
    (λ z. Ok (record { tree = exception_copied c (typ (tx_ex (typ f a b)) d v) at o.tree; work = w }))) else
    exception_from c w (typ f d v) at (o ∷ []))
one_exception c w f a b d v at o true true h = skip (Written (typ (tx_ex (typ f a b)) d v) at (if is_exception_form (form_in (typ_in (builder o.tree)))
    && (typ_eq (typ (tx_ex (typ f a b)) d v) (typ_in (builder o.tree)) || not (is_built (builder o.tree))) then Some (builder o.tree) else None))
    (check o.at NoConversion (form_eq (form_in (typ_in o.tree)) (tx_ex (typ f a b)))) _ (λ y. made_object c w f a b d v at o h)
one_exception c w f a b d v at o true false h = skip (Written (typ (tx_ex (typ f a b)) d v) at None)
    (check o.at NoConversion (form_eq (form_in (typ_in o.tree)) (tx_ex (typ f a b)))) _
    (λ y. skip (Written (typ (tx_ex (typ f a b)) d v) at None) (check o.at NoCopy (not (is_volatile_typ (typ_in o.tree)))) _
    (λ z. record { has_type = refl; category = refl }))
one_exception c w f a b d v at o false object h = weaken (InMade NoException) (Written (typ (tx_ex (typ f a b)) d v) at None)
    (exception_from c w (typ f d v) at (o ∷ [])) (λ m g. wrapped at (typ f a b) d v m.tree g) (value_law c w f d v at o h)

values_exception : (c : Ctx) (w : Work) (u : Typ) (d v : Bool) (at : At) (os : List Operand) → is_held (form_in u) ≡ true
    → On (Written (typ (tx_ex u) d v) at (own_object (typ (tx_ex u) d v) os)) (from_values c w (typ (tx_ex u) d v) at os)
values_exception c w (typ f a b) d v at [] h = tt
values_exception c w (typ f a b) d v at (o ∷ []) h =
    one_exception c w f a b d v at o (form_eq (form_in (typ_in o.tree)) (tx_ex (typ f a b))) (is_class_prvalue (typ_in o.tree) (cat_of o.tree)) h
values_exception c w (typ f a b) d v at (o ∷ p ∷ os) h = tt

-- what holds where something else does
provided : {A : Type 0} (H : Type 0) (P : A → Type 0) (r : Result A ElabFault) → (H → On P r) → On (λ (a : A). H → P a) r
provided H P (Ok a) h = h
provided H P (Err e) h = tt

pub exception_law : (c : Ctx) (w : Work) (u : Typ) (d v : Bool) (at : At) (os : List Operand)
    → On (InMade (ExceptionObject u d v os)) (and_then (from_values c w (typ (tx_ex u) d v) at os)
    (λ (m : Made). Ok (with_tree (as_expression at (typ (tx_ex u) d v)) m)))
exception_law c w u d v at os =
    bind (λ (m : Made). is_held (form_in u) ≡ true → Written (typ (tx_ex u) d v) at (own_object (typ (tx_ex u) d v) os) m) (InMade (ExceptionObject u d v os))
    (from_values c w (typ (tx_ex u) d v) at os) _
    (provided (is_held (form_in u) ≡ true) (Written (typ (tx_ex u) d v) at (own_object (typ (tx_ex u) d v) os)) (from_values c w (typ (tx_ex u) d v) at os)
    (λ h. values_exception c w u d v at os h))
    (λ m g. (exception_is at u d v m.tree, g))
