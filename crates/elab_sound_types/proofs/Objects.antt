-- What builds an object of a class has the type of an expression.
use Rattle.std.proofs.Common.{◌≡◌, refl, ap, ◌∙◌, ℕ, zero, suc, Bool, true, false, not, ◌&&◌, ◌||◌, List, [], ◌∷◌, length, Option, Some, None, Result, Ok, Err}
use Rattle.std.specs.Prelude.{if◌then◌else◌}
use Rattle.std.proofs.lemmas.Bool.{and_parts}
use Rattle.elab_rules.specs.cpp_types.Typ.{Typ, typ, Form, void, int, enum, null, ptr, ref, array, func, class, closure, tx_ex}
use Rattle.elab_rules.specs.cpp_types.Equal.{typ_eq, form_eq}
use Rattle.elab_rules.specs.cpp_types.Class.{Class}
use Rattle.elab_rules.specs.cpp_types.Conversion.{is_object_form}
use Rattle.elab_rules.specs.cpp_types.declared.classes.At.{At}
use Rattle.elab_rules.specs.cpp_types.declared.ranks.Cat.{Cat}
use Rattle.elab_rules.specs.cpp_types.declared.ranks.Cat.TheVariants.{Prvalue}
use Rattle.elab_rules.specs.cpp_overload.Choosing.{chosen}
use Rattle.elab_rules.specs.cpp_tree.declared.kinds.TKind.{TKind}
use Rattle.elab_rules.specs.cpp_tree.declared.kinds.TKind.TheVariants.{Retype, Construct, Store, CopyFrom, Pieces}
use Rattle.elab_rules.specs.cpp_tree.declared.faults.ElabFault.{ElabFault}
use Rattle.elab_rules.specs.cpp_tree.declared.faults.IllRule.TheVariants.{NoConversion, NoCopy}
use Rattle.elab_rules.specs.cpp_tree.Trees.{Tree, node, Trees, none, more, one, kind_of, typ_in, cat_of, kids_of}
use Rattle.elab_rules.specs.cpp_tree.Typing.{form_in, is_class_prvalue, is_volatile_typ}
use Rattle.elab_rules.specs.elab_ctx.Ctx.{Ctx, Work, Special, absent, trivial, function}
use Rattle.elab_rules.specs.elab_ctx.Steps.{and_then, check, Operand, Made}
use Rattle.elab_rules.specs.Values.{place_of, builder, is_exception_form}
use Rattle.elab_rules.specs.Objects
use Rattle.elab_rules.specs.Objects.{Leaf, class_whole, zeros, zero_leaf}
use Rattle.elab_rules.specs.Initialising
use Rattle.elab_rules.specs.Initialising.{object_of, building, rebuilt, copied_anew, with_tree, object_operand}
use Rattle.elab_rules.specs.Casts.{as_expression, stored_at}
use Rattle.elab_fits.specs.Standing.{On}
use Rattle.elab_fits.proofs.Steps.{bind, skip}
use Rattle.elab_sound_types.specs.Types.{value, is_lambda, is_class, is_held, is_sound, is_head, IsExpression, AreExpressions}
use Rattle.elab_sound_types.proofs.Growth.{held_class}
use Rattle.elab_sound_types.proofs.Trees.{tree_if, class_head}
use Rattle.elab_sound_types.proofs.Initial.{made, object_sound}
use Rattle.elab_fits.proofs.Steps.{either_way as either}

-- where it is an exception, it has the type of an expression; else it is the value that an exception is written with
abbrev pub Writes : List Class → Tree → Type 0
Writes cs e = is_exception_form (form_in (typ_in e)) ≡ true → IsExpression cs e

-- Nodes of classes

-- of a class, of whatever kind that is no `Retype`
class_node : (cs : List Class) (m : ℕ) (q v : Bool) (cat : Cat) → is_class cs m ≡ true → is_head cs (typ (class m) q v) cat ≡ true
class_node cs m q v cat h = class_head cs value (class m) (q || v) q v cat refl h

zeros_depth : (cs : List Class) (m : ℕ) (depth : ℕ) (leaf : Leaf) (classes : List Class) (at : At) (q v : Bool) → is_class cs m ≡ true
    → IsExpression cs (class_whole depth leaf classes at m q v)
zeros_depth cs m zero leaf classes at q v h = record { head = class_node cs m q v Prvalue h; chosen = refl; written = refl }
zeros_depth cs m (suc depth) leaf classes at q v h = record { head = class_node cs m q v Prvalue h; chosen = refl; written = refl }

zeros_class : (cs : List Class) (m : ℕ) (classes : List Class) (at : At) (q v : Bool) → is_class cs m ≡ true → IsExpression cs (zeros classes at (typ (class m) q v))
zeros_class cs m classes at q v h = zeros_depth cs m (length classes) zero_leaf classes at q v h

anew_class : (cs : List Class) (m : ℕ) (classes : List Class) (q v : Bool) (e : Tree) (kids : Trees) → is_class cs m ≡ true → IsExpression cs e
    → IsExpression cs (copied_anew classes (typ (class m) q v) e kids)
anew_class cs m classes q v e none h g = g
anew_class cs m classes q v e (more s ts) h g = record { head = class_node cs m q v (cat_of e) h; chosen = refl; written = refl }

rebuilt_class : (cs : List Class) (m : ℕ) (classes : List Class) (kind : TKind) (q v : Bool) (e : Tree) → is_class cs m ≡ true → IsExpression cs e
    → IsExpression cs (rebuilt classes kind (typ (class m) q v) e)
rebuilt_class cs m classes (Construct k) q v e h g = record { head = class_node cs m q v (cat_of e) h; chosen = refl; written = refl }
rebuilt_class cs m classes (Store k x) q v e h g = record { head = class_node cs m q v (cat_of e) h; chosen = refl; written = refl }
rebuilt_class cs m classes CopyFrom q v e h g = anew_class cs m classes q v e (kids_of e) h g
rebuilt_class cs m classes Pieces q v e h g = zeros_class cs m classes (place_of e) q v h
rebuilt_class cs m classes kind q v e h g = g

building_class : (cs : List Class) (m : ℕ) (classes : List Class) (q v : Bool) (e : Tree) → is_class cs m ≡ true → IsExpression cs e
    → IsExpression cs (building classes (typ (class m) q v) e)
building_class cs m classes q v e h g = tree_if (IsExpression cs) (typ_eq (typ (class m) q v) (typ_in e)) _ _ g (rebuilt_class cs m classes (kind_of e) q v e h g)

-- Objects of classes

copied_object : (cs : List Class) (m : ℕ) (c : Ctx) (w : Work) (q v : Bool) (at : At) (o : Operand) → is_class cs m ≡ true
    → On (made cs) (Initialising.copied_object c w m (typ (class m) q v) at o)
copied_object cs m c w q v at o h = skip (made cs)
    (check o.at NoCopy (not (is_volatile_typ (typ_in o.tree)) && Initialising.has_copy (Objects.traits_at c m).copy)) _
    (λ y. skip (made cs) (Initialising.meant at (chosen c.classes (Initialising.makers c m) (Initialising.argument o ∷ []))) _
    (λ i. copy_by (Initialising.constructor_at c m i)))
  where
    copy_by : (f : Option ℕ) → On (made cs) (Initialising.constructed_copy c w m (typ (class m) q v) at o f)
    copy_by None = record { head = class_node cs m q v Prvalue h; chosen = refl; written = refl }
    copy_by (Some k) = skip (made cs) (Initialising.reference_word c w (Initialising.parameters_at c.funcs k) o) _
        (λ x. record { head = class_node cs m q v Prvalue h; chosen = refl; written = refl })

pub class_from : (cs : List Class) (m : ℕ) (c : Ctx) (w : Work) (q v : Bool) (at : At) (o : Operand) → is_class cs m ≡ true → IsExpression cs o.tree
    → On (made cs) (Initialising.class_from c w (typ (class m) q v) at o)
class_from cs m c w q v at o h g = skip (made cs) (Initialising.makeable c at m) _ (λ k. either (made cs) (Initialising.is_prvalue_of_class m o.tree) _ _
    (building_class cs m c.classes q v o.tree h g)
    (skip (made cs) (check o.at NoConversion (Initialising.is_same_or_base c.classes (Initialising.class_number (typ_in o.tree)) (Some m))) _
    (λ y. copied_object cs m c w q v at o h)))

pub closure_from : (cs : List Class) (m : ℕ) (c : Ctx) (w : Work) (q v : Bool) (at : At) (o : Operand) → is_lambda cs m ≡ true → IsExpression cs o.tree
    → On (made cs) (Initialising.class_from c w (typ (closure m) q v) at o)
closure_from cs m c w q v at o h g = either (made cs) (Initialising.is_closure_itself m q v o.tree) _ _ g
    (skip (made cs) (check o.at NoConversion (Initialising.same_number m (Initialising.class_number (typ_in o.tree)))) _
    (λ y. skip (made cs) (check o.at NoCopy (not (is_volatile_typ (typ_in o.tree)))) _
    (λ z. record { head = class_head cs value (closure m) (q || v) q v Prvalue refl h; chosen = refl; written = refl })))

-- Exceptions

no_exception : (cs : List Class) (e : Tree) → is_exception_form (form_in (typ_in e)) ≡ false → Writes cs e
no_exception cs e h i = clash (is_exception_form (form_in (typ_in e))) h i
  where
    clash : (b : Bool) → b ≡ false → b ≡ true → IsExpression cs e
    clash true h i = absurd cc
    clash false h i = absurd cc

pub not_true : (b : Bool) → not b ≡ true → b ≡ false
not_true true h = absurd cc
not_true false h = refl

-- what builds the object of an exception
builder_writes : (cs : List Class) (e : Tree) → IsExpression cs e → Writes cs (builder e)
builder_writes cs (node Retype (typ (tx_ex u) c v) Prvalue at (more e none)) h = no_exception cs e (not_true _ h.written)
builder_writes cs (node Retype (typ (tx_ex u) c v) Prvalue at none) h = λ i. h
builder_writes cs (node Retype (typ (tx_ex u) c v) Prvalue at (more e (more d ts))) h = λ i. h
builder_writes cs (node kind t cat at kids) h = λ i. h

-- a value of a type that is no exception
zeros_held : (cs : List Class) (classes : List Class) (at : At) (f : Form) (q v : Bool) → is_held cs f ≡ true → Writes cs (zeros classes at (typ f q v))
zeros_held cs classes at (int k) q v h = λ i. absurd cc
zeros_held cs classes at (enum e s) q v h = λ i. absurd cc
zeros_held cs classes at (class m) q v h = λ i. zeros_class cs m classes at q v (held_class cs m h)
zeros_held cs classes at void q v h = absurd cc
zeros_held cs classes at null q v h = absurd cc
zeros_held cs classes at (ptr t) q v h = absurd cc
zeros_held cs classes at (ref t) q v h = absurd cc
zeros_held cs classes at (array t k) q v h = absurd cc
zeros_held cs classes at (func g) q v h = absurd cc
zeros_held cs classes at (closure m) q v h = absurd cc
zeros_held cs classes at (tx_ex t) q v h = absurd cc

held_form : (cs : List Class) (f : Form) → is_held cs f ≡ true → is_exception_form f ≡ false
held_form cs (int k) h = refl
held_form cs (enum e s) h = refl
held_form cs (class m) h = refl
held_form cs void h = refl
held_form cs null h = refl
held_form cs (ptr t) h = refl
held_form cs (ref t) h = refl
held_form cs (array t k) h = refl
held_form cs (func g) h = refl
held_form cs (closure m) h = refl
held_form cs (tx_ex t) h = absurd cc

anew_writes : (cs : List Class) (classes : List Class) (t : Typ) (e : Tree) (kids : Trees) → is_exception_form (form_in t) ≡ false → Writes cs e
    → Writes cs (copied_anew classes t e kids)
anew_writes cs classes t e none h g = g
anew_writes cs classes t e (more s ts) h g = no_exception cs _ h

rebuilt_writes : (cs : List Class) (classes : List Class) (kind : TKind) (f : Form) (q v : Bool) (e : Tree) → is_held cs f ≡ true → Writes cs e
    → Writes cs (rebuilt classes kind (typ f q v) e)
rebuilt_writes cs classes (Construct k) f q v e h g = no_exception cs _ (held_form cs f h)
rebuilt_writes cs classes (Store k x) f q v e h g = no_exception cs _ (held_form cs f h)
rebuilt_writes cs classes CopyFrom f q v e h g = anew_writes cs classes (typ f q v) e (kids_of e) (held_form cs f h) g
rebuilt_writes cs classes Pieces f q v e h g = zeros_held cs classes (place_of e) f q v h
rebuilt_writes cs classes kind f q v e h g = g

building_writes : (cs : List Class) (classes : List Class) (f : Form) (q v : Bool) (e : Tree) → is_held cs f ≡ true → Writes cs e
    → Writes cs (building classes (typ f q v) e)
building_writes cs classes f q v e h g = tree_if (Writes cs) (typ_eq (typ f q v) (typ_in e)) _ _ g (rebuilt_writes cs classes (kind_of e) f q v e h g)

exception_built : (cs : List Class) (classes : List Class) (f : Form) (d w q v : Bool) (e : Tree) → is_held cs f ≡ true → Writes cs e
    → Writes cs (Initialising.exception_built classes (typ (tx_ex (typ f d w)) q v) e)
exception_built cs classes f d w q v e h g = tree_if (Writes cs) (typ_eq (typ (tx_ex (typ f d w)) q v) (typ_in e)) _ _ g (building_writes cs classes f q v e h g)

exception_node : (cs : List Class) (f : Form) (d w q v : Bool) → (not (d || w) && is_held cs f) ≡ true → is_head cs (typ (tx_ex (typ f d w)) q v) Prvalue ≡ true
exception_node cs f d w q v h = class_head cs value (tx_ex (typ f d w)) (q || v) q v Prvalue refl h

writes_if : (cs : List Class) (b : Bool) (x y : Made) → Writes cs x.tree → Writes cs y.tree → Writes cs (if b then x else y).tree
writes_if cs true x y h k = h
writes_if cs false x y h k = k

exception_made : (cs : List Class) (c : Ctx) (w : Work) (f : Form) (d u q v : Bool) (at : At) (o : Operand) → (not (d || u) && is_held cs f) ≡ true → IsExpression cs o.tree
    → Writes cs (Initialising.exception_made c w (typ (tx_ex (typ f d u)) q v) at o).tree
exception_made cs c w f d u q v at o h g = writes_if cs (Initialising.is_given_value (builder o.tree)) _ _
    (λ i. record { head = exception_node cs f d u q v h; chosen = refl; written = refl })
    (exception_built cs c.classes f d u q v (builder o.tree) (and_parts (not (d || u)) (is_held cs f) h).1 (builder_writes cs o.tree g))

abbrev writes : List Class → Made → Type 0
writes cs m = Writes cs m.tree

exception_copied_from : (cs : List Class) (c : Ctx) (w : Work) (f : Form) (d u q v : Bool) (at : At) (o : Operand) → (not (d || u) && is_held cs f) ≡ true
    → IsExpression cs o.tree → On (writes cs) (Initialising.class_from c w (typ (tx_ex (typ f d u)) q v) at o)
exception_copied_from cs c w f d u q v at o h g = skip (writes cs) (check o.at NoConversion (form_eq (form_in (typ_in o.tree)) (tx_ex (typ f d u)))) _
    (λ y. either (writes cs) (is_class_prvalue (typ_in o.tree) (cat_of o.tree)) _ _ (exception_made cs c w f d u q v at o h g)
    (skip (writes cs) (check o.at NoCopy (not (is_volatile_typ (typ_in o.tree)))) _
    (λ z i. record { head = exception_node cs f d u q v h; chosen = refl; written = refl })))

-- from the one value that it is written with
exact_writes : (cs : List Class) (m : ℕ) (c : Ctx) (w : Work) (q v : Bool) (at : At) (o : Operand) → is_class cs m ≡ true → IsExpression cs o.tree
    → On (writes cs) (Initialising.exact_object c w (typ (class m) q v) at o)
exact_writes cs m c w q v at o h g = either (writes cs) (Initialising.is_other_prvalue (typ (class m) q v) o.tree) _ _
    (expression_writes (Initialising.class_from c x.work (typ (class m) q v) at (object_operand o x.tree))
    (class_from cs m c x.work q v at (object_operand o x.tree) h (object_sound cs c w o.at o.tree g)))
    (expression_writes (Initialising.class_from c w (typ (class m) q v) at o) (class_from cs m c w q v at o h g))
  where
    x : Made
    x = object_of c w o.at o.tree

    expression_writes : (r : Result Made ElabFault) → On (made cs) r → On (writes cs) r
    expression_writes (Ok a) h = λ i. h
    expression_writes (Err e) h = tt

value_writes : (cs : List Class) (c : Ctx) (w : Work) (f : Form) (q v : Bool) (at : At) (os : List Operand) → is_held cs f ≡ true → AreExpressions cs os
    → On (writes cs) (Initialising.exception_from c w (typ f q v) at os)
value_writes cs c w (int k) q v at (o ∷ []) h g = skip (writes cs) (Initialising.initial c w (typ (int k) q v) o) _ (λ m i. absurd cc)
value_writes cs c w (enum e s) q v at (o ∷ []) h g = skip (writes cs) (Initialising.initial c w (typ (enum e s) q v) o) _ (λ m i. absurd cc)
value_writes cs c w (class m) q v at (o ∷ []) h g = exact_writes cs m c w q v at o (held_class cs m h) g.0
value_writes cs c w void q v at (o ∷ []) h g = absurd cc
value_writes cs c w null q v at (o ∷ []) h g = absurd cc
value_writes cs c w (ptr t) q v at (o ∷ []) h g = absurd cc
value_writes cs c w (ref t) q v at (o ∷ []) h g = absurd cc
value_writes cs c w (array t k) q v at (o ∷ []) h g = absurd cc
value_writes cs c w (func s) q v at (o ∷ []) h g = absurd cc
value_writes cs c w (closure m) q v at (o ∷ []) h g = absurd cc
value_writes cs c w (tx_ex t) q v at (o ∷ []) h g = absurd cc
value_writes cs c w f q v at [] h g = tt
value_writes cs c w f q v at (o ∷ p ∷ os) h g = tt

-- Values in parentheses (C++14 8.5 p16)

default_class : (cs : List Class) (m : ℕ) (c : Ctx) (q v : Bool) (at : At) → is_class cs m ≡ true → On (IsExpression cs) (Initialising.from_nothing c (typ (class m) q v) at)
default_class cs m c q v at h = skip (IsExpression cs) (Initialising.makeable c at m) _ (λ k. default_by (Objects.traits_at c m).default)
  where
    default_by : (s : Special) → On (IsExpression cs) (Initialising.default_by c (typ (class m) q v) at s)
    default_by absent = tt
    default_by trivial = zeros_class cs m c.classes at q v h
    default_by (function k) = record { head = class_node cs m q v Prvalue h; chosen = refl; written = refl }

constructed : (cs : List Class) (m : ℕ) (c : Ctx) (w : Work) (q v : Bool) (at : At) (os : List Operand) → is_class cs m ≡ true → AreExpressions cs os
    → On (made cs) (Initialising.constructed c w m (typ (class m) q v) at os)
constructed cs m c w q v at [] h g = bind (IsExpression cs) (made cs) (Initialising.from_nothing c (typ (class m) q v) at) _ (default_class cs m c q v at h) (λ e i. i)
constructed cs m c w q v at (o ∷ os) h g = skip (made cs) (Initialising.makeable c at m) _
    (λ k. either (made cs) (Initialising.is_prvalue_itself m (o ∷ os)) _ _ (building_class cs m c.classes q v o.tree h g.0)
    (skip (made cs) (Initialising.meant at (chosen c.classes (Initialising.makers c m) (Initialising.arguments (o ∷ os)))) _
    (λ i. constructed_by os (Initialising.constructor_at c m i))))
  where
    constructed_by : (ps : List Operand) (f : Option ℕ) → On (made cs) (Initialising.constructed_by c w m (typ (class m) q v) at (o ∷ ps) f)
    constructed_by ps (Some k) = skip (made cs) (Initialising.words c w (Initialising.parameters_at c.funcs k) (o ∷ ps)) _
        (λ x. record { head = class_node cs m q v Prvalue h; chosen = refl; written = refl })
    constructed_by [] None = skip (made cs) (check o.at NoCopy (not (is_volatile_typ (typ_in o.tree)))) _
        (λ y. record { head = class_node cs m q v Prvalue h; chosen = refl; written = refl })
    constructed_by (p ∷ ps) None = tt

exception_values : (cs : List Class) (c : Ctx) (w : Work) (f : Form) (d u q v : Bool) (at : At) (os : List Operand) → (not (d || u) && is_held cs f) ≡ true
    → AreExpressions cs os → On (writes cs) (Initialising.from_values c w (typ (tx_ex (typ f d u)) q v) at os)
exception_values cs c w f d u q v at [] h g = tt
exception_values cs c w f d u q v at (o ∷ os) h g = either (writes cs) (Initialising.is_exception_itself (typ f d u) (o ∷ os)) _ _
    (exception_copied_from cs c w f d u q v at o h g.0) (value_writes cs c w f q v at (o ∷ os) (and_parts (not (d || u)) (is_held cs f) h).1 g)

-- Casts to classes

stored_typ : (at : At) (e : Tree) → typ_in (stored_at at e) ≡ typ_in e
stored_typ at (node (Store k v) t cat p kids) = refl
stored_typ at (node kind t cat p kids) = refl

-- an exception says what it is
exception_expression : (cs : List Class) (at : At) (f : Form) (d u q v : Bool) (e : Tree) (b : Bool) → (not (d || u) && is_held cs f) ≡ true
    → is_exception_form (form_in (typ_in e)) ≡ b → Writes cs e
    → IsExpression cs (if not b then node Retype (typ (tx_ex (typ f d u)) q v) Prvalue at (one (stored_at at e)) else e)
exception_expression cs at f d u q v e true h b g = g b
exception_expression cs at f d u q v e false h b g =
    record { head = exception_node cs f d u q v h; chosen = refl; written = ap (λ (t : Typ). not (is_exception_form (form_in t))) (stored_typ at e) ∙ ap not b }

-- `T(..)` where it is a class
pub object_cast : (cs : List Class) (c : Ctx) (w : Work) (f : Form) (q v : Bool) (at : At) (os : List Operand) → is_object_form f ≡ true
    → is_sound cs value (typ f q v) ≡ true → AreExpressions cs os
    → On (made cs) (and_then (Initialising.from_values c w (typ f q v) at os) (λ (m : Made). Ok (with_tree (as_expression at (typ f q v)) m)))
object_cast cs c w (class m) q v at os i h g = bind (made cs) (made cs) (Initialising.from_values c w (typ (class m) q v) at os) _
    (constructed cs m c w q v at os h g) (λ m k. k)
object_cast cs c w (closure m) q v at [] i h g = tt
object_cast cs c w (closure m) q v at (o ∷ os) i h g = bind (made cs) (made cs) (Initialising.from_values c w (typ (closure m) q v) at (o ∷ os)) _
    (closure_from cs m c w q v at o h g.0) (λ m k. k)
object_cast cs c w (tx_ex (typ f d u)) q v at os i h g = bind (writes cs) (made cs) (Initialising.from_values c w (typ (tx_ex (typ f d u)) q v) at os) _
    (exception_values cs c w f d u q v at os h g)
    (λ m k. exception_expression cs at f d u q v m.tree (is_exception_form (form_in (typ_in m.tree))) h refl k)
object_cast cs c w void q v at os i h g = absurd cc
object_cast cs c w (int k) q v at os i h g = absurd cc
object_cast cs c w (enum e s) q v at os i h g = absurd cc
object_cast cs c w null q v at os i h g = absurd cc
object_cast cs c w (ptr t) q v at os i h g = absurd cc
object_cast cs c w (ref t) q v at os i h g = absurd cc
object_cast cs c w (array t k) q v at os i h g = absurd cc
object_cast cs c w (func s) q v at os i h g = absurd cc
