-- Nodes, values and conversions have the types of expressions.
use Rattle.std.proofs.Common.{◌≡◌, refl, ap, ℕ, Bool, true, false, not, ◌||◌, List, Option, Some, None, is_some}
use Rattle.std.specs.Prelude.{if◌then◌else◌}
use Rattle.std.proofs.lemmas.Bool.{and_parts}
use Rattle.elab_rules.specs.tx_ints.declared.kinds.IntKind.{IntKind}
use Rattle.elab_rules.specs.tx_ints.declared.kinds.BinOp.{BinOp}
use Rattle.elab_rules.specs.cpp_types.Typ.{Typ, typ, Form, void, int, enum, null, ptr, ref, array, func, class, closure, tx_ex}
use Rattle.elab_rules.specs.cpp_types.Class.{Class}
use Rattle.elab_rules.specs.cpp_types.Equal.{kind_eq, typ_eq}
use Rattle.elab_rules.specs.cpp_types.Conversion.{is_object_form}
use Rattle.elab_rules.specs.cpp_types.declared.classes.At.{At}
use Rattle.elab_rules.specs.cpp_types.declared.ranks.Cat.{Cat}
use Rattle.elab_rules.specs.cpp_types.declared.ranks.Cat.TheVariants.{Lvalue, Prvalue}
use Rattle.elab_rules.specs.cpp_types.declared.ranks.Step.{Step}
use Rattle.elab_rules.specs.cpp_types.declared.ranks.Step.TheVariants as steps
use Rattle.elab_rules.specs.cpp_tree.declared.kinds.TKind.{TKind}
use Rattle.elab_rules.specs.cpp_tree.declared.kinds.TKind.TheVariants.{Retype, Convert}
use Rattle.elab_rules.specs.cpp_tree.Trees.{Tree, node, Trees, one, typ_in}
use Rattle.elab_rules.specs.cpp_tree.Notation.{plain}
use Rattle.elab_rules.specs.cpp_tree.Typing.{form_in, unqualified, kind_in, is_class_typ}
use Rattle.elab_rules.specs.Values.{is_exception_form, retyped, number, operated, valued, retyped_if, between, converted, in_kind, stepped}
use Rattle.elab_sound_types.specs.Types.{Use, object, target, value, is_positive, is_sound, is_sound_form, is_head, is_get, is_value_written, is_unqualified, IsExpression}
use Rattle.elab_sound_types.proofs.Sound.{both, sound_as, object_target, class_as, unqualified_sound, plain_sound}

pub or_left : {a : Bool} (b : Bool) → a ≡ true → (a || b) ≡ true
or_left b h = ap (λ z. z || b) h

pub or_right : (a : Bool) {b : Bool} → b ≡ true → (a || b) ≡ true
or_right true h = refl
or_right false h = h

pub some_same : {A : Type 0} (a b : A) → Some a ≡ Some b → a ≡ b
some_same a b e = cc

pub tree_if : (P : Tree → Type 0) (b : Bool) (x y : Tree) → P x → P y → P (if b then x else y)
tree_if P true x y h g = h
tree_if P false x y h g = g

-- Heads

pub plain_head : (cs : List Class) (f : Form) → is_sound cs value (plain f) ≡ true → is_head cs (plain f) Prvalue ≡ true
plain_head cs f h = both h (or_right (is_object_form f) refl)

pub value_head : (cs : List Class) (t : Typ) → is_sound cs value t ≡ true → is_head cs (unqualified t) Prvalue ≡ true
value_head cs (typ f c v) h = plain_head cs f (plain_sound cs value f c v h)

-- an object of a class, in either category
pub class_head : (cs : List Class) (a : Use) (f : Form) (own c v : Bool) (cat : Cat) → is_object_form f ≡ true → is_sound_form cs a own f ≡ true
    → is_head cs (typ f c v) cat ≡ true
class_head cs a f own c v Lvalue i h = class_as cs a target f own (c || v) i refl h
class_head cs a f own c v Prvalue i h = both (class_as cs a value f own (c || v) i refl h) (or_left (not (c || v)) i)

-- what an expression of a class has for a type
pub class_sound : (cs : List Class) (t : Typ) (cat : Cat) → is_class_typ t ≡ true → is_head cs t cat ≡ true → is_sound cs target t ≡ true
class_sound cs (typ f c v) Lvalue i h = h
class_sound cs (typ f c v) Prvalue i h =
    class_as cs value target f (c || v) (c || v) i refl (and_parts (is_sound cs value (typ f c v)) (is_object_form f || not (c || v)) h).0

-- the value of a scalar has its type without qualifiers
pub scalar_head : (cs : List Class) (t : Typ) (cat : Cat) → is_head cs t cat ≡ true → is_some (kind_in (form_in t)) ≡ true → is_head cs (unqualified t) Prvalue ≡ true
scalar_head cs (typ (int k) c v) cat h s = refl
scalar_head cs (typ (enum e x) c v) cat h s = refl
scalar_head cs (typ null c v) cat h s = refl
scalar_head cs (typ (ptr t) c v) Lvalue h s = both h refl
scalar_head cs (typ (ptr t) c v) Prvalue h s = both (and_parts (is_sound cs target t) (is_unqualified (typ (ptr t) c v)) h).0 refl
scalar_head cs (typ (ref t) c v) Lvalue h s = absurd cc
scalar_head cs (typ (ref t) c v) Prvalue h s = absurd cc
scalar_head cs (typ void c v) cat h s = absurd cc
scalar_head cs (typ (array t k) c v) cat h s = absurd cc
scalar_head cs (typ (func g) c v) cat h s = absurd cc
scalar_head cs (typ (class k) c v) cat h s = absurd cc
scalar_head cs (typ (closure k) c v) cat h s = absurd cc
scalar_head cs (typ (tx_ex t) c v) cat h s = absurd cc

pub unqualified_is : (t : Typ) → unqualified t ≡ plain (form_in t)
unqualified_is (typ f c v) = refl

-- Nodes

-- a node that is no `Retype`, nor what is looked up
pub record Plain (kind : TKind) : Type 0 where
  pub chosen : is_get kind ≡ false
  pub written : (cat : Cat) (t : Typ) (kids : Trees) → is_value_written kind cat t kids ≡ true

pub expression_node : (cs : List Class) (kind : TKind) (t : Typ) (cat : Cat) (at : At) (kids : Trees) → Plain kind → is_head cs t cat ≡ true
    → IsExpression cs (node kind t cat at kids)
expression_node cs kind t cat at kids p h = record { head = h; chosen = p.chosen; written = p.written cat t kids }

pub lvalue_retyped : (cs : List Class) (at : At) (t : Typ) (e : Tree) → is_sound cs target t ≡ true → IsExpression cs (retyped at t Lvalue e)
lvalue_retyped cs at t e h = record { head = h; chosen = refl; written = refl }

pub number_sound : (cs : List Class) (k : IntKind) (w : ℕ) (at : At) → IsExpression cs (number k w at)
number_sound cs k w at = record { head = refl; chosen = refl; written = refl }

pub operated_sound : (cs : List Class) (op : BinOp) (k : IntKind) (t : Typ) (at : At) (a b : Tree) → is_head cs t Prvalue ≡ true → IsExpression cs (operated op k t at a b)
operated_sound cs op k t at a b h = record { head = h; chosen = refl; written = refl }

-- Values (C++14 4.1 to 4.3)

-- an element as what a pointer points to
element_target : (cs : List Class) (f : Form) (c v : Bool) → is_sound cs object (typ f c v) ≡ true → is_sound cs target (typ f (c || false) (v || false)) ≡ true
element_target cs f true true h = sound_as cs object target (typ f true true) object_target h
element_target cs f true false h = sound_as cs object target (typ f true false) object_target h
element_target cs f false true h = sound_as cs object target (typ f false true) object_target h
element_target cs f false false h = sound_as cs object target (typ f false false) object_target h

value_by : (cs : List Class) (at : At) (kind : TKind) (f : Form) (c v : Bool) (cat : Cat) (p : At) (kids : Trees) → IsExpression cs (node kind (typ f c v) cat p kids)
    → IsExpression cs (valued at (node kind (typ f c v) cat p kids))
value_by cs at kind (func g) c v Lvalue p kids h =
    record { head = both (unqualified_sound cs target (typ (func g) c v) h.head) refl; chosen = refl; written = refl }
value_by cs at kind (func g) c v Prvalue p kids h = let e : false ≡ true = h.head in absurd cc
value_by cs at kind (array (typ g q u) k) false false Lvalue p kids h =
    record { head = both (element_target cs g q u (and_parts (is_positive k) (is_sound cs object (typ g q u)) h.head).1) refl; chosen = refl; written = refl }
value_by cs at kind (array t k) true v Lvalue p kids h = let e : false ≡ true = (and_parts (is_positive k) false h.head).1 in absurd cc
value_by cs at kind (array t k) false true Lvalue p kids h = let e : false ≡ true = (and_parts (is_positive k) false h.head).1 in absurd cc
value_by cs at kind (array t k) c v Prvalue p kids h = let e : false ≡ true = h.head in absurd cc
value_by cs at kind (int j) c v Lvalue p kids h = record { head = refl; chosen = refl; written = refl }
value_by cs at kind (enum e x) c v Lvalue p kids h = record { head = refl; chosen = refl; written = refl }
value_by cs at kind null c v Lvalue p kids h = record { head = refl; chosen = refl; written = refl }
value_by cs at kind (ptr t) c v Lvalue p kids h = record { head = both h.head refl; chosen = refl; written = refl }
value_by cs at kind (ref t) c v Lvalue p kids h = let e : false ≡ true = h.head in absurd cc
value_by cs at kind void c v Lvalue p kids h = h
value_by cs at kind (class k) c v Lvalue p kids h = h
value_by cs at kind (closure k) c v Lvalue p kids h = h
value_by cs at kind (tx_ex t) c v Lvalue p kids h = h
value_by cs at kind f c v Prvalue p kids h = h

pub valued_sound : (cs : List Class) (at : At) (e : Tree) → IsExpression cs e → IsExpression cs (valued at e)
valued_sound cs at (node kind (typ f c v) cat p kids) h = value_by cs at kind f c v cat p kids h

-- Conversions (C++14 4.5 to 4.12)

retyped_by : (cs : List Class) (at : At) (b : Bool) (t : Typ) (v : Tree) → IsExpression cs v → IsExpression cs (retyped at t Prvalue v) → IsExpression cs (retyped_if at b t v)
retyped_by cs at true t v h g = h
retyped_by cs at false t v h g = g

between_some : (cs : List Class) (at : At) (x : Option IntKind) (k : IntKind) (t : Typ) (v : Tree) → IsExpression cs v → IsExpression cs (retyped at t Prvalue v)
    → IsExpression cs (node (Convert k) t Prvalue at (one v)) → IsExpression cs (between at x (Some k) t v)
between_some cs at (Some j) k t v h g i = tree_if (IsExpression cs) (kind_eq j k) _ _ (retyped_by cs at (typ_eq t (typ_in v)) t v h g) i
between_some cs at None k t v h g i = h

between_none : (cs : List Class) (at : At) (x : Option IntKind) (t : Typ) (v : Tree) → IsExpression cs v → IsExpression cs (between at x None t v)
between_none cs at (Some j) t v h = h
between_none cs at None t v h = h

to_plain : (cs : List Class) (at : At) (k : IntKind) (f : Form) (v : Tree) → is_head cs (plain f) Prvalue ≡ true → is_value_written Retype Prvalue (plain f) (one v) ≡ true
    → kind_in f ≡ Some k → IsExpression cs v → IsExpression cs (between at (kind_in (form_in (typ_in v))) (Some k) (plain f) v)
to_plain cs at k f v h g i e = between_some cs at (kind_in (form_in (typ_in v))) k (plain f) v e (record { head = h; chosen = refl; written = g })
    (record { head = h; chosen = refl; written = refl })

pub converted_sound : (cs : List Class) (at : At) (t : Typ) (v : Tree) → is_sound cs value t ≡ true → IsExpression cs v → IsExpression cs (converted at t v)
converted_sound cs at (typ (int k) c d) v h e = to_plain cs at k (int k) v refl refl refl e
converted_sound cs at (typ (enum m x) c d) v h e = to_plain cs at _ (enum m x) v refl refl refl e
converted_sound cs at (typ null c d) v h e = to_plain cs at _ null v refl refl refl e
converted_sound cs at (typ (ptr t) c d) v h e = to_plain cs at _ (ptr t) v (both h refl) refl refl e
converted_sound cs at (typ (ref t) c d) v h e = absurd cc
converted_sound cs at (typ void c d) v h e = between_none cs at (kind_in (form_in (typ_in v))) (plain void) v e
converted_sound cs at (typ (array t k) c d) v h e = absurd cc
converted_sound cs at (typ (func g) c d) v h e = absurd cc
converted_sound cs at (typ (class k) c d) v h e = between_none cs at (kind_in (form_in (typ_in v))) (plain (class k)) v e
converted_sound cs at (typ (closure k) c d) v h e = between_none cs at (kind_in (form_in (typ_in v))) (plain (closure k)) v e
converted_sound cs at (typ (tx_ex t) c d) v h e = between_none cs at (kind_in (form_in (typ_in v))) (plain (tx_ex t)) v e

pub in_kind_sound : (cs : List Class) (at : At) (k : IntKind) (v : Tree) → IsExpression cs v → IsExpression cs (in_kind at k v)
in_kind_sound cs at k v e = converted_sound cs at (plain (int k)) v refl e

-- a null constant, where it is no exception
no_exception : (f : Form) (v : Tree) → is_exception_form f ≡ false → is_value_written Retype Prvalue (plain f) (one v) ≡ true
no_exception void v h = refl
no_exception (int k) v h = refl
no_exception (enum e x) v h = refl
no_exception null v h = refl
no_exception (ptr t) v h = refl
no_exception (ref t) v h = refl
no_exception (array t k) v h = refl
no_exception (func g) v h = refl
no_exception (class k) v h = refl
no_exception (closure k) v h = refl
no_exception (tx_ex t) v h = absurd cc

null_retyped : (cs : List Class) (at : At) (t : Typ) (v : Tree) → is_sound cs value t ≡ true → is_exception_form (form_in t) ≡ false
    → IsExpression cs (retyped at (unqualified t) Prvalue v)
null_retyped cs at (typ f c d) v h g = record { head = value_head cs (typ f c d) h; chosen = refl; written = no_exception f v g }

pub stepped_sound : (cs : List Class) (at : At) (step : Step) (t : Typ) (v : Tree) → is_sound cs value t ≡ true → is_exception_form (form_in t) ≡ false → IsExpression cs v
    → IsExpression cs (stepped at step t v)
stepped_sound cs at steps.NullPointer t v h g e = null_retyped cs at t v h g
stepped_sound cs at step t v h g e = converted_sound cs at t v h e
