-- What is made of operands adds whole items alone.
use Rattle.std.proofs.Common.{◌≡◌, refl, sym, ap, ◌∙◌, ℕ, Bool, true, false, ◌&&◌, not, List, [], ◌∷◌, ◌++◌, Option, Some, None, is_some, unwrap_or, Result, Ok, Err}
use Rattle.std.specs.Prelude.{if◌then◌else◌, slice_get}
use Rattle.std.specs.List.{list_all}
use Rattle.std.proofs.lemmas.Bool.{and_parts, and_from}
use Rattle.elab_rules.specs.cpp_types.Typ.{Typ, typ, Form, void, int, enum, null, ptr, ref, array, func, class, closure, tx_ex, Typs, none as no_typs, more as and_typ}
use Rattle.elab_rules.specs.cpp_types.Class.{Class, completion_of}
use Rattle.elab_rules.specs.cpp_types.Conversion.{referred}
use Rattle.elab_rules.specs.cpp_types.Equal.{form_eq}
use Rattle.elab_rules.specs.cpp_types.declared.classes.At.{At}
use Rattle.elab_rules.specs.cpp_types.declared.ranks.Conversion.{Conversion}
use Rattle.elab_rules.specs.cpp_types.declared.ranks.Step.{Step}
use Rattle.elab_rules.specs.cpp_types.declared.ranks.Binding.{Binding}
use Rattle.elab_rules.specs.cpp_types.declared.ranks.Binding.TheVariants.{Value, Direct, Temporary}
use Rattle.elab_rules.specs.cpp_tree.Trees.{Tree, typ_in, cat_of}
use Rattle.elab_rules.specs.cpp_tree.Typing.{unqualified, is_class_typ, is_class_prvalue, form_in, is_volatile_typ, without_exception}
use Rattle.elab_rules.specs.cpp_tree.WellFormed.{is_item}
use Rattle.elab_rules.specs.cpp_tree.declared.faults.ElabFault.{ElabFault}
use Rattle.elab_rules.specs.cpp_tree.declared.faults.IllRule.{IllRule}
use Rattle.elab_rules.specs.cpp_tree.declared.faults.IllRule.TheVariants.{NoConversion, NoCopy, OutOfProfile, NoViable, BadInit, Incomplete, AbstractObject}
use Rattle.elab_rules.specs.elab_ctx.Ctx.{Ctx, Work, Func, with_item}
use Rattle.elab_rules.specs.elab_ctx.Steps.{and_then, expect, check, Operand, Made, MadeAll}
use Rattle.elab_rules.specs.Values
use Rattle.elab_rules.specs.Objects
use Rattle.elab_rules.specs.Objects.{traits_at}
use Rattle.elab_rules.specs.Initialising
use Rattle.elab_rules.specs.Initialising.{conversion, same_number, class_number, parameters_at, constructor_at, meant, makers, argument, arguments, has_copy}
use Rattle.elab_rules.specs.cpp_overload.Choosing.{chosen}
use Rattle.elab_places.proofs.Steps.{On, bind, skip, either, held_by}
use Rattle.elab_frame_items.specs.Items.{AreWhole, is_unnamed, IsWhole, AllWhole, AreParameters, FunctionsWhole, InitialsWhole, ClassObjectsWhole, ValuesWhole, WordsWhole}
use Rattle.elab_frame_items.proofs.Conversions.{conversion_fine, given}

-- What adds whole items alone

pub record Adds (classes : List Class) (a b : Work) : Type 0 where
  pub whole : AreWhole classes a → AreWhole classes b

pub same : (classes : List Class) (w : Work) → Adds classes w w
same classes w = record { whole = λ h. h }

pub after : (classes : List Class) (a b d : Work) → Adds classes a b → Adds classes b d → Adds classes a d
after classes a b d f g = record { whole = λ h. g.whole (f.whole h) }

pub one_more : (test : Typ → Bool) (ts : List Typ) (t : Typ) → list_all test ts ≡ true → test t ≡ true → list_all test (ts ++ t ∷ []) ≡ true
one_more test [] t h p = and_from (test t) true p refl
one_more test (u ∷ ts) t h p = let q = and_parts (test u) (list_all test ts) h in and_from (test u) (list_all test (ts ++ t ∷ [])) q.0 (one_more test ts t q.1 p)

pub one_item : (classes : List Class) (w : Work) (t : Typ) → is_item classes t ≡ true → Adds classes w (with_item w t)
one_item classes w t p = record { whole = λ h. one_more (is_item classes) w.frame t h p }

abbrev pub Mades : List Class → Work → Made → Type 0
Mades classes w m = Adds classes w m.work

abbrev pub AllMades : List Class → Work → MadeAll → Type 0
AllMades classes w m = Adds classes w m.work

-- from a later work
pub later : (classes : List Class) (w x : Work) (r : Result Made ElabFault) → Adds classes w x → On (Mades classes x) r → On (Mades classes w) r
later classes w x (Ok m) h g = after classes w x m.work h g
later classes w x (Err e) h g = tt

-- Objects and conversions

object_by : (c : Ctx) (w : Work) (at : At) (e : Tree) (b : Bool) → (b ≡ true → is_item c.classes (typ_in e) ≡ true)
    → Adds c.classes w (if b then Values.temporary w (typ_in e) at (Values.builder e) (Objects.destroys c at (typ_in e)) else record { tree = e; work = w }).work
object_by c w at e true h = one_item c.classes w (typ_in e) (h refl)
object_by c w at e false h = same c.classes w

pub object : (c : Ctx) (w : Work) (at : At) (e : Tree) → IsWhole c.classes e → Adds c.classes w (Initialising.object_of c w at e).work
object c w at e h = object_by c w at e (is_class_prvalue (typ_in e) (cat_of e)) h.object

bound : (c : Ctx) (w : Work) (b : Binding) (s : Step) (t : Typ) (at : At) (e : Tree) → IsWhole c.classes e
    → (b ≡ Temporary → is_item c.classes (unqualified (referred t)) ≡ true) → Adds c.classes w (Initialising.bound_by c w b s t at e).work
bound c w Value s t at e h i = same c.classes w
bound c w Direct s t at e h i = object c w at e h
bound c w Temporary s t at e h i = one_item c.classes w (unqualified (referred t)) (i refl)

expected : {A : Type 0} (at : At) (rule : IllRule) (o : Option A) → On (λ (a : A). o ≡ Some a) (expect at rule o)
expected at rule (Some a) = refl
expected at rule None = tt

pub initial : (c : Ctx) (w : Work) (t : Typ) (o : Operand) → IsWhole c.classes o.tree → On (Mades c.classes w) (Initialising.initial c w t o)
initial c w t o h = bind (λ (v : Conversion). conversion c t o ≡ Some v) (Mades c.classes w) (expect o.at NoConversion (conversion c t o)) _
    (expected o.at NoConversion (conversion c t o))
    (λ v e. bound c w v.binding v.step t o.at o.tree h
    (given c.classes (referred t) (conversion c t o) v e (conversion_fine c.classes (typ_in o.tree) (cat_of o.tree) o.zero t)))

reference_word : (c : Ctx) (w : Work) (ps : Typs) (o : Operand) → IsWhole c.classes o.tree → On (AllMades c.classes w) (Initialising.reference_word c w ps o)
reference_word c w (and_typ p no_typs) o h = skip (AllMades c.classes w) (check o.at OutOfProfile (not (is_class_typ p))) _
    (λ y. bind (Mades c.classes w) (AllMades c.classes w) (Initialising.initial c w p o) _ (initial c w p o h) (λ m g. g))
reference_word c w no_typs o h = tt
reference_word c w (and_typ p (and_typ q ps)) o h = tt

constructed_copy : (c : Ctx) (w : Work) (n : ℕ) (t : Typ) (at : At) (o : Operand) (f : Option ℕ) → IsWhole c.classes o.tree
    → On (Mades c.classes w) (Initialising.constructed_copy c w n t at o f)
constructed_copy c w n t at o None h = object c w o.at o.tree h
constructed_copy c w n t at o (Some i) h = bind (AllMades c.classes w) (Mades c.classes w) (Initialising.reference_word c w (parameters_at c.funcs i) o) _
    (reference_word c w (parameters_at c.funcs i) o h) (λ m g. g)

copied_object : (c : Ctx) (w : Work) (n : ℕ) (t : Typ) (at : At) (o : Operand) → IsWhole c.classes o.tree → On (Mades c.classes w) (Initialising.copied_object c w n t at o)
copied_object c w n t at o h = skip (Mades c.classes w) (check o.at NoCopy (not (is_volatile_typ (typ_in o.tree)) && has_copy (traits_at c n).copy)) _
    (λ y. skip (Mades c.classes w) (meant at (chosen c.classes (makers c n) (argument o ∷ []))) _
    (λ i. constructed_copy c w n t at o (constructor_at c n i) h))

exception_by : (c : Ctx) (w : Work) (t : Typ) (at : At) (o : Operand) (b : Bool) → IsWhole c.classes o.tree
    → Adds c.classes w (if b then Initialising.with_tree (Initialising.exception_copied c t at) (Initialising.object_of c w o.at o.tree) else
    record { tree = Initialising.exception_built c.classes t (Values.builder o.tree); work = w }).work
exception_by c w t at o true h = object c w o.at o.tree h
exception_by c w t at o false h = same c.classes w

pub class_from : (c : Ctx) (w : Work) (t : Typ) (at : At) (o : Operand) → IsWhole c.classes o.tree → On (Mades c.classes w) (Initialising.class_from c w t at o)
class_from c w (typ (closure n) q v) at o h = either (Mades c.classes w) (Initialising.is_closure_itself n q v o.tree) _ _ (same c.classes w)
    (skip (Mades c.classes w) (check o.at NoConversion (same_number n (class_number (typ_in o.tree)))) _
    (λ y. skip (Mades c.classes w) (check o.at NoCopy (not (is_volatile_typ (typ_in o.tree)))) _ (λ z. object c w o.at o.tree h)))
class_from c w (typ (class n) q v) at o h = skip (Mades c.classes w) (Initialising.makeable c at n) _
    (λ i. either (Mades c.classes w) (Initialising.is_prvalue_of_class n o.tree) _ _ (same c.classes w)
    (skip (Mades c.classes w) (check o.at NoConversion (Initialising.is_same_or_base c.classes (class_number (typ_in o.tree)) (Some n))) _
    (λ y. copied_object c w n (typ (class n) q v) at o h)))
class_from c w (typ (tx_ex t) q v) at o h = skip (Mades c.classes w) (check o.at NoConversion (form_eq (form_in (typ_in o.tree)) (tx_ex t))) _
    (λ y. either (Mades c.classes w) (is_class_prvalue (typ_in o.tree) (cat_of o.tree)) _ _
    (exception_by c w (typ (tx_ex t) q v) at o (Initialising.is_given_value (Values.builder o.tree)) h)
    (skip (Mades c.classes w) (check o.at NoCopy (not (is_volatile_typ (typ_in o.tree)))) _ (λ z. same c.classes w)))
class_from c w (typ void q v) at o h = tt
class_from c w (typ (int k) q v) at o h = tt
class_from c w (typ (enum n b) q v) at o h = tt
class_from c w (typ null q v) at o h = tt
class_from c w (typ (ptr t) q v) at o h = tt
class_from c w (typ (ref t) q v) at o h = tt
class_from c w (typ (array t n) q v) at o h = tt
class_from c w (typ (func g) q v) at o h = tt

-- The type of an object that is made of an operand is whole

nothing : {A : Type 0} (P : Type 0) (r : Result A ElabFault) → P → On (λ (a : A). P) r
nothing P (Ok a) p = p
nothing P (Err e) p = tt

makeable_item : (c : Ctx) (at : At) (n : ℕ) → On (λ (k : ℕ). is_item c.classes (typ (class n) false false) ≡ true) (Initialising.makeable c at n)
makeable_item c at n = bind (λ (k : ℕ). completion_of c.classes n ≡ Some k) (λ (k : ℕ). is_item c.classes (typ (class n) false false) ≡ true)
    (expect at Incomplete (completion_of c.classes n)) _ (expected at Incomplete (completion_of c.classes n))
    (λ k e. skip (λ (j : ℕ). is_item c.classes (typ (class n) false false) ≡ true) (check at AbstractObject (not (traits_at c n).is_abstract)) _
    (λ y. ap is_some e))

class_item : (c : Ctx) (w : Work) (f : Form) (at : At) (o : Operand) → (is_unnamed f ≡ true → is_item c.classes (typ f false false) ≡ true)
    → On (λ (m : Made). is_item c.classes (typ f false false) ≡ true) (Initialising.class_from c w (typ f false false) at o)
class_item c w (closure n) at o h = nothing (is_item c.classes (typ (closure n) false false) ≡ true) (Initialising.class_from c w (typ (closure n) false false) at o) (h refl)
class_item c w (tx_ex t) at o h = nothing (is_item c.classes (typ (tx_ex t) false false) ≡ true) (Initialising.class_from c w (typ (tx_ex t) false false) at o) (h refl)
class_item c w (class n) at o h = bind (λ (k : ℕ). is_item c.classes (typ (class n) false false) ≡ true)
    (λ (m : Made). is_item c.classes (typ (class n) false false) ≡ true) (Initialising.makeable c at n) _ (makeable_item c at n)
    (λ k e. nothing (is_item c.classes (typ (class n) false false) ≡ true) _ e)
class_item c w void at o h = tt
class_item c w (int k) at o h = tt
class_item c w (enum n b) at o h = tt
class_item c w null at o h = tt
class_item c w (ptr t) at o h = tt
class_item c w (ref t) at o h = tt
class_item c w (array t n) at o h = tt
class_item c w (func g) at o h = tt

-- Words

pub both : {A : Type 0} (P Q : A → Type 0) (r : Result A ElabFault) → On P r → On Q r → On (λ (a : A). P a × Q a) r
both P Q (Ok a) h i = (h, i)
both P Q (Err e) h i = tt

abbrev Passed : Ctx → Typ → Type 0
Passed c p = is_unnamed (form_in p) ≡ true → is_item c.classes p ≡ true

passed : (c : Ctx) (w : Work) (p : Typ) (o : Operand) → Passed c p → IsWhole c.classes o.tree → On (Mades c.classes w) (Initialising.passed c w p o)
passed c w (typ f q v) o i h = either (Mades c.classes w) (is_class_typ (typ f q v)) _ _
    (bind (λ (m : Made). Adds c.classes (with_item w (typ f false false)) m.work × (is_item c.classes (typ f false false) ≡ true)) (Mades c.classes w)
    (Initialising.class_from c (with_item w (typ f false false)) (typ f false false) o.at o) _
    (both (Mades c.classes (with_item w (typ f false false))) (λ (m : Made). is_item c.classes (typ f false false) ≡ true)
    (Initialising.class_from c (with_item w (typ f false false)) (typ f false false) o.at o)
    (class_from c (with_item w (typ f false false)) (typ f false false) o.at o h)
    (class_item c (with_item w (typ f false false)) f o.at o i))
    (λ m g. after c.classes w (with_item w (typ f false false)) m.work (one_item c.classes w (typ f false false) g.1) g.0))
    (initial c w (typ f q v) o h)

pub words : (c : Ctx) (w : Work) (ps : Typs) (os : List Operand) → AreParameters c.classes ps → AllWhole c.classes os → On (AllMades c.classes w) (Initialising.words c w ps os)
words c w (and_typ p ps) (o ∷ os) i h = bind (Mades c.classes w) (AllMades c.classes w) (Initialising.passed c w p o) _ (passed c w p o i.0 h.0)
    (λ m g. bind (AllMades c.classes m.work) (AllMades c.classes w) (Initialising.words c m.work ps os) _ (words c m.work ps os i.1 h.1)
    (λ r e. after c.classes w m.work r.work g e))
words c w (and_typ p ps) [] i h = same c.classes w
words c w no_typs os i h = same c.classes w

-- Values in parentheses

params_at : (c : Ctx) (k : ℕ) (o : Option Func) → slice_get c.funcs k ≡ o → FunctionsWhole c.classes c.funcs
    → AreParameters c.classes (Initialising.signature_parameters (unwrap_or o Initialising.no_function).declared.signature)
params_at c k (Some f) e h = h.each k f e
params_at c k None e h = tt

pub at_function : (c : Ctx) (k : ℕ) → FunctionsWhole c.classes c.funcs → AreParameters c.classes (parameters_at c.funcs k)
at_function c k h = params_at c k (slice_get c.funcs k) refl h

constructed_by : (c : Ctx) (w : Work) (n : ℕ) (t : Typ) (at : At) (os : List Operand) (f : Option ℕ) → FunctionsWhole c.classes c.funcs → AllWhole c.classes os
    → On (Mades c.classes w) (Initialising.constructed_by c w n t at os f)
constructed_by c w n t at os (Some i) k h = bind (AllMades c.classes w) (Mades c.classes w) (Initialising.words c w (parameters_at c.funcs i) os) _
    (words c w (parameters_at c.funcs i) os (at_function c i k) h) (λ m g. g)
constructed_by c w n t at (o ∷ []) None k h = skip (Mades c.classes w) (check o.at NoCopy (not (is_volatile_typ (typ_in o.tree)))) _
    (λ y. object c w o.at o.tree h.0)
constructed_by c w n t at [] None k h = tt
constructed_by c w n t at (o ∷ p ∷ os) None k h = tt

constructed : (c : Ctx) (w : Work) (n : ℕ) (t : Typ) (at : At) (os : List Operand) → FunctionsWhole c.classes c.funcs → AllWhole c.classes os
    → On (Mades c.classes w) (Initialising.constructed c w n t at os)
constructed c w n t at [] k h = skip (Mades c.classes w) (Initialising.from_nothing c t at) _ (λ e. same c.classes w)
constructed c w n t at (o ∷ os) k h = skip (Mades c.classes w) (Initialising.makeable c at n) _
    (λ i. either (Mades c.classes w) (Initialising.is_prvalue_itself n (o ∷ os)) _ _ (same c.classes w)
    (skip (Mades c.classes w) (meant at (chosen c.classes (makers c n) (arguments (o ∷ os)))) _
    (λ j. constructed_by c w n t at (o ∷ os) (constructor_at c n j) k h)))

pub scalar_from : (c : Ctx) (w : Work) (t : Typ) (o : Operand) → IsWhole c.classes o.tree → On (Mades c.classes w) (Initialising.scalar_from c w t o)
scalar_from c w t o h = bind (Mades c.classes w) (Mades c.classes w) (Initialising.initial c w t o) _ (initial c w t o h) (λ m g. g)

-- in its temporary it is an lvalue
placed_by : (c : Ctx) (w : Work) (at : At) (e : Tree) (b : Bool) → is_class_prvalue (typ_in e) (cat_of e) ≡ b
    → IsWhole c.classes (if b then Values.temporary w (typ_in e) at (Values.builder e) (Objects.destroys c at (typ_in e)) else record { tree = e; work = w }).tree
placed_by c w at e true i = record { object = λ h. absurd cc }
placed_by c w at e false i = record { object = λ h. let k : false ≡ true = sym i ∙ h in absurd cc }

pub placed : (c : Ctx) (w : Work) (at : At) (e : Tree) → IsWhole c.classes (Initialising.object_of c w at e).tree
placed c w at e = placed_by c w at e (is_class_prvalue (typ_in e) (cat_of e)) refl

pub exact_object : (c : Ctx) (w : Work) (t : Typ) (at : At) (o : Operand) → IsWhole c.classes o.tree → On (Mades c.classes w) (Initialising.exact_object c w t at o)
exact_object c w t at o h = either (Mades c.classes w) (Initialising.is_other_prvalue t o.tree) _ _ (later c.classes w x.work (Initialising.class_from c x.work t at p)
    (object c w o.at o.tree h) (class_from c x.work t at p (placed c w o.at o.tree))) (class_from c w t at o h)
  where
    x : Made
    x = Initialising.object_of c w o.at o.tree

    p : Operand
    p = Initialising.object_operand o x.tree

only_whole : (c : Ctx) (at : At) (rule : IllRule) (os : List Operand) → AllWhole c.classes os → On (λ (o : Operand). IsWhole c.classes o.tree) (expect at rule (Initialising.only os))
only_whole c at rule [] h = tt
only_whole c at rule (o ∷ []) h = h.0
only_whole c at rule (o ∷ p ∷ os) h = tt

exception_from : (c : Ctx) (w : Work) (t : Typ) (at : At) (os : List Operand) → AllWhole c.classes os → On (Mades c.classes w) (Initialising.exception_from c w t at os)
exception_from c w t at os h = bind (λ (o : Operand). IsWhole c.classes o.tree) (Mades c.classes w) (expect at NoViable (Initialising.only os)) _
    (only_whole c at NoViable os h) (λ o i. either (Mades c.classes w) (is_class_typ t) _ _ (exact_object c w t at o i) (scalar_from c w t o i))

one_value : (c : Ctx) (w : Work) (t : Typ) (at : At) (o : Operand) (os : List Operand) → AllWhole c.classes (o ∷ os)
    → On (Mades c.classes w) (if is_class_typ t then Initialising.class_from c w t at o else and_then (expect at BadInit (Initialising.only (o ∷ os)))
    (λ (p : Operand). Initialising.scalar_from c w t p))
one_value c w t at o os h = either (Mades c.classes w) (is_class_typ t) _ _ (class_from c w t at o h.0)
    (bind (λ (p : Operand). IsWhole c.classes p.tree) (Mades c.classes w) (expect at BadInit (Initialising.only (o ∷ os))) _ (only_whole c at BadInit (o ∷ os) h)
    (λ p i. scalar_from c w t p i))

nothing_made : (c : Ctx) (w : Work) (t : Typ) (at : At)
    → On (Mades c.classes w) (and_then (Initialising.from_nothing c t at) (λ (e : Tree). Ok (record { tree = e; work = w })))
nothing_made c w t at = skip (Mades c.classes w) (Initialising.from_nothing c t at) _ (λ e. same c.classes w)

pub from_values : (c : Ctx) (w : Work) (t : Typ) (at : At) (os : List Operand) → FunctionsWhole c.classes c.funcs → AllWhole c.classes os
    → On (Mades c.classes w) (Initialising.from_values c w t at os)
from_values c w (typ (class n) q v) at os k h = constructed c w n (typ (class n) q v) at os k h
from_values c w (typ (tx_ex t) q v) at [] k h = tt
from_values c w (typ (tx_ex t) q v) at (o ∷ os) k h = either (Mades c.classes w) (Initialising.is_exception_itself t (o ∷ os)) _ _
    (class_from c w (typ (tx_ex t) q v) at o h.0) (exception_from c w (without_exception (typ (tx_ex t) q v)) at (o ∷ os) h)
from_values c w (typ (array e n) q v) at (o ∷ os) k h = tt
from_values c w (typ (array e n) q v) at [] k h = nothing_made c w (typ (array e n) q v) at
from_values c w (typ void q v) at [] k h = nothing_made c w (typ void q v) at
from_values c w (typ void q v) at (o ∷ os) k h = one_value c w (typ void q v) at o os h
from_values c w (typ (int j) q v) at [] k h = nothing_made c w (typ (int j) q v) at
from_values c w (typ (int j) q v) at (o ∷ os) k h = one_value c w (typ (int j) q v) at o os h
from_values c w (typ (enum n b) q v) at [] k h = nothing_made c w (typ (enum n b) q v) at
from_values c w (typ (enum n b) q v) at (o ∷ os) k h = one_value c w (typ (enum n b) q v) at o os h
from_values c w (typ null q v) at [] k h = nothing_made c w (typ null q v) at
from_values c w (typ null q v) at (o ∷ os) k h = one_value c w (typ null q v) at o os h
from_values c w (typ (ptr u) q v) at [] k h = nothing_made c w (typ (ptr u) q v) at
from_values c w (typ (ptr u) q v) at (o ∷ os) k h = one_value c w (typ (ptr u) q v) at o os h
from_values c w (typ (ref u) q v) at [] k h = nothing_made c w (typ (ref u) q v) at
from_values c w (typ (ref u) q v) at (o ∷ os) k h = one_value c w (typ (ref u) q v) at o os h
from_values c w (typ (func g) q v) at [] k h = nothing_made c w (typ (func g) q v) at
from_values c w (typ (func g) q v) at (o ∷ os) k h = one_value c w (typ (func g) q v) at o os h
from_values c w (typ (closure n) q v) at [] k h = nothing_made c w (typ (closure n) q v) at
from_values c w (typ (closure n) q v) at (o ∷ os) k h = one_value c w (typ (closure n) q v) at o os h

-- The laws

pub initials_law : InitialsWhole
initials_law c w t o m h a e = (held_by (Mades c.classes w) (Initialising.initial c w t o) m (initial c w t o h) e).whole a

pub objects_law : ClassObjectsWhole
objects_law c w t at o m h a e = (held_by (Mades c.classes w) (Initialising.class_from c w t at o) m (class_from c w t at o h) e).whole a

pub values_law : ValuesWhole
values_law c w t at os m k h a e = (held_by (Mades c.classes w) (Initialising.from_values c w t at os) m (from_values c w t at os k h) e).whole a

pub words_law : WordsWhole
words_law c w ps os m i h a e = (held_by (AllMades c.classes w) (Initialising.words c w ps os) m (words c w ps os i h) e).whole a
