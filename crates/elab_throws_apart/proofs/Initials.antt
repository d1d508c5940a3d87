-- What initialises an object of a type: nothing, values in parentheses, or the value behind `=`.
use Rattle.std.proofs.Common.{◌≡◌, refl, subst, ℕ, not, true, List, [], ◌∷◌, Option, Some, None, Ok, if◌then◌else◌}
use Rattle.elab_rules.specs.cpp_overload.Choosing.{chosen}
use Rattle.elab_rules.specs.cpp_types.Typ.{Typ, typ, Form, void, ref, array, func, class, closure, tx_ex}
use Rattle.elab_rules.specs.cpp_types.declared.classes.At.{At}
use Rattle.elab_rules.specs.cpp_tree.declared.faults.IllRule.TheVariants.{NoCopy, NoViable, BadInit, OutOfProfile}
use Rattle.elab_rules.specs.cpp_tree.Trees.{Tree, typ_in}
use Rattle.elab_rules.specs.cpp_tree.Typing.{form_in, is_class_typ, is_volatile_typ, without_exception}
use Rattle.elab_rules.specs.elab_ctx.Ctx.{Ctx, Work, Special, absent, trivial, function}
use Rattle.elab_rules.specs.elab_ctx.Steps.{and_then, check, expect, Operand}
use Rattle.elab_rules.specs.Objects.{is_array, element_of, traits_at}
use Rattle.elab_rules.specs.Initialising
use Rattle.elab_rules.specs.Initialising.{class_from, scalar_from, from_values, from_nothing, conversion}
use Rattle.elab_rules.specs.Statements.{is_lasting, bound_reference, copy_initialised, directly_initialised, default_object, is_const_element, const_initialised}
use Rattle.elab_fits.specs.Standing.{On}
use Rattle.elab_fits.proofs.Steps.{bind, skip, either, expected}
use Rattle.elab_throws_apart.specs.Throws.{AreApart, InitialisersApart}
use Rattle.elab_throws_apart.proofs.Trees.{Apart, MadeApart, tree_if}
use Rattle.elab_throws_apart.proofs.Objects.{zeros_apart, building_apart, class_apart, exact_apart, scalar_apart}

abbrev OperandApart : Operand → Type 0
OperandApart o = Apart o.tree

-- Nothing

default_apart : (c : Ctx) (t : Typ) (at : At) (x : Special) → On Apart (Initialising.default_by c t at x)
default_apart c t at absent = tt
default_apart c t at trivial = zeros_apart c.classes at t
default_apart c t at (function k) = tree_if (is_array t) _ _ refl refl

nothing_in : (c : Ctx) (t : Typ) (at : At) (f : Form) → On Apart (Initialising.default_in c t at f)
nothing_in c t at (class n) = skip Apart (Initialising.makeable c at n) _ (λ k. default_apart c t at (traits_at c n).default)
nothing_in c t at (tx_ex e) = tt
nothing_in c t at (closure n) = tt
nothing_in c t at (ref e) = tt
nothing_in c t at void = tt
nothing_in c t at (func s) = tt
nothing_in c t at f = zeros_apart c.classes at t

from_none : (c : Ctx) (w : Work) (t : Typ) (at : At) → On MadeApart (and_then (from_nothing c t at) (λ (e : Tree). Ok (record { tree = e; work = w })))
from_none c w t at = bind Apart MadeApart (from_nothing c t at) _ (nothing_in c t at (form_in (element_of t))) (λ e h. h)

-- Values in parentheses

maker_apart : (c : Ctx) (w : Work) (n : ℕ) (t : Typ) (at : At) (os : List Operand) (k : Option ℕ) → On MadeApart (Initialising.constructed_by c w n t at os k)
maker_apart c w n t at os (Some k) = skip MadeApart (Initialising.words c w (Initialising.parameters_at c.funcs k) os) _ (λ m. refl)
maker_apart c w n t at (o ∷ []) None = skip MadeApart (check o.at NoCopy (not (is_volatile_typ (typ_in o.tree)))) _ (λ y. refl)
maker_apart c w n t at os None = tt

constructed_apart : (c : Ctx) (w : Work) (n : ℕ) (t : Typ) (at : At) (os : List Operand) → AreApart os → On MadeApart (Initialising.constructed c w n t at os)
constructed_apart c w n t at [] x = from_none c w t at
constructed_apart c w n t at (o ∷ os) x = skip MadeApart (Initialising.makeable c at n) _ (λ k. either MadeApart (Initialising.is_prvalue_itself n (o ∷ os)) _ _
    (λ h. building_apart c.classes t o.tree x.0)
    (λ h. skip MadeApart (Initialising.meant at (chosen c.classes (Initialising.makers c n) (Initialising.arguments (o ∷ os)))) _
    (λ i. maker_apart c w n t at (o ∷ os) (Initialising.constructor_at c n i))))

the_only : (os : List Operand) (o : Operand) → AreApart os → Initialising.only os ≡ Some o → OperandApart o
the_only [] o h e = absurd cc
the_only (a ∷ []) o h e = let x : a ≡ o = cc in subst OperandApart x h.0
the_only (a ∷ b ∷ os) o h e = absurd cc

exceptions_apart : (c : Ctx) (w : Work) (t : Typ) (at : At) (os : List Operand) → AreApart os → On MadeApart (Initialising.exception_from c w t at os)
exceptions_apart c w t at os h = expected MadeApart at NoViable (Initialising.only os) _ (λ o e. either MadeApart (is_class_typ t) _ _
    (λ i. exact_apart c w t at o (the_only os o h e)) (λ i. scalar_apart c w t o (the_only os o h e)))

one_apart : (c : Ctx) (w : Work) (t : Typ) (at : At) (o : Operand) (os : List Operand) → AreApart (o ∷ os)
    → On MadeApart (if is_class_typ t then class_from c w t at o
    else and_then (expect at BadInit (Initialising.only (o ∷ os))) (λ (p : Operand). scalar_from c w t p))
one_apart c w t at o os n = either MadeApart (is_class_typ t) _ _ (λ h. class_apart c w t at o n.0)
    (λ h. expected MadeApart at BadInit (Initialising.only (o ∷ os)) _ (λ p e. scalar_apart c w t p (the_only (o ∷ os) p n e)))

pub values_apart : (c : Ctx) (w : Work) (t : Typ) (at : At) (os : List Operand) → AreApart os → On MadeApart (from_values c w t at os)
values_apart c w (typ (class n) q v) at os h = constructed_apart c w n (typ (class n) q v) at os h
values_apart c w (typ (tx_ex t) q v) at [] h = tt
values_apart c w (typ (tx_ex t) q v) at (o ∷ os) h = either MadeApart (Initialising.is_exception_itself t (o ∷ os)) _ _
    (λ i. class_apart c w (typ (tx_ex t) q v) at o h.0) (λ i. exceptions_apart c w (without_exception (typ (tx_ex t) q v)) at (o ∷ os) h)
values_apart c w (typ (array e n) q v) at (o ∷ os) h = tt
values_apart c w t at [] h = from_none c w t at
values_apart c w t at (o ∷ os) h = one_apart c w t at o os h

-- Variables

reference_apart : (c : Ctx) (w : Work) (t : Typ) (o : Operand) → Apart o.tree → On MadeApart (bound_reference c w t o)
reference_apart c w t o h = skip MadeApart (check o.at OutOfProfile (is_lasting (conversion c t o) o)) _ (λ y. scalar_apart c w t o h)

copy_by : (c : Ctx) (w : Work) (t : Typ) (o : Operand) → Apart o.tree → On MadeApart (if is_class_typ t then class_from c w t o.at o else scalar_from c w t o)
copy_by c w t o h = either MadeApart (is_class_typ t) _ _ (λ i. class_apart c w t o.at o h) (λ i. scalar_apart c w t o h)

copied_law : (c : Ctx) (w : Work) (t : Typ) (o : Operand) → Apart o.tree → On MadeApart (copy_initialised c w t o)
copied_law c w (typ (ref t) q v) o h = reference_apart c w (typ (ref t) q v) o h
copied_law c w (typ (array t n) q v) o h = tt
copied_law c w t o h = copy_by c w t o h

direct_law : (c : Ctx) (w : Work) (t : Typ) (at : At) (os : List Operand) → AreApart os → On MadeApart (directly_initialised c w t at os)
direct_law c w (typ (ref t) q v) at (o ∷ []) h = reference_apart c w (typ (ref t) q v) o h.0
direct_law c w t at os h = values_apart c w t at os h

default_law : (c : Ctx) (t : Typ) (at : At) → On Apart (default_object c t at)
default_law c t at = skip Apart (if is_const_element t then const_initialised c at (element_of t) else Ok true) _
    (λ y. nothing_in c t at (form_in (element_of t)))

pub initialisers_law : InitialisersApart
initialisers_law = record { copied = copied_law; direct = direct_law; default = default_law }
