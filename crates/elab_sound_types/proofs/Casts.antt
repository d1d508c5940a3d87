-- Casts, `sizeof`, `throw` and strings have the types of expressions.
use Rattle.std.proofs.Common.{◌≡◌, refl, true, false, not, ◌&&◌, ◌||◌, List, [], ◌∷◌, is_some, Ok}
use Rattle.std.proofs.lemmas.Bool.{and_parts}
use Rattle.elab_rules.specs.cpp_types.Typ.{Typ, typ, void, int, enum, null, ptr, ref, array, func, class, closure, tx_ex}
use Rattle.elab_rules.specs.cpp_types.Class.{Class}
use Rattle.elab_rules.specs.cpp_types.Conversion.{referred}
use Rattle.elab_rules.specs.cpp_types.declared.classes.At.{At}
use Rattle.elab_rules.specs.cpp_types.declared.ranks.Cat.TheVariants.{Lvalue, Prvalue}
use Rattle.elab_rules.specs.cpp_tree.declared.kinds.TKind.TheVariants.{Retype}
use Rattle.elab_rules.specs.cpp_tree.declared.faults.IllRule.TheVariants.{BadOperand, BadInit, Incomplete}
use Rattle.elab_rules.specs.cpp_tree.Trees.{Tree, node, typ_in}
use Rattle.elab_rules.specs.cpp_tree.Typing.{form_in, unqualified, is_class_typ, is_void, is_reference, kind_in}
use Rattle.elab_rules.specs.elab_ctx.Ctx.{Ctx, Work}
use Rattle.elab_rules.specs.elab_ctx.Steps.{and_then, check, Operand, Made}
use Rattle.elab_rules.specs.Initialising
use Rattle.elab_rules.specs.Initialising.{initial}
use Rattle.elab_rules.specs.Operators.{value, is_function, measurable}
use Rattle.elab_rules.specs.Types.{is_bounded}
use Rattle.elab_rules.specs.Casts as casts
use Rattle.elab_fits.specs.Standing.{On}
use Rattle.elab_fits.proofs.Steps.{skip, checked, either as either_of}
use Rattle.elab_sound_types.specs.Types.{target, result, value as a_value, denoted, is_sound, is_head, IsExpression, AreExpressions}
use Rattle.elab_sound_types.proofs.Sound.{both, unqualified_sound}
use Rattle.elab_sound_types.proofs.Trees.{lvalue_retyped, converted_sound}
use Rattle.elab_sound_types.proofs.Initial.{made, initial_sound}
use Rattle.elab_sound_types.proofs.Objects.{object_cast}
use Rattle.elab_sound_types.proofs.Operators.{value_sound}

-- an object that a cast to a reference refers to
reference_cast : (cs : List Class) (at : At) (u : Typ) (e : Tree) → is_sound cs target u ≡ true → IsExpression cs (casts.reference_cast at u e)
reference_cast cs at u (node Retype t Lvalue p kids) h = record { head = h; chosen = refl; written = refl }
reference_cast cs at u (node kind t cat p kids) h = lvalue_retyped cs at u (node kind t cat p kids) h

-- a cast to a scalar
scalar_cast : (cs : List Class) (c : Ctx) (w : Work) (at : At) (t : Typ) (o : Operand) → is_sound cs a_value t ≡ true → is_sound cs result t ≡ true
    → IsExpression cs o.tree → On (made cs) (casts.scalar_cast c w at t o)
scalar_cast cs c w at t o h g e = either_of (made cs) (casts.is_numeric (form_in (typ_in (value o))) && casts.is_numeric (form_in t)) _ _
    (λ i. converted_sound cs at t (value o) h (value_sound cs o e))
    (λ i. initial_sound cs c w (unqualified t) (record { tree = value o; at = at; zero = o.zero }) (unqualified_sound cs result t g) (value_sound cs o e))

-- to an object of a class
class_cast : (cs : List Class) (c : Ctx) (w : Work) (at : At) (t : Typ) (os : List Operand) → is_class_typ t ≡ true → is_sound cs a_value t ≡ true
    → AreExpressions cs os → On (made cs) (and_then (Initialising.from_values c w t at os)
    (λ (m : Made). Ok (Initialising.with_tree (casts.as_expression at t) m)))
class_cast cs c w at (typ f q v) os i h g = object_cast cs c w f q v at os i h g

pub cast_in : (cs : List Class) (c : Ctx) (w : Work) (at : At) (t : Typ) (o : Operand) → is_sound cs denoted t ≡ true → IsExpression cs o.tree
    → On (made cs) (casts.cast_in c w at t (form_in t) o)
cast_in cs c w at (typ void q v) o h e = record { head = refl; chosen = refl; written = refl }
cast_in cs c w at (typ (ref u) q v) o h e = skip (made cs) (initial c w (typ (ref u) q v) o) _
    (λ m. reference_cast cs at u m.tree (and_parts (not (q || v)) (is_sound cs target u) h).1)
cast_in cs c w at (typ (func s) q v) o h e = tt
cast_in cs c w at (typ (array u k) q v) o h e = tt
cast_in cs c w at (typ (int k) q v) o h e = scalar_cast cs c w at (typ (int k) q v) o refl refl e
cast_in cs c w at (typ (enum m s) q v) o h e = scalar_cast cs c w at (typ (enum m s) q v) o refl refl e
cast_in cs c w at (typ null q v) o h e = scalar_cast cs c w at (typ null q v) o refl refl e
cast_in cs c w at (typ (ptr t) q v) o h e = scalar_cast cs c w at (typ (ptr t) q v) o h h e
cast_in cs c w at (typ (class k) q v) o h e = class_cast cs c w at (typ (class k) q v) (o ∷ []) refl h (e, tt)
cast_in cs c w at (typ (closure k) q v) o h e = absurd cc
cast_in cs c w at (typ (tx_ex (typ f d x)) q v) o h e = class_cast cs c w at (typ (tx_ex (typ f d x)) q v) (o ∷ []) refl h (e, tt)

-- `T(a, ..)` (C++14 5.2.3)

class_value : (cs : List Class) (t : Typ) → is_class_typ t ≡ true → is_sound cs denoted t ≡ true → is_sound cs a_value t ≡ true
class_value cs (typ (class k) q v) i h = h
class_value cs (typ (closure k) q v) i h = absurd cc
class_value cs (typ (tx_ex (typ f d x)) q v) i h = h
class_value cs (typ void q v) i h = absurd cc
class_value cs (typ (int k) q v) i h = absurd cc
class_value cs (typ (enum m s) q v) i h = absurd cc
class_value cs (typ null q v) i h = absurd cc
class_value cs (typ (ptr t) q v) i h = absurd cc
class_value cs (typ (ref t) q v) i h = absurd cc
class_value cs (typ (array t k) q v) i h = absurd cc
class_value cs (typ (func s) q v) i h = absurd cc

-- nothing is the value 0 of a scalar
zero_head : (cs : List Class) (t : Typ) → (is_some (kind_in (form_in t)) && not (is_reference t)) ≡ true → is_sound cs denoted t ≡ true
    → is_head cs (unqualified t) Prvalue ≡ true
zero_head cs (typ (int k) q v) i h = refl
zero_head cs (typ (enum m s) q v) i h = refl
zero_head cs (typ null q v) i h = refl
zero_head cs (typ (ptr t) q v) i h = both h refl
zero_head cs (typ void q v) i h = absurd cc
zero_head cs (typ (ref t) q v) i h = absurd cc
zero_head cs (typ (array t k) q v) i h = absurd cc
zero_head cs (typ (func s) q v) i h = absurd cc
zero_head cs (typ (class k) q v) i h = absurd cc
zero_head cs (typ (closure k) q v) i h = absurd cc
zero_head cs (typ (tx_ex t) q v) i h = absurd cc

pub functional : (cs : List Class) (c : Ctx) (w : Work) (at : At) (t : Typ) (os : List Operand) → is_sound cs denoted t ≡ true → AreExpressions cs os
    → On (made cs) (casts.functional c w at t os)
functional cs c w at t (o ∷ []) h e = cast_in cs c w at t o h e.0
functional cs c w at t [] h e = either_of (made cs) (is_class_typ t) _ _ (λ i. class_cast cs c w at t [] i (class_value cs t i h) tt)
    (λ i. either_of (made cs) (is_void t) _ _ (λ j. record { head = refl; chosen = refl; written = refl })
    (λ j. checked (made cs) at BadInit (is_some (kind_in (form_in t)) && not (is_reference t)) _
    (λ k. record { head = zero_head cs t k h; chosen = refl; written = refl })))
functional cs c w at t (o ∷ p ∷ os) h e = either_of (made cs) (is_class_typ t) _ _
    (λ i. class_cast cs c w at t (o ∷ p ∷ os) i (class_value cs t i h) e) (λ i. tt)

pub size_literal : (cs : List Class) (c : Ctx) (at operand : At) (t : Typ) → On (IsExpression cs) (casts.size_literal c at operand t)
size_literal cs c at operand t = skip (IsExpression cs) (check at BadOperand (not (is_function (referred t)) && not (is_void (referred t)))) _
    (λ y. skip (IsExpression cs) (check at Incomplete (is_bounded (referred t))) _
    (λ x. skip (IsExpression cs) (measurable c at (referred t)) _ (λ z. record { head = refl; chosen = refl; written = refl })))

pub throw : (cs : List Class) (c : Ctx) (w : Work) (at : At) (os : List Operand) → On (made cs) (casts.throw c w at os)
throw cs c w at [] = record { head = refl; chosen = refl; written = refl }
throw cs c w at (o ∷ os) = skip (made cs) (casts.throw_in c w at (form_in (typ_in o.tree)) o) _ (λ m. record { head = refl; chosen = refl; written = refl })
