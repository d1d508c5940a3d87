-- What stands for `auto` gives the type of a variable (C++14 7.1.6.4).
use Rattle.std.proofs.Common.{◌≡◌, refl, ap, ◌∙◌, Bool, true, false, not, ◌&&◌, ◌||◌, List, [], ◌∷◌, Option, Some, None}
use Rattle.std.proofs.lemmas.Bool.{and_parts}
use Rattle.elab_rules.specs.cpp_types.Typ.{Typ, typ, Form, void, int, enum, null, ptr, ref, array, func, class, closure, tx_ex}
use Rattle.elab_rules.specs.cpp_types.Class.{Class}
use Rattle.elab_rules.specs.cpp_types.Conversion.{decayed}
use Rattle.elab_rules.specs.cpp_types.declared.classes.At.{At}
use Rattle.elab_rules.specs.cpp_types.declared.ranks.Cat.{Cat}
use Rattle.elab_rules.specs.cpp_types.declared.ranks.Cat.TheVariants.{Lvalue, Prvalue}
use Rattle.elab_rules.specs.cpp_tree.declared.faults.IllRule.{IllRule}
use Rattle.elab_rules.specs.cpp_tree.declared.faults.IllRule.TheVariants.{OutOfProfile, BadInit, NoConversion}
use Rattle.elab_rules.specs.cpp_tree.Trees.{typ_in, cat_of}
use Rattle.elab_rules.specs.cpp_tree.Notation.{plain}
use Rattle.elab_rules.specs.cpp_tree.Typing.{form_in, is_void, unqualified}
use Rattle.elab_rules.specs.elab_ctx.Steps.{expect, check, Operand}
use Rattle.elab_rules.specs.Operators.{value}
use Rattle.elab_rules.specs.Types.{is_function_form}
use Rattle.elab_rules.specs.Statements.{less_qualified, deduced_from, replaced, auto_of, deduced_type, is_null_type}
use Rattle.elab_fits.specs.Standing.{On}
use Rattle.elab_fits.proofs.Steps.{skip, checked}
use Rattle.elab_fits.proofs.Initials.{value_form_is}
use Rattle.elab_sound_types.specs.Types.{Use, object, target, variable, value as a_value, declared, may_refer, may_be_array, may_be_function, is_sound, is_sound_form}
use Rattle.elab_sound_types.specs.Types.{is_sound_signature, is_head, IsExpression}
use Rattle.elab_sound_types.proofs.Sound.{both, sound_as, all_declared, target_variable, unqualified_sound, written_sound}
use Rattle.elab_sound_types.proofs.Objects.{not_true}
use Rattle.elab_sound_types.proofs.Names.{IfThere}
use Rattle.elab_sound_types.proofs.Operators.{value_sound}

-- Fewer qualifiers

own_less : (d w x y : Bool) → not (d || w) ≡ true → not ((d && x) || (w && y)) ≡ true
own_less true w x y h = absurd cc
own_less false true x y h = absurd cc
own_less false false x y h = refl

form_less : (cs : List Class) (a : Use) (f : Form) (d w x y : Bool) → is_sound_form cs a (d || w) f ≡ true → is_sound_form cs a ((d && x) || (w && y)) f ≡ true
form_less cs a void d w x y h = h
form_less cs a (int k) d w x y h = refl
form_less cs a (enum e s) d w x y h = refl
form_less cs a null d w x y h = refl
form_less cs a (ptr t) d w x y h = h
form_less cs a (ref t) d w x y h = let p = and_parts (may_refer a) (not (d || w) && is_sound cs target t) h in
    let q = and_parts (not (d || w)) (is_sound cs target t) p.1 in both p.0 (both (own_less d w x y q.0) q.1)
form_less cs a (array t k) d w x y h = let p = and_parts (may_be_array a k) (not (d || w) && is_sound cs object t) h in
    let q = and_parts (not (d || w)) (is_sound cs object t) p.1 in both p.0 (both (own_less d w x y q.0) q.1)
form_less cs a (func s) d w x y h = let p = and_parts (may_be_function a) (not (d || w) && is_sound_signature cs s) h in
    let q = and_parts (not (d || w)) (is_sound_signature cs s) p.1 in both p.0 (both (own_less d w x y q.0) q.1)
form_less cs a (class k) d w x y h = h
form_less cs a (closure k) d w x y h = h
form_less cs a (tx_ex (typ f p q)) d w x y h = h

less_sound : (cs : List Class) (a : Use) (t u : Typ) → is_sound cs a u ≡ true → is_sound cs a (less_qualified t u) ≡ true
less_sound cs a (typ g c v) (typ f d w) h = form_less cs a f d w (not c) (not v) h

-- The initialiser

value_target : (cs : List Class) (t : Typ) → is_void t ≡ false → is_sound cs a_value t ≡ true → is_sound cs target t ≡ true
value_target cs (typ void c v) i h = absurd cc
value_target cs (typ (int k) c v) i h = refl
value_target cs (typ (enum e s) c v) i h = refl
value_target cs (typ null c v) i h = refl
value_target cs (typ (ptr t) c v) i h = h
value_target cs (typ (ref t) c v) i h = absurd cc
value_target cs (typ (array t k) c v) i h = absurd cc
value_target cs (typ (func s) c v) i h = absurd cc
value_target cs (typ (class k) c v) i h = h
value_target cs (typ (closure k) c v) i h = h
value_target cs (typ (tx_ex (typ f d w)) c v) i h = h

pub value_of_head : (cs : List Class) (t : Typ) → is_head cs t Prvalue ≡ true → is_sound cs a_value t ≡ true
value_of_head cs (typ f c v) h = (and_parts (is_sound cs a_value (typ f c v)) _ h).0

-- what is no `void` is what a reference can refer to
head_target : (cs : List Class) (t : Typ) (cat : Cat) → is_void t ≡ false → is_head cs t cat ≡ true → is_sound cs target t ≡ true
head_target cs t Lvalue i h = h
head_target cs t Prvalue i h = value_target cs t i (value_of_head cs t h)

decayed_no_function : (t : Typ) → is_function_form (decayed t) ≡ false
decayed_no_function (typ void c v) = refl
decayed_no_function (typ (int k) c v) = refl
decayed_no_function (typ (enum e s) c v) = refl
decayed_no_function (typ null c v) = refl
decayed_no_function (typ (ptr t) c v) = refl
decayed_no_function (typ (ref t) c v) = refl
decayed_no_function (typ (array (typ f d w) k) c v) = refl
decayed_no_function (typ (func s) c v) = refl
decayed_no_function (typ (class k) c v) = refl
decayed_no_function (typ (closure k) c v) = refl
decayed_no_function (typ (tx_ex t) c v) = refl

decayed_no_void : (t : Typ) → is_void t ≡ false → is_void (plain (decayed t)) ≡ false
decayed_no_void (typ void c v) h = absurd cc
decayed_no_void (typ (int k) c v) h = refl
decayed_no_void (typ (enum e s) c v) h = refl
decayed_no_void (typ null c v) h = refl
decayed_no_void (typ (ptr t) c v) h = refl
decayed_no_void (typ (ref t) c v) h = refl
decayed_no_void (typ (array (typ f d w) k) c v) h = refl
decayed_no_void (typ (func s) c v) h = refl
decayed_no_void (typ (class k) c v) h = refl
decayed_no_void (typ (closure k) c v) h = refl
decayed_no_void (typ (tx_ex t) c v) h = refl

void_by_form : (t : Typ) → is_void t ≡ is_void (plain (form_in t))
void_by_form (typ void c v) = refl
void_by_form (typ (int k) c v) = refl
void_by_form (typ (enum e s) c v) = refl
void_by_form (typ null c v) = refl
void_by_form (typ (ptr t) c v) = refl
void_by_form (typ (ref t) c v) = refl
void_by_form (typ (array t k) c v) = refl
void_by_form (typ (func s) c v) = refl
void_by_form (typ (class k) c v) = refl
void_by_form (typ (closure k) c v) = refl
void_by_form (typ (tx_ex t) c v) = refl

-- what has a value that is no `void` can be referred to
value_type : (cs : List Class) (o : Operand) → is_void (typ_in o.tree) ≡ false → IsExpression cs o.tree → is_sound cs target (unqualified (typ_in (value o))) ≡ true
value_type cs o i h = unqualified_sound cs target (typ_in (value o)) (head_target cs (typ_in (value o)) (cat_of (value o))
    (void_by_form (typ_in (value o)) ∙ ap (λ (f : Form). is_void (plain f)) (value_form_is o.at o.tree) ∙ decayed_no_void (typ_in o.tree) i)
    (value_sound cs o h).head)

-- and, as it is no function, be an object
value_variable : (cs : List Class) (o : Operand) → is_void (typ_in o.tree) ≡ false → IsExpression cs o.tree
    → is_sound cs variable (unqualified (typ_in (value o))) ≡ true
value_variable cs o i h = target_variable cs (unqualified (typ_in (value o)))
    (same_form (typ_in (value o)) ∙ ap is_function_form (value_form_is o.at o.tree) ∙ decayed_no_function (typ_in o.tree)) (value_type cs o i h)
  where
    same_form : (t : Typ) → is_function_form (form_in (unqualified t)) ≡ is_function_form (form_in t)
    same_form (typ f c v) = refl

-- What stands for `auto`

abbrev IsTarget : List Class → Typ → Type 0
IsTarget cs t = is_sound cs target t ≡ true

deduced_target : (cs : List Class) (t u : Typ) → is_sound cs target u ≡ true → IfThere (IsTarget cs) (deduced_from t u)
deduced_target cs (typ (enum [] x) c v) u h = less_sound cs target (typ (enum [] x) c v) u h
deduced_target cs (typ (ptr t) c v) (typ (ptr u) d w) h = deduced_target cs t u h
deduced_target cs t u h = tt

replaced_target : (cs : List Class) (u t : Typ) → is_sound cs target u ≡ true → is_sound cs target t ≡ true → is_sound cs target (replaced u t) ≡ true
replaced_target cs u (typ (enum [] x) c v) h g = written_sound cs target c v u h
replaced_target cs u (typ (enum (b ∷ bs) x) c v) h g = refl
replaced_target cs u (typ (ptr t) c v) h g = replaced_target cs u t h g
replaced_target cs u (typ (ref t) c v) h g = absurd cc
replaced_target cs u (typ void c v) h g = absurd cc
replaced_target cs u (typ (int k) c v) h g = refl
replaced_target cs u (typ null c v) h g = refl
replaced_target cs u (typ (array t k) c v) h g = g
replaced_target cs u (typ (func s) c v) h g = g
replaced_target cs u (typ (class k) c v) h g = g
replaced_target cs u (typ (closure k) c v) h g = g
replaced_target cs u (typ (tx_ex t) c v) h g = g

mapped : {A : Type 0} (P Q : A → Type 0) (o : Option A) → IfThere P o → ((a : A) → P a → Q a) → IfThere Q o
mapped P Q (Some a) h g = g a h
mapped P Q None h g = tt

-- a variable's type, once `auto` is known
abbrev pub IsReplaced : List Class → Typ → Typ → Type 0
IsReplaced cs t u = is_sound cs variable (replaced u t) ≡ true

auto_sound : (cs : List Class) (t : Typ) (o : Operand) → is_void (typ_in o.tree) ≡ false → IsExpression cs o.tree → is_sound cs declared t ≡ true
    → IfThere (IsReplaced cs t) (auto_of t o)
auto_sound cs (typ (ref t) c v) o i h g = let p = and_parts (not (c || v)) (is_sound cs target t) g in
    mapped (IsTarget cs) (IsReplaced cs (typ (ref t) c v)) (deduced_from t (less_qualified t (typ_in o.tree)))
    (deduced_target cs t (less_qualified t (typ_in o.tree)) (less_sound cs target t (typ_in o.tree) (head_target cs (typ_in o.tree) (cat_of o.tree) i h.head)))
    (λ u j. both p.0 (replaced_target cs u t j p.1))
auto_sound cs (typ (enum [] x) c v) o i h g = written_sound cs variable c v (less_qualified (typ (enum [] x) c v) (unqualified (typ_in (value o))))
    (less_sound cs variable (typ (enum [] x) c v) (unqualified (typ_in (value o))) (value_variable cs o i h))
auto_sound cs (typ (enum (b ∷ bs) x) c v) o i h g = tt
auto_sound cs (typ (ptr t) c v) o i h g = mapped (IsTarget cs) (IsReplaced cs (typ (ptr t) c v)) (deduced_from (typ (ptr t) c v) (unqualified (typ_in (value o))))
    (deduced_target cs (typ (ptr t) c v) (unqualified (typ_in (value o))) (value_type cs o i h))
    (λ u j. replaced_target cs u t j g)
auto_sound cs (typ void c v) o i h g = tt
auto_sound cs (typ (int k) c v) o i h g = tt
auto_sound cs (typ null c v) o i h g = tt
auto_sound cs (typ (array t k) c v) o i h g = tt
auto_sound cs (typ (func s) c v) o i h g = tt
auto_sound cs (typ (class k) c v) o i h g = tt
auto_sound cs (typ (closure k) c v) o i h g = tt
auto_sound cs (typ (tx_ex t) c v) o i h g = tt

there : {A : Type 0} (P : A → Type 0) (at : At) (rule : IllRule) (o : Option A) → IfThere P o → On P (expect at rule o)
there P at rule (Some a) h = h
there P at rule None h = tt

pub deduced_sound : (cs : List Class) (at : At) (t : Typ) (o : Operand) → IsExpression cs o.tree → is_sound cs declared t ≡ true → On (IsReplaced cs t) (deduced_type at t o)
deduced_sound cs at t o h g = skip (IsReplaced cs t) (check at OutOfProfile (not (is_null_type (form_in (typ_in (value o)))))) _
    (λ x. checked (IsReplaced cs t) o.at BadInit (not (is_void (typ_in o.tree))) _
    (λ i. there (IsReplaced cs t) o.at NoConversion (auto_of t o) (auto_sound cs t o (not_true (is_void (typ_in o.tree)) i) h g)))

-- what is returned where the type is that of the first `return`
pub returned_sound : (cs : List Class) (o : Operand) → IsExpression cs o.tree → is_sound cs declared (unqualified (typ_in (value o))) ≡ true
returned_sound cs o h = unqualified_sound cs declared (typ_in (value o)) (head_declared (typ_in (value o)) (cat_of (value o)) (value_sound cs o h).head)
  where
    head_declared : (t : Typ) (cat : Cat) → is_head cs t cat ≡ true → is_sound cs declared t ≡ true
    head_declared t Lvalue h = sound_as cs target declared t (all_declared target) h
    head_declared t Prvalue h = sound_as cs a_value declared t (all_declared a_value) (value_of_head cs t h)
