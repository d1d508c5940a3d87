-- Types that are used in one way serve in another, with fewer qualifiers or with more.
use Rattle.std.proofs.Common.{◌≡◌, refl, ℕ, Bool, true, false, not, ◌&&◌, ◌||◌, List, zero, suc}
use Rattle.std.proofs.lemmas.Bool.{and_parts, and_from}
use Rattle.elab_rules.specs.cpp_types.Typ.{Typ, typ, Form, void, int, enum, null, ptr, ref, array, func, class, closure, tx_ex}
use Rattle.elab_rules.specs.cpp_types.Class.{Class}
use Rattle.elab_rules.specs.cpp_types.Conversion.{is_object_form}
use Rattle.elab_rules.specs.cpp_tree.Notation.{plain}
use Rattle.elab_rules.specs.cpp_tree.Typing.{form_in, qualified, unqualified, is_void}
use Rattle.elab_rules.specs.Types.{with_qualifiers, is_reference_form, is_array_form, is_function_form, is_bounded}
use Rattle.elab_sound_types.specs.Types.{Use, object, target, variable, parameter, result, denoted, declared, may_be_void, may_refer, may_be_array}
use Rattle.elab_sound_types.specs.Types.{may_be_function, may_be_lambda, is_lambda, is_sound, is_sound_form, is_sound_signature}

pub both : {a b : Bool} → a ≡ true → b ≡ true → (a && b) ≡ true
both {a} {b} h g = and_from a b h g

-- One use for another

-- what may stand in one use may stand in the other
pub record Serves (a b : Use) : Type 0 where
  pub voids : may_be_void a ≡ true → may_be_void b ≡ true
  pub references : may_refer a ≡ true → may_refer b ≡ true
  pub arrays : (bound : ℕ) → may_be_array a bound ≡ true → may_be_array b bound ≡ true
  pub functions : may_be_function a ≡ true → may_be_function b ≡ true
  pub lambdas : may_be_lambda a ≡ true → may_be_lambda b ≡ true

form_as : (cs : List Class) (a b : Use) (own : Bool) (f : Form) → Serves a b → is_sound_form cs a own f ≡ true → is_sound_form cs b own f ≡ true
form_as cs a b own void s h = s.voids h
form_as cs a b own (int k) s h = refl
form_as cs a b own (enum e x) s h = refl
form_as cs a b own null s h = refl
form_as cs a b own (ptr t) s h = h
form_as cs a b own (ref t) s h = let p = and_parts (may_refer a) (not own && is_sound cs target t) h in both (s.references p.0) p.1
form_as cs a b own (array t k) s h = let p = and_parts (may_be_array a k) (not own && is_sound cs object t) h in both (s.arrays k p.0) p.1
form_as cs a b own (func g) s h = let p = and_parts (may_be_function a) (not own && is_sound_signature cs g) h in both (s.functions p.0) p.1
form_as cs a b own (class k) s h = h
form_as cs a b own (closure k) s h = let p = and_parts (may_be_lambda a) (is_lambda cs k) h in both (s.lambdas p.0) p.1
form_as cs a b own (tx_ex (typ f c v)) s h = h

pub sound_as : (cs : List Class) (a b : Use) (t : Typ) → Serves a b → is_sound cs a t ≡ true → is_sound cs b t ≡ true
sound_as cs a b (typ f c v) s h = form_as cs a b (c || v) f s h

pub all_declared : (u : Use) → Serves u declared
all_declared u = record { voids = λ h. refl; references = λ h. refl; arrays = λ i h. refl; functions = λ h. refl; lambdas = λ h. refl }

pub object_target : Serves object target
object_target = record { voids = λ h. absurd cc; references = λ h. absurd cc; arrays = λ i h. h; functions = λ h. absurd cc; lambdas = λ h. absurd cc }

pub object_variable : Serves object variable
object_variable = record { voids = λ h. absurd cc; references = λ h. absurd cc; arrays = λ i h. h; functions = λ h. absurd cc; lambdas = λ h. absurd cc }

pub object_denoted : Serves object denoted
object_denoted = record { voids = λ h. absurd cc; references = λ h. absurd cc; arrays = λ i h. refl; functions = λ h. absurd cc; lambdas = λ h. absurd cc }

pub parameter_variable : Serves parameter variable
parameter_variable =
    record { voids = λ h. absurd cc; references = λ h. refl; arrays = λ i h. absurd cc; functions = λ h. absurd cc; lambdas = λ h. refl }

-- what stands nowhere else stands here, once that is ruled out

pub bounded_variable : (cs : List Class) (t : Typ) → is_void t ≡ false → is_function_form (form_in t) ≡ false → is_bounded t ≡ true
    → is_sound cs declared t ≡ true → is_sound cs variable t ≡ true
bounded_variable cs (typ void c v) i j b h = absurd cc
bounded_variable cs (typ (int k) c v) i j b h = refl
bounded_variable cs (typ (enum e x) c v) i j b h = refl
bounded_variable cs (typ null c v) i j b h = refl
bounded_variable cs (typ (ptr t) c v) i j b h = h
bounded_variable cs (typ (ref t) c v) i j b h = h
bounded_variable cs (typ (array t zero) c v) i j b h = absurd cc
bounded_variable cs (typ (array t (suc k)) c v) i j b h = h
bounded_variable cs (typ (func g) c v) i j b h = absurd cc
bounded_variable cs (typ (class k) c v) i j b h = h
bounded_variable cs (typ (closure k) c v) i j b h = h
bounded_variable cs (typ (tx_ex (typ f d w)) c v) i j b h = h

pub declared_target : (cs : List Class) (t : Typ) → is_reference_form (form_in t) ≡ false → is_void t ≡ false → is_bounded t ≡ true
    → is_sound cs declared t ≡ true → is_sound cs target t ≡ true
declared_target cs (typ void c v) r i b h = absurd cc
declared_target cs (typ (int k) c v) r i b h = refl
declared_target cs (typ (enum e x) c v) r i b h = refl
declared_target cs (typ null c v) r i b h = refl
declared_target cs (typ (ptr t) c v) r i b h = h
declared_target cs (typ (ref t) c v) r i b h = absurd cc
declared_target cs (typ (array t zero) c v) r i b h = absurd cc
declared_target cs (typ (array t (suc k)) c v) r i b h = h
declared_target cs (typ (func g) c v) r i b h = h
declared_target cs (typ (class k) c v) r i b h = h
declared_target cs (typ (closure k) c v) r i b h = h
declared_target cs (typ (tx_ex (typ f d w)) c v) r i b h = h

pub denoted_object : (cs : List Class) (t : Typ) → is_reference_form (form_in t) ≡ false → is_void t ≡ false → is_function_form (form_in t) ≡ false
    → is_bounded t ≡ true → is_sound cs denoted t ≡ true → is_sound cs object t ≡ true
denoted_object cs (typ void c v) r i j b h = absurd cc
denoted_object cs (typ (int k) c v) r i j b h = refl
denoted_object cs (typ (enum e x) c v) r i j b h = refl
denoted_object cs (typ null c v) r i j b h = refl
denoted_object cs (typ (ptr t) c v) r i j b h = h
denoted_object cs (typ (ref t) c v) r i j b h = absurd cc
denoted_object cs (typ (array t zero) c v) r i j b h = absurd cc
denoted_object cs (typ (array t (suc k)) c v) r i j b h = h
denoted_object cs (typ (func g) c v) r i j b h = absurd cc
denoted_object cs (typ (class k) c v) r i j b h = h
denoted_object cs (typ (closure k) c v) r i j b h = absurd cc
denoted_object cs (typ (tx_ex (typ f d w)) c v) r i j b h = h

pub target_variable : (cs : List Class) (t : Typ) → is_function_form (form_in t) ≡ false → is_sound cs target t ≡ true → is_sound cs variable t ≡ true
target_variable cs (typ void c v) i h = h
target_variable cs (typ (int k) c v) i h = refl
target_variable cs (typ (enum e x) c v) i h = refl
target_variable cs (typ null c v) i h = refl
target_variable cs (typ (ptr t) c v) i h = h
target_variable cs (typ (ref t) c v) i h = absurd cc
target_variable cs (typ (array t k) c v) i h = h
target_variable cs (typ (func g) c v) i h = absurd cc
target_variable cs (typ (class k) c v) i h = h
target_variable cs (typ (closure k) c v) i h = h
target_variable cs (typ (tx_ex (typ f d w)) c v) i h = h

pub declared_result : (cs : List Class) (t : Typ) → is_array_form (form_in t) ≡ false → is_function_form (form_in t) ≡ false → is_sound cs declared t ≡ true
    → is_sound cs result t ≡ true
declared_result cs (typ void c v) a i h = refl
declared_result cs (typ (int k) c v) a i h = refl
declared_result cs (typ (enum e x) c v) a i h = refl
declared_result cs (typ null c v) a i h = refl
declared_result cs (typ (ptr t) c v) a i h = h
declared_result cs (typ (ref t) c v) a i h = h
declared_result cs (typ (array t k) c v) a i h = absurd cc
declared_result cs (typ (func g) c v) a i h = absurd cc
declared_result cs (typ (class k) c v) a i h = h
declared_result cs (typ (closure k) c v) a i h = h
declared_result cs (typ (tx_ex (typ f d w)) c v) a i h = h

-- an object of a class is an object wherever lambdas' objects may stand
pub class_as : (cs : List Class) (a b : Use) (f : Form) (p q : Bool) → is_object_form f ≡ true → may_be_lambda b ≡ true → is_sound_form cs a p f ≡ true
    → is_sound_form cs b q f ≡ true
class_as cs a b (class k) p q i l h = h
class_as cs a b (closure k) p q i l h = both l (and_parts (may_be_lambda a) (is_lambda cs k) h).1
class_as cs a b (tx_ex (typ f c v)) p q i l h = h
class_as cs a b void p q i l h = absurd cc
class_as cs a b (int k) p q i l h = absurd cc
class_as cs a b (enum e x) p q i l h = absurd cc
class_as cs a b null p q i l h = absurd cc
class_as cs a b (ptr t) p q i l h = absurd cc
class_as cs a b (ref t) p q i l h = absurd cc
class_as cs a b (array t k) p q i l h = absurd cc
class_as cs a b (func g) p q i l h = absurd cc

-- Qualifiers

no_own : (own : Bool) {b : Bool} → (not own && b) ≡ true → b ≡ true
no_own true h = absurd cc
no_own false h = h

form_less : (cs : List Class) (a : Use) (own : Bool) (f : Form) → is_sound_form cs a own f ≡ true → is_sound_form cs a false f ≡ true
form_less cs a own void h = h
form_less cs a own (int k) h = refl
form_less cs a own (enum e x) h = refl
form_less cs a own null h = refl
form_less cs a own (ptr t) h = h
form_less cs a own (ref t) h = let p = and_parts (may_refer a) (not own && is_sound cs target t) h in both p.0 (no_own own p.1)
form_less cs a own (array t k) h = let p = and_parts (may_be_array a k) (not own && is_sound cs object t) h in both p.0 (no_own own p.1)
form_less cs a own (func g) h = let p = and_parts (may_be_function a) (not own && is_sound_signature cs g) h in both p.0 (no_own own p.1)
form_less cs a own (class k) h = h
form_less cs a own (closure k) h = h
form_less cs a own (tx_ex (typ f c v)) h = h

-- without its own qualifiers
pub unqualified_sound : (cs : List Class) (a : Use) (t : Typ) → is_sound cs a t ≡ true → is_sound cs a (unqualified t) ≡ true
unqualified_sound cs a (typ f c v) h = form_less cs a (c || v) f h

pub plain_sound : (cs : List Class) (a : Use) (f : Form) (c v : Bool) → is_sound cs a (typ f c v) ≡ true → is_sound cs a (plain f) ≡ true
plain_sound cs a f c v h = form_less cs a (c || v) f h

pub object_no_function : (cs : List Class) (f : Form) (own : Bool) → is_sound_form cs object own f ≡ true → is_function_form f ≡ false
object_no_function cs void own h = refl
object_no_function cs (int k) own h = refl
object_no_function cs (enum e x) own h = refl
object_no_function cs null own h = refl
object_no_function cs (ptr t) own h = refl
object_no_function cs (ref t) own h = refl
object_no_function cs (array t k) own h = refl
object_no_function cs (func g) own h = absurd cc
object_no_function cs (class k) own h = refl
object_no_function cs (closure k) own h = refl
object_no_function cs (tx_ex t) own h = refl

-- with qualifiers more
mutual
  pub qualified_object : (cs : List Class) (c v : Bool) (t : Typ) → is_sound cs object t ≡ true → is_sound cs object (qualified c v t) ≡ true
  qualified_object cs c v (typ f d w) h = qualified_form cs object c v f d w (object_no_function cs f (d || w) h) h

  pub qualified_form : (cs : List Class) (a : Use) (c v : Bool) (f : Form) (d w : Bool) → is_function_form f ≡ false → is_sound_form cs a (d || w) f ≡ true
      → is_sound cs a (qualified c v (typ f d w)) ≡ true
  qualified_form cs a c v void d w i h = h
  qualified_form cs a c v (int k) d w i h = refl
  qualified_form cs a c v (enum e x) d w i h = refl
  qualified_form cs a c v null d w i h = refl
  qualified_form cs a c v (ptr t) d w i h = h
  qualified_form cs a c v (ref t) d w i h = h
  qualified_form cs a c v (array t k) d w i h = let p = and_parts (may_be_array a k) (not (d || w) && is_sound cs object t) h in
      let q = and_parts (not (d || w)) (is_sound cs object t) p.1 in both p.0 (both q.0 (qualified_object cs c v t q.1))
  qualified_form cs a c v (func g) d w i h = absurd cc
  qualified_form cs a c v (class k) d w i h = h
  qualified_form cs a c v (closure k) d w i h = h
  qualified_form cs a c v (tx_ex (typ f x y)) d w i h = h

-- with those that are written before it
pub written_sound : (cs : List Class) (a : Use) (c v : Bool) (t : Typ) → is_sound cs a t ≡ true → is_sound cs a (with_qualifiers c v t) ≡ true
written_sound cs a c v (typ (func g) d w) h = h
written_sound cs a c v (typ void d w) h = h
written_sound cs a c v (typ (int k) d w) h = refl
written_sound cs a c v (typ (enum e x) d w) h = refl
written_sound cs a c v (typ null d w) h = refl
written_sound cs a c v (typ (ptr t) d w) h = h
written_sound cs a c v (typ (ref t) d w) h = h
written_sound cs a c v (typ (array t k) d w) h = qualified_form cs a c v (array t k) d w refl h
written_sound cs a c v (typ (class k) d w) h = h
written_sound cs a c v (typ (closure k) d w) h = h
written_sound cs a c v (typ (tx_ex (typ f x y)) d w) h = h
