-- What functions hand back.
use Rattle.std.proofs.Common.{◌≡◌, ℕ, zero, suc, Bool, true, false, ◌&&◌, cond, List, [], ◌∷◌, Some, refl, sym, ap, ◌∙◌}
use Rattle.std.proofs.lemmas.Bool.{and_parts, true≢false}
use Rattle.std.specs.Prelude.{map, slice_get}
use Rattle.cpp_tree.specs.cpp_types.Typ.{Typ, typ, Form, void, int, enum, null, ptr, ref, array, func, class, closure, tx_ex, Signature, signature, signature_of}
use Rattle.cpp_tree.specs.cpp_types.Conversion.{is_object_form, is_lvalue}
use Rattle.cpp_tree.specs.cpp_types.Equal.{typ_eq, form_eq, flag_eq}
use Rattle.cpp_tree.specs.cpp_types.declared.ranks.Cat.{Cat}
use Rattle.cpp_tree.specs.cpp_types.declared.ranks.Cat.TheVariants.{Lvalue, Prvalue}
use Rattle.cpp_tree.specs.declared.program.FuncKind.{FuncKind}
use Rattle.cpp_tree.specs.declared.program.FuncKind.TheVariants.{Plain, Constructor, Destructor, ClosureCall}
use Rattle.cpp_tree.specs.declared.program.TFunc.{TFunc}
use Rattle.cpp_tree.specs.Typing.{is_result, is_class_prvalue, is_class_typ, is_prvalue}
use Rattle.cpp_tree.specs.Rows.{is_constructor, is_destructor, result_in}
use Rattle.low_code.specs.Types.{is_void, is_void_form, is_class_form, word_count, gives}
use Rattle.unwind_lower.specs.Settings.{Setting, callee_in, callee_or, gives_of}
use Rattle.lowered_trees.proofs.Facts.{void_alike}

pub found_in : {A B : Type 0} (f : A → B) (xs : List A) (i : ℕ) (y : B) → slice_get (map f xs) i ≡ Some y → (x : A) × (slice_get xs i ≡ Some x) × (f x ≡ y)
found_in f [] i y e = absurd cc
found_in f (x ∷ xs) zero y e = (x, refl, cc)
found_in f (x ∷ xs) (suc i) y e = found_in f xs i y e

-- what a callee gives is what its kind and signature say
pub gives_found : (g : Setting) (n : ℕ) (f : TFunc) → slice_get g.unit.funcs.items n ≡ Some f → gives_of (callee_in g n) ≡ gives f.kind (signature_of f.rec.ty)
unfolding callee_in gives_of
gives_found g n f e = ap (λ o. gives_of (callee_or o)) e

pub constructor_gives : (k : FuncKind) (s : Signature) → is_constructor k ≡ true → gives k s ≡ 0
constructor_gives Constructor s e = refl
constructor_gives k s e = absurd cc

pub destructor_gives : (k : FuncKind) (s : Signature) → is_destructor k ≡ true → gives k s ≡ 0
destructor_gives Destructor s e = refl
destructor_gives k s e = absurd cc

pub result_gives : (k : FuncKind) (s : Signature) → gives k s ≡ word_count (result_in k s)
result_gives Plain (signature ps r s) = refl
result_gives ClosureCall (signature ps r s) = refl
result_gives Constructor (signature ps r s) = refl
result_gives Destructor (signature ps r s) = refl

object_form : (f : Form) → is_class_form f ≡ is_object_form f
object_form (class n) = refl
object_form (closure n) = refl
object_form (tx_ex t) = refl
object_form f = refl

object_alike : (f g : Form) → form_eq f g ≡ true → is_object_form g ≡ is_object_form f
object_alike (class n) (class m) e = refl
object_alike (closure n) (closure m) e = refl
object_alike (tx_ex t) (tx_ex u) e = refl
object_alike void void e = refl
object_alike (int k) (int j) e = refl
object_alike (enum n s) (enum m r) e = refl
object_alike null null e = refl
object_alike (ptr t) (ptr u) e = refl
object_alike (ref t) (ref u) e = refl
object_alike (array t n) (array u m) e = refl
object_alike (func s) (func r) e = refl
object_alike f g e = absurd cc

class_alike : (s t : Typ) → typ_eq s t ≡ true → is_class_typ t ≡ is_class_typ s
class_alike (typ f c v) (typ g d w) e = object_alike f g (and_parts (flag_eq c d && flag_eq v w) (form_eq f g) e).1

-- a word is handed back but where the result is `void`, and no class
count_of : (f : Form) (c v : Bool) → is_object_form f ≡ false → word_count (typ f c v) ≡ cond (is_void_form f) 0 1
count_of (class n) c v e = absurd cc
count_of (closure n) c v e = absurd cc
count_of (tx_ex t) c v e = absurd cc
count_of void c v e = refl
count_of f c v e = refl

class_count : (f : Form) (c v : Bool) → is_object_form f ≡ true → word_count (typ f c v) ≡ 0
class_count (class n) c v e = refl
class_count (closure n) c v e = refl
class_count (tx_ex t) c v e = refl
class_count f c v e = absurd cc

-- a result that is no class: by its form
given_form : (f : Form) (c v : Bool) (t : Typ) (b : Bool) → is_object_form f ≡ b → is_class_typ t ≡ false
    → cond b (typ_eq (typ f c v) t) (typ_eq (typ f false false) t) ≡ true → word_count (typ f c v) ≡ cond (is_void t) 0 1
given_form f c v t true o n e = absurd (true≢false (sym o ∙ sym (class_alike (typ f c v) t e) ∙ n))
given_form f c v t false o n e = count_of f c v o ∙ ap (λ b. cond b 0 1) (sym (void_alike (typ f false false) t e))

built_form : (f : Form) (c v : Bool) (t : Typ) (b : Bool) → is_object_form f ≡ b → is_class_typ t ≡ true
    → cond b (typ_eq (typ f c v) t) (typ_eq (typ f false false) t) ≡ true → word_count (typ f c v) ≡ 0
built_form f c v t true o n e = class_count f c v o
built_form f c v t false o n e = absurd (true≢false (sym n ∙ class_alike (typ f false false) t e ∙ o))

by_form : (f : Form) (c v : Bool) (t : Typ) (cat : Cat) → is_prvalue cat ≡ true → is_class_prvalue t cat ≡ false
    → cond (is_object_form f) (typ_eq (typ f c v) t) (typ_eq (typ f false false) t) ≡ true → word_count (typ f c v) ≡ cond (is_void t) 0 1
by_form f c v t Prvalue p n e = given_form f c v t (is_object_form f) refl n e
by_form f c v t Lvalue p n e = absurd cc

into_form : (f : Form) (c v : Bool) (t : Typ) (cat : Cat) → is_class_prvalue t cat ≡ true
    → cond (is_object_form f) (typ_eq (typ f c v) t) (typ_eq (typ f false false) t) ≡ true → word_count (typ f c v) ≡ 0
into_form f c v t Prvalue n e = built_form f c v t (is_object_form f) refl n e
into_form f c v t Lvalue n e = absurd cc

-- a call that has a value hands it back
pub hands_value : (r t : Typ) (cat : Cat) → is_result r t cat ≡ true → is_class_prvalue t cat ≡ false → (is_lvalue cat ≡ true → is_void t ≡ false)
    → word_count r ≡ cond (is_void t) 0 1
hands_value (typ (ref r) c v) t cat e n l = sym (ap (λ b. cond b 0 1) (l (and_parts (is_lvalue cat) (typ_eq r t) e).0))
hands_value (typ void c v) t cat e n l = let p = and_parts (is_prvalue cat) _ e in by_form void c v t cat p.0 n p.1
hands_value (typ (int k) c v) t cat e n l = let p = and_parts (is_prvalue cat) _ e in by_form (int k) c v t cat p.0 n p.1
hands_value (typ (enum m s) c v) t cat e n l = let p = and_parts (is_prvalue cat) _ e in by_form (enum m s) c v t cat p.0 n p.1
hands_value (typ null c v) t cat e n l = let p = and_parts (is_prvalue cat) _ e in by_form null c v t cat p.0 n p.1
hands_value (typ (ptr u) c v) t cat e n l = let p = and_parts (is_prvalue cat) _ e in by_form (ptr u) c v t cat p.0 n p.1
hands_value (typ (array u m) c v) t cat e n l = let p = and_parts (is_prvalue cat) _ e in by_form (array u m) c v t cat p.0 n p.1
hands_value (typ (func s) c v) t cat e n l = let p = and_parts (is_prvalue cat) _ e in by_form (func s) c v t cat p.0 n p.1
hands_value (typ (class m) c v) t cat e n l = let p = and_parts (is_prvalue cat) _ e in by_form (class m) c v t cat p.0 n p.1
hands_value (typ (closure m) c v) t cat e n l = let p = and_parts (is_prvalue cat) _ e in by_form (closure m) c v t cat p.0 n p.1
hands_value (typ (tx_ex u) c v) t cat e n l = let p = and_parts (is_prvalue cat) _ e in by_form (tx_ex u) c v t cat p.0 n p.1

-- one whose result is built in place hands nothing back
no_lvalue : {A : Type 0} (r t : Typ) (cat : Cat) → (is_lvalue cat && typ_eq r t) ≡ true → is_class_prvalue t cat ≡ true → A
no_lvalue r t Lvalue e n = absurd cc
no_lvalue r t Prvalue e n = absurd cc

pub hands_nothing : (r t : Typ) (cat : Cat) → is_result r t cat ≡ true → is_class_prvalue t cat ≡ true → word_count r ≡ 0
hands_nothing (typ (ref r) c v) t cat e n = no_lvalue r t cat e n
hands_nothing (typ void c v) t cat e n = into_form void c v t cat n (and_parts (is_prvalue cat) _ e).1
hands_nothing (typ (int k) c v) t cat e n = into_form (int k) c v t cat n (and_parts (is_prvalue cat) _ e).1
hands_nothing (typ (enum m s) c v) t cat e n = into_form (enum m s) c v t cat n (and_parts (is_prvalue cat) _ e).1
hands_nothing (typ null c v) t cat e n = into_form null c v t cat n (and_parts (is_prvalue cat) _ e).1
hands_nothing (typ (ptr u) c v) t cat e n = into_form (ptr u) c v t cat n (and_parts (is_prvalue cat) _ e).1
hands_nothing (typ (array u m) c v) t cat e n = into_form (array u m) c v t cat n (and_parts (is_prvalue cat) _ e).1
hands_nothing (typ (func s) c v) t cat e n = into_form (func s) c v t cat n (and_parts (is_prvalue cat) _ e).1
hands_nothing (typ (class m) c v) t cat e n = into_form (class m) c v t cat n (and_parts (is_prvalue cat) _ e).1
hands_nothing (typ (closure m) c v) t cat e n = into_form (closure m) c v t cat n (and_parts (is_prvalue cat) _ e).1
hands_nothing (typ (tx_ex u) c v) t cat e n = into_form (tx_ex u) c v t cat n (and_parts (is_prvalue cat) _ e).1
