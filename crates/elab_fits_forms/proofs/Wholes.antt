-- Objects of complete classes are whole.
use Rattle.std.proofs.Common.{◌≡◌, refl, ℕ, Bool, true, false, not, List, is_some}
use Rattle.std.proofs.lemmas.Bool.{and_parts}
use Rattle.elab_rules.specs.tx_ints.declared.kinds.IntKind.{IntKind}
use Rattle.elab_rules.specs.tx_ints.declared.kinds.IntKind.TheVariants.{Bool as BoolKind, Char, SChar, UChar, Short, UShort, Int, UInt, Long, ULong, LLong}
use Rattle.elab_rules.specs.tx_ints.declared.kinds.IntKind.TheVariants.{ULLong}
use Rattle.elab_rules.specs.cpp_types.Typ.{Typ, typ, Form, void, int, enum, null, ptr, ref, array, func, class, closure, tx_ex}
use Rattle.elab_rules.specs.cpp_types.Class.{Class, completion_of}
use Rattle.elab_rules.specs.cpp_tree.Typing.{is_class_typ}
use Rattle.elab_rules.specs.cpp_tree.Parts.{size_in}
use Rattle.elab_rules.specs.cpp_tree.Rows.{Setting}
use Rattle.elab_rules.specs.elab_ctx.Ctx.{Ctx, Work}
use Rattle.elab_fits_forms.specs.Types.{is_sound, is_lambda, is_exception_value, IsWhole}
use Rattle.elab_fits_forms.specs.Context.{Holds}

number_sized : (classes : List Class) (k : IntKind) (q v : Bool) → is_some (size_in classes (typ (tx_ex (typ (int k) false false)) q v)) ≡ true
number_sized classes BoolKind q v = refl
number_sized classes Char q v = refl
number_sized classes SChar q v = refl
number_sized classes UChar q v = refl
number_sized classes Short q v = refl
number_sized classes UShort q v = refl
number_sized classes Int q v = refl
number_sized classes UInt q v = refl
number_sized classes Long q v = refl
number_sized classes ULong q v = refl
number_sized classes LLong q v = refl
number_sized classes ULLong q v = refl

exception_value : (s : Setting) (c : Ctx) (w : Work) (f : Form) (q v : Bool) → Holds s c w → is_exception_value c.classes (typ f false false) ≡ true
    → IsWhole c.classes (typ (tx_ex (typ f false false)) q v)
exception_value s c w (int k) q v h i = record { sized = number_sized c.classes k q v; ready = refl }
exception_value s c w (enum n e) q v h i = record { sized = refl; ready = refl }
exception_value s c w (class n) q v h i =
    let p = and_parts (is_some (completion_of c.classes n)) (not (is_lambda c.classes n)) i in
    let x = (h.complete n p.0).whole (class n) q v refl p.1 in
    record { sized = x.sized; ready = x.ready }
exception_value s c w void q v h i = absurd cc
exception_value s c w null q v h i = absurd cc
exception_value s c w (ptr t) q v h i = absurd cc
exception_value s c w (ref t) q v h i = absurd cc
exception_value s c w (array t n) q v h i = absurd cc
exception_value s c w (func t) q v h i = absurd cc
exception_value s c w (closure n) q v h i = absurd cc
exception_value s c w (tx_ex t) q v h i = absurd cc

-- the value in a `std::tx_exception` has no qualifiers
plain_value : (A : Type 0) (classes : List Class) (f : Form) (d y : Bool) → is_exception_value classes (typ f d y) ≡ true → (d ≡ false → y ≡ false → A) → A
plain_value A classes f false false h g = g refl refl
plain_value A classes (int k) true y h g = absurd cc
plain_value A classes (int k) false true h g = absurd cc
plain_value A classes (enum n e) true y h g = absurd cc
plain_value A classes (enum n e) false true h g = absurd cc
plain_value A classes (class n) true y h g = absurd cc
plain_value A classes (class n) false true h g = absurd cc
plain_value A classes f d y h g = absurd cc

pub plain_exception : (A : Typ → Type 0) (classes : List Class) (t : Typ) → is_exception_value classes t ≡ true
    → ((f : Form) → is_exception_value classes (typ f false false) ≡ true → A (typ f false false)) → A t
plain_exception A classes (typ f false false) h g = g f h
plain_exception A classes (typ f true y) h g = plain_value (A (typ f true y)) classes f true y h (λ d e. absurd cc)
plain_exception A classes (typ f false true) h g = plain_value (A (typ f false true)) classes f false true h (λ d e. absurd cc)

pub exception_whole : (s : Setting) (c : Ctx) (w : Work) (t : Typ) (q v : Bool) → Holds s c w → is_exception_value c.classes t ≡ true
    → IsWhole c.classes (typ (tx_ex t) q v)
exception_whole s c w t q v h i = plain_exception (λ (u : Typ). IsWhole c.classes (typ (tx_ex u) q v)) c.classes t i
    (λ f j. exception_value s c w f q v h j)

-- an object of a class that is complete, of a lambda's or of a `std::tx_exception`
pub class_whole : (s : Setting) (c : Ctx) (w : Work) (t : Typ) → Holds s c w → is_sound c.classes t ≡ true → is_class_typ t ≡ true
    → ((n : ℕ) (q v : Bool) → t ≡ typ (class n) q v → is_some (completion_of c.classes n) ≡ true) → IsWhole c.classes t
class_whole s c w (typ (class n) q v) h i k d = (h.complete n (d n q v refl)).whole (class n) q v refl i
class_whole s c w (typ (closure n) q v) h i k d = (h.complete n (h.lambdas n i)).whole (closure n) q v refl i
class_whole s c w (typ (tx_ex t) q v) h i k d = exception_whole s c w t q v h i
class_whole s c w (typ f q v) h i k d = absurd cc
