-- Types whose objects can be made.
use Rattle.std.proofs.Common.{◌≡◌, refl, sym, ap, ◌∙◌, ℕ, zero, suc, Bool, true, false, not, ◌&&◌, ◌||◌, nat_lt, List, [], ◌∷◌, length, Some, is_some}
use Rattle.std.proofs.lemmas.Bool.{and_parts, and_from}
use Rattle.std.specs.List.{list_all}
use Rattle.elab_rules.specs.cpp_types.Typ.{Typ, typ, Form, void, int, enum, null, ptr, ref, array, func, class, closure, tx_ex}
use Rattle.elab_rules.specs.cpp_types.Class.{Class, completion_of}
use Rattle.elab_rules.specs.cpp_types.Conversion.{is_object_form}
use Rattle.elab_rules.specs.cpp_types.declared.classes.At.{At}
use Rattle.elab_rules.specs.cpp_types.declared.ranks.Cat.{Cat}
use Rattle.elab_rules.specs.cpp_types.declared.ranks.Cat.TheVariants.{Lvalue, Prvalue}
use Rattle.elab_rules.specs.cpp_tree.declared.faults.IllRule.TheVariants.{Incomplete, AbstractObject}
use Rattle.elab_rules.specs.cpp_tree.Typing.{form_in, is_class_typ, is_class_prvalue}
use Rattle.elab_rules.specs.cpp_tree.Parts.{size_in}
use Rattle.elab_rules.specs.elab_ctx.Ctx.{Ctx}
use Rattle.elab_rules.specs.Objects.{Part, parts_of, traits_at}
use Rattle.elab_rules.specs.Initialising.{makeable}
use Rattle.elab_fits.specs.Standing.{IsExpressionType, On}
use Rattle.elab_fits.specs.Objects.{is_single, typ_ready, form_ready, part_ready, class_ready, is_ready, is_closure}
use Rattle.elab_fits.proofs.Steps.{checked, expected}
use Rattle.elab_fits_objects.specs.Contexts.{is_whole, IsObjectTyp}

-- Where no references are, there may be some

module _ (p q : ℕ → Bool) (g : (n : ℕ) → p n ≡ true → q n ≡ true) where
  form_more : (own : Bool) (f : Form) → form_ready p false own f ≡ true → form_ready q true own f ≡ true
  form_more own void h = absurd cc
  form_more own (int k) h = refl
  form_more own (enum n s) h = refl
  form_more own null h = refl
  form_more own (ptr t) h = refl
  form_more own (ref t) h = absurd cc
  form_more own (array (typ f c v) n) h =
      let a = and_parts (not own) (nat_lt 0 n && form_ready p false (c || v) f) h in
      let b = and_parts (nat_lt 0 n) (form_ready p false (c || v) f) a.1 in
      and_from (not own) (nat_lt 0 n && form_ready q true (c || v) f) a.0 (and_from (nat_lt 0 n) (form_ready q true (c || v) f) b.0 (form_more (c || v) f b.1))
  form_more own (func s) h = absurd cc
  form_more own (class n) h = g n h
  form_more own (closure n) h = g n h
  form_more own (tx_ex (typ f c v)) h = let a = and_parts (is_single f) (form_ready p false false f) h in
      and_from (is_single f) (form_ready q true false f) a.0 (form_more false f a.1)

  typ_more : (t : Typ) → typ_ready p false t ≡ true → typ_ready q true t ≡ true
  typ_more (typ f c v) h = form_more (c || v) f h

  parts_more : (ps : List Part) → list_all (part_ready p false) ps ≡ true → list_all (part_ready q true) ps ≡ true
  parts_more [] h = refl
  parts_more (x ∷ ps) h = let a = and_parts (part_ready p false x) (list_all (part_ready p false) ps) h in
      and_from (part_ready q true x) (list_all (part_ready q true) ps) (typ_more x.typ a.0) (parts_more ps a.1)

class_more : (classes : List Class) (depth n : ℕ) → class_ready depth classes false n ≡ true → class_ready depth classes true n ≡ true
class_more classes zero n h = refl
class_more classes (suc depth) n h = parts_more (class_ready depth classes false) (class_ready depth classes true) (class_more classes depth) (parts_of classes n) h

pub ready_more : (classes : List Class) (r : Bool) (t : Typ) → is_ready classes r t ≡ true → is_ready classes true t ≡ true
ready_more classes true t h = h
ready_more classes false t h =
    typ_more (class_ready (length classes) classes false) (class_ready (length classes) classes true) (class_more classes (length classes)) t h

-- What a whole type is

pub whole_sized : (classes : List Class) (t : Typ) → is_whole classes t ≡ true → is_some (size_in classes t) ≡ true
whole_sized classes t h = (and_parts (is_some (size_in classes t)) (is_ready classes (is_closure (form_in t)) t) h).0

pub whole_own : (classes : List Class) (t : Typ) → is_whole classes t ≡ true → is_ready classes (is_closure (form_in t)) t ≡ true
whole_own classes t h = (and_parts (is_some (size_in classes t)) (is_ready classes (is_closure (form_in t)) t) h).1

pub whole_ready : (classes : List Class) (t : Typ) → is_whole classes t ≡ true → is_ready classes true t ≡ true
whole_ready classes t h = ready_more classes (is_closure (form_in t)) t (whole_own classes t h)

pub whole_plain : (classes : List Class) (t : Typ) → is_whole classes t ≡ true → is_closure (form_in t) ≡ false → is_ready classes false t ≡ true
whole_plain classes t h e = ap (λ (b : Bool). is_ready classes b t) (sym e) ∙ whole_own classes t h

-- Types of classes

pub class_typed : (t : Typ) → is_class_typ t ≡ true → IsExpressionType t Lvalue
class_typed (typ (class n) c v) h = tt
class_typed (typ (closure n) c v) h = tt
class_typed (typ (tx_ex t) c v) h = tt
class_typed (typ f c v) h = absurd cc

pub prvalue_class : (t : Typ) (cat : Cat) → is_class_prvalue t cat ≡ true → is_class_typ t ≡ true
prvalue_class t Lvalue h = absurd cc
prvalue_class t Prvalue h = h

pub prvalue_cat : (t : Typ) (cat : Cat) → is_class_prvalue t cat ≡ true → cat ≡ Prvalue
prvalue_cat t Lvalue h = absurd cc
prvalue_cat t Prvalue h = refl

pub other_lvalue : (t : Typ) (cat : Cat) → is_class_typ t ≡ true → is_class_prvalue t cat ≡ false → cat ≡ Lvalue
other_lvalue t Lvalue h n = refl
other_lvalue t Prvalue h n = absurd cc

-- the qualifiers of an object of a class make no difference
pub requalified : (c : Ctx) (lambda : ℕ → Bool) (f : Form) (q v a b : Bool) → is_object_form f ≡ true → IsObjectTyp c lambda (typ f q v)
    → IsObjectTyp c lambda (typ f a b)
requalified c lambda (class n) q v a b i h = record { sorted = h.sorted; whole = h.whole; complete = h.complete }
requalified c lambda (closure n) q v a b i h = record { sorted = h.sorted; whole = h.whole; complete = h.complete }
requalified c lambda (tx_ex (typ f d w)) q v a b i h = record { sorted = h.sorted; whole = h.whole; complete = h.complete }
requalified c lambda f q v a b i h = absurd cc

-- where objects of a class can be made, it is complete
pub makeable_complete : (c : Ctx) (at : At) (n : ℕ) → On (λ (k : ℕ). completion_of c.classes n ≡ Some k) (makeable c at n)
makeable_complete c at n = expected (λ (k : ℕ). completion_of c.classes n ≡ Some k) at Incomplete (completion_of c.classes n) _
    (λ k e. checked (λ (k : ℕ). completion_of c.classes n ≡ Some k) at AbstractObject (not (traits_at c n).is_abstract) _ (λ y. e))
