-- Objects of exactly one type.
use Rattle.std.proofs.Common.{◌≡◌, refl, sym, ap, ◌∙◌, subst, ℕ, Bool, true, false, not, ◌&&◌, ◌||◌, [], ◌∷◌, Option, Some, None, Result, Ok, Err}
use Rattle.std.proofs.lemmas.Bool.{and_parts}
use Rattle.std.specs.Prelude.{if◌then◌else◌}
use Rattle.elab_rules.specs.cpp_overload.Choosing.{chosen}
use Rattle.elab_rules.specs.cpp_types.Typ.{Typ, typ, Form, void, int, enum, null, ptr, ref, array, func, class, closure, tx_ex}
use Rattle.elab_rules.specs.cpp_types.Equal.{typ_eq, form_eq}
use Rattle.elab_rules.specs.cpp_types.declared.classes.At.{At}
use Rattle.elab_rules.specs.cpp_types.declared.ranks.Cat.TheVariants.{Lvalue, Prvalue}
use Rattle.elab_rules.specs.cpp_tree.declared.faults.ElabFault.{ElabFault}
use Rattle.elab_rules.specs.cpp_tree.declared.faults.IllRule.TheVariants.{NoConversion, NoCopy}
use Rattle.elab_rules.specs.cpp_tree.declared.kinds.TKind.TheVariants.{Retype}
use Rattle.elab_rules.specs.cpp_tree.declared.roles.Role.TheVariants.{Initialiser}
use Rattle.elab_rules.specs.cpp_tree.Trees.{Tree, node, Trees, kind_of, typ_in, cat_of}
use Rattle.elab_rules.specs.cpp_tree.Typing.{form_in, is_volatile_typ, is_class_prvalue, goes_both_ways}
use Rattle.elab_rules.specs.cpp_tree.Rows.{Setting}
use Rattle.elab_rules.specs.elab_ctx.Ctx.{Ctx, Work}
use Rattle.elab_rules.specs.elab_ctx.Steps.{check, Operand, Made}
use Rattle.elab_rules.specs.Values.{builder, temporary, is_exception_form}
use Rattle.elab_rules.specs.Objects.{destroys, traits_at}
use Rattle.elab_rules.specs.Initialising.{object_of, with_tree, building, makeable, is_prvalue_of_class, same_number, class_number, is_same_or_base, meant}
use Rattle.elab_rules.specs.Initialising.{makers, argument, has_copy, reference_word, parameters_at, constructed_copy, constructor_at, copied_object, class_from}
use Rattle.elab_rules.specs.Initialising.{is_closure_itself, exception_built, exception_copied, is_given_value, is_written_exception, has_own_type}
use Rattle.elab_rules.specs.Initialising.{is_other_prvalue, object_operand}
use Rattle.elab_fits.specs.Standing.{FitsAs, Stands, IsSetting, Reaches, On}
use Rattle.elab_fits.proofs.Equal.{typ_same, form_same}
use Rattle.elab_fits.proofs.Nodes.{clash}
use Rattle.elab_fits.proofs.Steps.{skip, checked, either}
use Rattle.elab_fits_objects.specs.Contexts.{is_sorted, copies_itself, IsObjectTyp, HasMakers, IsSource}
use Rattle.elab_fits_objects.specs.Making.{IsPlaced, MakesExactly, ExactsBuild}
use Rattle.elab_fits_objects.proofs.Classes.{Built, class_builds}
use Rattle.elab_fits_objects.proofs.Copying.{named_form}
use Rattle.elab_fits_objects.proofs.Forms.{own_fits, building_typed}
use Rattle.elab_fits_objects.proofs.Keeping as keeping
use Rattle.elab_fits_objects.proofs.Placing.{object_placed, object_typ}

-- What has no type of its own

or_parts : (a b : Bool) → (a || b) ≡ false → (a ≡ false) × (b ≡ false)
or_parts true b h = absurd cc
or_parts false b h = (refl, h)

own_if : (b m n : Bool) → (not b && (m || n)) ≡ false → b ≡ false → m ≡ false
own_if true m n h e = absurd cc
own_if false true n h e = absurd cc
own_if false false n h e = refl

exception_if : (b m n : Bool) → (not b && (m || n)) ≡ false → n ≡ true → b ≡ true
exception_if true m n h e = refl
exception_if false true n h e = absurd cc
exception_if false false true h e = absurd cc
exception_if false false false h e = absurd cc

no_other : (a b : Bool) → (a && b) ≡ false → a ≡ true → b ≡ false
no_other true b h e = h
no_other false b h e = absurd cc

builder_unwritten : (e : Tree) → is_written_exception e ≡ false → builder e ≡ e
builder_unwritten (node Retype (typ (tx_ex t) d v) Prvalue at kids) h = absurd cc
builder_unwritten (node kind (typ f d v) cat at kids) h = refl

abbrev Typed : Typ → Made → Type 0
Typed t m = typ_in m.tree ≡ t

module _ (s : Setting) (c : Ctx) (lambda : ℕ → Bool) (w : Work) (at : At) (o : Operand) (h : IsSource s c lambda o) where
  copy_typed : (n : ℕ) (t : Typ) (x : Option ℕ) → On (Typed t) (constructed_copy c w n t at o x)
  copy_typed n t None = refl
  copy_typed n t (Some k) = skip (Typed t) (reference_word c w (parameters_at c.funcs k) o) _ (λ m. refl)

  object_typed : (n : ℕ) (t : Typ) → On (Typed t) (copied_object c w n t at o)
  object_typed n t = skip (Typed t) (check o.at NoCopy (not (is_volatile_typ (typ_in o.tree)) && has_copy (traits_at c n).copy)) _
      (λ y. skip (Typed t) (meant at (chosen c.classes (makers c n) (argument o ∷ []))) _ (λ j. copy_typed n t (constructor_at c n j)))

  own_typed : (n : ℕ) (q v : Bool) (e : Tree) → not (lambda n) ≡ true → Stands s e → is_sorted lambda (form_in (typ_in e)) ≡ true
      → is_prvalue_of_class n e ≡ true → is_other_prvalue (typ (class n) q v) e ≡ false
      → typ_in (building c.classes (typ (class n) q v) e) ≡ typ (class n) q v
  own_typed n q v (node kind (typ f d u) Lvalue p kids) k stands sorted e r = absurd cc
  own_typed n q v (node kind (typ f d u) Prvalue p kids) k stands sorted e r =
      let x : Tree = node kind (typ f d u) Prvalue p kids in
      let t : Typ = typ (class n) q v in
      let a = and_parts (is_class_prvalue (typ f d u) Prvalue) (same_number n (class_number (typ f d u))) e in
      let o : f ≡ class n = named_form lambda n (typ f d u) a.1 sorted k in
      let plain : is_exception_form f ≡ false = ap is_exception_form o in
      let g = own_fits s x stands a.0 plain in
      let y = or_parts (is_written_exception x) (not (typ_eq t (typ f d u)) && (goes_both_ways kind || is_exception_form f))
      (no_other (is_class_prvalue (typ f d u) Prvalue) (has_own_type t x) r a.0) in
      let z : typ_eq t (typ (class n) d u) ≡ false → goes_both_ways kind ≡ false =
      λ j. own_if (typ_eq t (typ f d u)) (goes_both_ways kind) (is_exception_form f) y.1 (ap (λ (b : Form). typ_eq t (typ b d u)) o ∙ j) in
      subst (λ (b : Form). typ_in (building c.classes (typ (class n) q v) (node kind (typ b d u) Prvalue p kids)) ≡ typ (class n) q v) (sym o)
      (building_typed c.classes (class n) q v d u refl s kind p kids z
      (subst (λ (b : Form). FitsAs s Initialiser (node kind (typ b d u) Prvalue p kids)) o g))

  class_typed : (n : ℕ) (q v : Bool) → not (lambda n) ≡ true → is_other_prvalue (typ (class n) q v) o.tree ≡ false
      → On (Typed (typ (class n) q v)) (class_from c w (typ (class n) q v) at o)
  class_typed n q v k r = skip (Typed (typ (class n) q v)) (makeable c at n) _
      (λ j. either (Typed (typ (class n) q v)) (is_prvalue_of_class n o.tree) _ _ (λ y. own_typed n q v o.tree k h.operand.stands h.sorted y r)
      (λ y. skip (Typed (typ (class n) q v)) (check o.at NoConversion (is_same_or_base c.classes (class_number (typ_in o.tree)) (Some n))) _
      (λ z. object_typed n (typ (class n) q v))))

  closure_typed : (n : ℕ) (q v : Bool) → On (Typed (typ (closure n) q v)) (class_from c w (typ (closure n) q v) at o)
  closure_typed n q v = either (Typed (typ (closure n) q v)) (is_closure_itself n q v o.tree) _ _
      (λ e. sym (typ_same (typ (closure n) q v) (typ_in o.tree) (and_parts (is_prvalue_of_class n o.tree) (typ_eq (typ (closure n) q v) (typ_in o.tree)) e).1))
      (λ e. skip (Typed (typ (closure n) q v)) (check o.at NoConversion (same_number n (class_number (typ_in o.tree)))) _
      (λ y. skip (Typed (typ (closure n) q v)) (check o.at NoCopy (not (is_volatile_typ (typ_in o.tree)))) _ (λ z. refl)))

  built_typed : (t : Typ) (e : Tree) (b : Bool) (x : Tree) → typ_eq t (typ_in e) ≡ b → typ_eq t (typ_in e) ≡ true → typ_in (if b then e else x) ≡ t
  built_typed t e true x g k = sym (typ_same t (typ_in e) g)
  built_typed t e false x g k = clash _ (typ_eq t (typ_in e)) g k

  made_typed : (t u : Typ) (b : Bool) → typ_eq t (typ_in (builder o.tree)) ≡ true
      → typ_in (if b then with_tree (exception_copied c t at) (object_of c w o.at o.tree) else
      record { tree = exception_built c.classes t (builder o.tree); work = w }).tree ≡ t
  made_typed t u true e = refl
  made_typed t u false e = built_typed t (builder o.tree) (typ_eq t (typ_in (builder o.tree))) _ refl e

  exception_typed : (u : Typ) (q v : Bool) → is_other_prvalue (typ (tx_ex u) q v) o.tree ≡ false
      → On (Typed (typ (tx_ex u) q v)) (class_from c w (typ (tx_ex u) q v) at o)
  exception_typed u q v r = checked (Typed (typ (tx_ex u) q v)) o.at NoConversion (form_eq (form_in (typ_in o.tree)) (tx_ex u)) _
      (λ y. either (Typed (typ (tx_ex u) q v)) (is_class_prvalue (typ_in o.tree) (cat_of o.tree)) _ _
      (λ p. made_typed (typ (tx_ex u) q v) u (is_given_value (builder o.tree)) (same y p))
      (λ p. skip (Typed (typ (tx_ex u) q v)) (check o.at NoCopy (not (is_volatile_typ (typ_in o.tree)))) _ (λ z. refl)))
    where
      same : form_eq (form_in (typ_in o.tree)) (tx_ex u) ≡ true → is_class_prvalue (typ_in o.tree) (cat_of o.tree) ≡ true
          → typ_eq (typ (tx_ex u) q v) (typ_in (builder o.tree)) ≡ true
      same y p =
          let t : Typ = typ (tx_ex u) q v in
          let e = or_parts (is_written_exception o.tree)
          (not (typ_eq t (typ_in o.tree)) && (goes_both_ways (kind_of o.tree) || is_exception_form (form_in (typ_in o.tree))))
          (no_other (is_class_prvalue (typ_in o.tree) (cat_of o.tree)) (has_own_type t o.tree) r p) in
          ap (λ (x : Tree). typ_eq t (typ_in x)) (builder_unwritten o.tree e.0)
          ∙ exception_if (typ_eq t (typ_in o.tree)) (goes_both_ways (kind_of o.tree)) (is_exception_form (form_in (typ_in o.tree))) e.1
          (ap is_exception_form (form_same (form_in (typ_in o.tree)) (tx_ex u) y))

  typed : (t : Typ) → IsObjectTyp c lambda t → is_other_prvalue t o.tree ≡ false → On (Typed t) (class_from c w t at o)
  typed (typ (closure n) q v) t r = closure_typed n q v
  typed (typ (class n) q v) t r = class_typed n q v t.sorted r
  typed (typ (tx_ex u) q v) t r = exception_typed u q v r
  typed (typ void q v) t r = tt
  typed (typ (int k) q v) t r = tt
  typed (typ (enum n e) q v) t r = tt
  typed (typ null q v) t r = tt
  typed (typ (ptr u) q v) t r = tt
  typed (typ (ref u) q v) t r = tt
  typed (typ (array u n) q v) t r = tt
  typed (typ (func g) q v) t r = tt

abbrev pub Exact : Setting → Typ → Made → Type 0
Exact s t m = Reaches s m.work → MakesExactly s t m.tree

both_hold : (s : Setting) (t : Typ) (r : Result Made ElabFault) → On (Built s t) r → On (Typed t) r → On (Exact s t) r
both_hold s t (Ok m) h g = λ reached. record { makes = h reached; typed = g }
both_hold s t (Err e) h g = tt

own_exact : (s : Setting) (c : Ctx) (lambda : ℕ → Bool) (w : Work) (t : Typ) (at : At) (o : Operand) → IsSetting s c → HasMakers c lambda
    → IsSource s c lambda o → IsObjectTyp c lambda t → is_other_prvalue t o.tree ≡ false → On (Exact s t) (class_from c w t at o)
own_exact s c lambda w t at o i m h z r =
    both_hold s t (class_from c w t at o) (class_builds s c lambda w t at o i m h z) (typed s c lambda w at o h t z r)

-- where what was made before has its place
when_kept : (s : Setting) (x : Work) (t : Typ) (r : Result Made ElabFault) → On (keeping.made s x) r → (Reaches s x → On (Exact s t) r) → On (Exact s t) r
when_kept s x t (Ok m) k g = λ reached. g (k reached) reached
when_kept s x t (Err e) k g = tt

copies_by : (w : Work) (at : At) (e init : Tree) (ds : Trees) (b : Bool) → b ≡ true
    → copies_itself (builder (if b then temporary w (typ_in e) at init ds else record { tree = e; work = w }).tree) ≡ true
copies_by w at e init ds true h = temporary_copies (typ_in e)
  where
    temporary_copies : (t : Typ) → copies_itself (builder (temporary w t at init ds).tree) ≡ true
    temporary_copies (typ f c v) = refl
copies_by w at e init ds false h = absurd cc

-- the object of an operand as one that is copied
pub object_source : (s : Setting) (c : Ctx) (lambda : ℕ → Bool) (w : Work) (o : Operand) → IsSetting s c → HasMakers c lambda → IsSource s c lambda o
    → is_class_prvalue (typ_in o.tree) (cat_of o.tree) ≡ true → Reaches s (object_of c w o.at o.tree).work
    → IsSource s c lambda (object_operand o (object_of c w o.at o.tree).tree)
object_source s c lambda w o i m h p reached =
    let x : Tree = (object_of c w o.at o.tree).tree in
    let y : IsPlaced s x = object_placed s c lambda w o i m h reached in
    record {
      operand = record { stands = y.stands; zero = λ z. absurd cc };
      sorted = ap (λ (t : Typ). is_sorted lambda (form_in t)) (object_typ c w o.at o.tree) ∙ h.sorted;
      whole = λ z. clash _ (is_class_prvalue (typ_in x) (cat_of x)) y.value z;
      copied = copies_by w o.at o.tree (builder o.tree) (destroys c o.at (typ_in o.tree)) (is_class_prvalue (typ_in o.tree) (cat_of o.tree)) p;
    }

pub exact_builds : ExactsBuild
exact_builds s c lambda w t at o i m h z = either (Exact s t) (is_other_prvalue t o.tree) _ _
    (λ e. let p = (and_parts (is_class_prvalue (typ_in o.tree) (cat_of o.tree)) (has_own_type t o.tree) e).0 in
    when_kept s x.work t (class_from c x.work t at y) (keeping.class_from s c x.work t at y)
    (λ reached. own_exact s c lambda x.work t at y i m (object_source s c lambda w o i m h p reached) z
    (ap (λ (b : Bool). b && has_own_type t x.tree) (object_placed s c lambda w o i m h reached).value)))
    (λ e. own_exact s c lambda w t at o i m h z e)
  where
    x : Made
    x = object_of c w o.at o.tree

    y : Operand
    y = object_operand o x.tree
