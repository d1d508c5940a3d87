-- Objects of named classes that are copied.
use Rattle.std.proofs.Common.{◌≡◌, refl, sym, ap, ◌∙◌, ℕ, Bool, true, false, not, ◌&&◌, List, [], ◌∷◌, Option, Some, None, eqb-true}
use Rattle.std.proofs.Common.{eq-eqb}
use Rattle.std.specs.Prelude.{if◌then◌else◌}
use Rattle.elab_rules.specs.cpp_overload.Choosing.{chosen}
use Rattle.elab_rules.specs.cpp_types.Typ.{Typ, typ, void, int, enum, null, ptr, ref, array, func, class, closure, tx_ex, Typs, none as no_typs}
use Rattle.elab_rules.specs.cpp_types.Typ.{more as and_typ}
use Rattle.elab_rules.specs.cpp_types.Class.{Class}
use Rattle.elab_rules.specs.cpp_types.Conversion.{is_lvalue}
use Rattle.elab_rules.specs.cpp_types.Equal.{form_eq}
use Rattle.elab_rules.specs.cpp_types.declared.classes.At.{At}
use Rattle.elab_rules.specs.cpp_types.declared.ranks.Cat.{Cat}
use Rattle.elab_rules.specs.cpp_types.declared.ranks.Cat.TheVariants.{Lvalue}
use Rattle.elab_rules.specs.cpp_tree.declared.faults.IllRule.TheVariants.{NoCopy, OutOfProfile}
use Rattle.elab_rules.specs.cpp_tree.declared.roles.Role.TheVariants.{Value}
use Rattle.elab_rules.specs.cpp_tree.Trees.{Tree, typ_in, cat_of}
use Rattle.elab_rules.specs.cpp_tree.Typing.{head_of, form_in, is_volatile_typ, is_class_typ, same_shape, word_kind}
use Rattle.elab_rules.specs.cpp_tree.Rows.{Setting, is_copied_from}
use Rattle.elab_rules.specs.elab_ctx.Ctx.{Ctx, Work}
use Rattle.elab_rules.specs.elab_ctx.Steps.{check, Operand, Made, MadeAll}
use Rattle.elab_rules.specs.Objects.{copies, traits_at}
use Rattle.elab_rules.specs.Initialising.{initial, object_of, as_source, as_base, copied_in_place, same_number, class_number, is_same_or_base, reference_word}
use Rattle.elab_rules.specs.Initialising.{constructed_copy, constructor_at, parameters_at, copied_object, has_copy, meant, makers, argument}
use Rattle.elab_fits.specs.Standing.{FitsAs, IsSetting, Reaches, On}
use Rattle.elab_fits.proofs.Copies.{copies_law}
use Rattle.elab_fits.proofs.Equal.{form_refl}
use Rattle.elab_fits.proofs.Nodes.{both, or_left, head_typ, head_cat}
use Rattle.elab_fits.proofs.Steps.{bind, skip, checked}
use Rattle.elab_fits.proofs.Values.{lvalue_stands}
use Rattle.elab_fits_objects.specs.Contexts.{is_sorted, is_whole, AreParameters, HasMakers, IsSource}
use Rattle.elab_fits_objects.specs.Making.{Makes, WordsFit}
use Rattle.elab_fits_objects.proofs.Constructing.{constructor_is, constructor_parameters, construct_builds}
use Rattle.elab_fits_objects.proofs.Fits.{copy_builds}
use Rattle.elab_fits_objects.proofs.Placing.{object_placed, object_typ, object_lvalue, placed_fits}
use Rattle.elab_fits_objects.proofs.Types.{whole_sized, whole_ready}
use Rattle.elab_fits_objects.proofs.Words.{initial_word}

-- Which class a type names

not_both : (A : Type 0) (b : Bool) → b ≡ true → not b ≡ true → A
not_both A true h g = absurd cc
not_both A false h g = absurd cc

pub named_form : (lambda : ℕ → Bool) (n : ℕ) (t : Typ) → same_number n (class_number t) ≡ true → is_sorted lambda (form_in t) ≡ true
    → not (lambda n) ≡ true → form_in t ≡ class n
named_form lambda n (typ (class m) c v) h g k = ap class (eqb-true m n h)
named_form lambda n (typ (closure m) c v) h g k = not_both _ (lambda n) (ap lambda (sym (eqb-true m n h)) ∙ g) k
named_form lambda n (typ void c v) h g k = absurd cc
named_form lambda n (typ (int j) c v) h g k = absurd cc
named_form lambda n (typ (enum x s) c v) h g k = absurd cc
named_form lambda n (typ null c v) h g k = absurd cc
named_form lambda n (typ (ptr t) c v) h g k = absurd cc
named_form lambda n (typ (ref t) c v) h g k = absurd cc
named_form lambda n (typ (array t m) c v) h g k = absurd cc
named_form lambda n (typ (func s) c v) h g k = absurd cc
named_form lambda n (typ (tx_ex t) c v) h g k = absurd cc

pub lambda_form : (lambda : ℕ → Bool) (n : ℕ) (t : Typ) → same_number n (class_number t) ≡ true → is_sorted lambda (form_in t) ≡ true
    → lambda n ≡ true → form_in t ≡ closure n
lambda_form lambda n (typ (closure m) c v) h g k = ap closure (eqb-true m n h)
lambda_form lambda n (typ (class m) c v) h g k = not_both _ (lambda n) k (ap (λ (z : ℕ). not (lambda z)) (sym (eqb-true m n h)) ∙ g)
lambda_form lambda n (typ void c v) h g k = absurd cc
lambda_form lambda n (typ (int j) c v) h g k = absurd cc
lambda_form lambda n (typ (enum x s) c v) h g k = absurd cc
lambda_form lambda n (typ null c v) h g k = absurd cc
lambda_form lambda n (typ (ptr t) c v) h g k = absurd cc
lambda_form lambda n (typ (ref t) c v) h g k = absurd cc
lambda_form lambda n (typ (array t m) c v) h g k = absurd cc
lambda_form lambda n (typ (func s) c v) h g k = absurd cc
lambda_form lambda n (typ (tx_ex t) c v) h g k = absurd cc

pub based_class : (classes : List Class) (t : Typ) (n : ℕ) → is_same_or_base classes (class_number t) (Some n) ≡ true → is_class_typ t ≡ true
based_class classes (typ (class m) c v) n h = refl
based_class classes (typ (closure m) c v) n h = refl
based_class classes (typ (tx_ex t) c v) n h = refl
based_class classes (typ void c v) n h = absurd cc
based_class classes (typ (int j) c v) n h = absurd cc
based_class classes (typ (enum x s) c v) n h = absurd cc
based_class classes (typ null c v) n h = absurd cc
based_class classes (typ (ptr t) c v) n h = absurd cc
based_class classes (typ (ref t) c v) n h = absurd cc
based_class classes (typ (array t m) c v) n h = absurd cc
based_class classes (typ (func s) c v) n h = absurd cc

-- What is copied, as one of the class

pub class_shape : (n : ℕ) (q v : Bool) (t : Typ) → form_in t ≡ class n → same_shape (typ (class n) q v) t ≡ true
class_shape n q v (typ f a b) h = ap (form_eq (class n)) h ∙ form_refl (class n)

based_fits : (s : Setting) (at : At) (n : ℕ) (t : Typ) (e : Tree) → cat_of e ≡ Lvalue → FitsAs s Value e → FitsAs s Value (as_base at n t e)
based_fits s at n (typ f c v) e l g = (lvalue_stands s at (typ (class n) c v) e (ap (λ (x : Cat). word_kind (typ_in e) x) l) g tt).value refl

based_row : (at : At) (n : ℕ) (q v : Bool) (t : Typ) (e : Tree) → is_copied_from (typ (class n) q v) (head_of (as_base at n t e)) ≡ true
based_row at n q v (typ f a b) e = or_left _ (form_refl (class n))

source_by : (s : Setting) (at : At) (n : ℕ) (e : Tree) (b : Bool) → cat_of e ≡ Lvalue → FitsAs s Value e
    → FitsAs s Value (if b then e else as_base at n (typ_in e) e)
source_by s at n e true l g = g
source_by s at n e false l g = based_fits s at n (typ_in e) e l g

row_by : (at : At) (n : ℕ) (q v : Bool) (e : Tree) (b : Bool) → (b ≡ true → form_in (typ_in e) ≡ class n) → cat_of e ≡ Lvalue
    → is_copied_from (typ (class n) q v) (head_of (if b then e else as_base at n (typ_in e) e)) ≡ true
row_by at n q v e true h l = both (ap is_lvalue (head_cat e ∙ l))
    (or_left _ (ap (λ (t : Typ). same_shape (typ (class n) q v) t) (head_typ e) ∙ class_shape n q v (typ_in e) (h refl)))
row_by at n q v e false h l = based_row at n q v (typ_in e) e

module _ (s : Setting) (c : Ctx) (lambda : ℕ → Bool) (w : Work) (n : ℕ) (q v : Bool) (at : At) (o : Operand) (i : IsSetting s c) (m : HasMakers c lambda)
    (h : IsSource s c lambda o) (named : not (lambda n) ≡ true) (whole : is_whole c.classes (typ (class n) q v) ≡ true) where
  -- part by part, in place
  pub in_place : is_class_typ (typ_in o.tree) ≡ true → Reaches s (object_of c w o.at o.tree).work
      → Makes s (typ (class n) q v) (copied_in_place c w n (typ (class n) q v) at o).tree
  in_place k reached =
      let x : Tree = (object_of c w o.at o.tree).tree in
      let p = object_placed s c lambda w o i m h reached in
      let l : cat_of x ≡ Lvalue = object_lvalue s c w o.at o.tree k p in
      let b : Bool = same_number n (class_number (typ_in x)) in
      record {
        one = copy_builds s (typ (class n) q v) at (as_source o.at n x) (copies c.classes at (typ (class n) q v))
            (source_by s o.at n x b l (placed_fits s x p))
            (row_by o.at n q v x b (λ e. named_form lambda n (typ_in x) e
            (ap (λ (t : Typ). is_sorted lambda (form_in t)) (object_typ c w o.at o.tree) ∙ h.sorted) named) l)
            (copies_law s c at (typ (class n) q v) i (whole_sized c.classes (typ (class n) q v) whole) (whole_ready c.classes (typ (class n) q v) whole));
        copied = refl;
      }

  abbrev pub Built : Made → Type 0
  Built x = Reaches s x.work → Makes s (typ (class n) q v) x.tree

  abbrev Worded : Typs → MadeAll → Type 0
  Worded ps x = Reaches s x.work → WordsFit s ps x.trees

  reference_fits : (ps : Typs) → AreParameters c lambda ps → On (Worded ps) (reference_word c w ps o)
  reference_fits (and_typ p no_typs) a = checked (Worded (and_typ p no_typs)) o.at OutOfProfile (not (is_class_typ p)) _
      (λ e. bind _ (Worded (and_typ p no_typs)) (initial c w p o) _ (initial_word s c lambda w p o i m h a.0 (is_other (is_class_typ p) e))
      (λ x g. (λ reached. let y = g reached in record { fit = (y.fits, tt); right = both y.right refl })))
    where
      is_other : (b : Bool) → not b ≡ true → b ≡ false
      is_other true e = absurd cc
      is_other false e = refl
  reference_fits no_typs a = tt
  reference_fits (and_typ p (and_typ r ps)) a = tt

  copy_makes : (j : ℕ) (x : Option ℕ) → constructor_at c n j ≡ x → is_class_typ (typ_in o.tree) ≡ true
      → On Built (constructed_copy c w n (typ (class n) q v) at o x)
  copy_makes j None e k = in_place k
  copy_makes j (Some f) e k =
      let maker = constructor_is c n j f e in
      bind (Worded (parameters_at c.funcs f)) Built (reference_word c w (parameters_at c.funcs f) o) _
      (reference_fits (parameters_at c.funcs f) (constructor_parameters c lambda n f m maker))
      (λ x g. (λ reached. record {
        one = construct_builds s c n f (class n) q v at x.trees i maker (eq-eqb n n refl) (g reached);
        copied = refl;
      }))

  -- a copy of an object of the class or of one that is derived from it
  pub object_copied : is_class_typ (typ_in o.tree) ≡ true → On Built (copied_object c w n (typ (class n) q v) at o)
  object_copied k = skip Built (check o.at NoCopy (not (is_volatile_typ (typ_in o.tree)) && has_copy (traits_at c n).copy)) _
      (λ y. skip Built (meant at (chosen c.classes (makers c n) (argument o ∷ []))) _
      (λ j. copy_makes j (constructor_at c n j) refl k))
