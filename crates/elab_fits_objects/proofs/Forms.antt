-- Types of what is built anew, and trees that are no `std::tx_exception`.
use Rattle.std.proofs.Common.{◌≡◌, refl, sym, ap, subst, ℕ, zero, suc, Bool, true, false, List, length}
use Rattle.std.specs.Prelude.{if◌then◌else◌}
use Rattle.elab_rules.specs.cpp_types.Typ.{Typ, typ, Form, void, int, enum, null, ptr, ref, array, func, class, closure, tx_ex}
use Rattle.elab_rules.specs.cpp_types.Class.{Class}
use Rattle.elab_rules.specs.cpp_types.Equal.{typ_eq}
use Rattle.elab_rules.specs.cpp_types.declared.classes.At.{At}
use Rattle.elab_rules.specs.cpp_types.declared.ranks.Cat.TheVariants.{Prvalue}
use Rattle.elab_rules.specs.cpp_tree.declared.kinds.TKind.{TKind}
use Rattle.elab_rules.specs.cpp_tree.declared.kinds.TKind.TheVariants.{Store, Construct, CopyFrom, Pieces, Elements, Retype}
use Rattle.elab_rules.specs.cpp_tree.declared.roles.Role.TheVariants.{Initialiser}
use Rattle.elab_rules.specs.cpp_tree.Trees.{Tree, node, Trees, none, more, typ_in, cat_of}
use Rattle.elab_rules.specs.cpp_tree.Typing.{head_of, form_in, is_class_prvalue, goes_both_ways, builds}
use Rattle.elab_rules.specs.cpp_tree.Rows.{Setting}
use Rattle.elab_rules.specs.cpp_tree.WellFormed.{heads_of}
use Rattle.elab_rules.specs.Values.{builder, is_exception_form}
use Rattle.elab_rules.specs.Objects.{zeros, zero_leaf, class_whole}
use Rattle.elab_rules.specs.Initialising.{building, rebuilt}
use Rattle.elab_fits.specs.Standing.{FitsAs, Stands, BuildsOne}
use Rattle.elab_fits.specs.Objects.{is_single}
use Rattle.elab_fits.proofs.Equal.{typ_same}
use Rattle.elab_fits.proofs.Nodes.{clash}
use Rattle.elab_fits_objects.specs.Contexts.{copies_itself}
use Rattle.elab_fits_objects.specs.Making.{Makes}
use Rattle.elab_fits_objects.proofs.Fits.{fit_as}
use Rattle.elab_fits_objects.proofs.Rebuilt.{no_elements}

-- Forms

pub single_plain : (f : Form) → is_single f ≡ true → is_exception_form f ≡ false
single_plain (tx_ex t) h = absurd cc
single_plain f h = refl

-- What is no exception is built as itself, and copies no exception

pub builder_is : (e : Tree) → is_exception_form (form_in (typ_in e)) ≡ false → builder e ≡ e
builder_is (node Retype (typ (tx_ex u) c v) cat p kids) h = absurd cc
builder_is (node kind (typ f c v) cat p kids) h = refl

pub copies_other : (e : Tree) → is_exception_form (form_in (typ_in e)) ≡ false → copies_itself e ≡ true
copies_other (node CopyFrom (typ (tx_ex u) c v) cat p kids) h = absurd cc
copies_other (node kind (typ f c v) cat p kids) h = refl

pub plain_makes : (s : Setting) (t : Typ) (e : Tree) → BuildsOne s t e → is_exception_form (form_in (typ_in e)) ≡ false → Makes s t e
plain_makes s t e h n = record { one = h; copied = copies_other e n }

pub own_fits : (s : Setting) (e : Tree) → Stands s e → is_class_prvalue (typ_in e) (cat_of e) ≡ true → is_exception_form (form_in (typ_in e)) ≡ false
    → FitsAs s Initialiser e
own_fits s e h p n = subst (λ (x : Tree). FitsAs s Initialiser x) (builder_is e n) (h.object p)

pub own_builds : (s : Setting) (e : Tree) → Stands s e → is_class_prvalue (typ_in e) (cat_of e) ≡ true → is_exception_form (form_in (typ_in e)) ≡ false
    → builds (typ_in e) (head_of e) ≡ true
own_builds s e h p n = subst (λ (x : Tree). builds (typ_in e) (head_of x) ≡ true) (builder_is e n) (h.built p)

-- Zeros have the type of their object

class_zeros : (depth : ℕ) (classes : List Class) (at : At) (n : ℕ) (q v : Bool)
    → typ_in (class_whole depth zero_leaf classes at n q v) ≡ typ (class n) q v
class_zeros zero classes at n q v = refl
class_zeros (suc depth) classes at n q v = refl

pub zeros_typed : (classes : List Class) (at : At) (f : Form) (q v : Bool) → is_single f ≡ true → typ_in (zeros classes at (typ f q v)) ≡ typ f q v
zeros_typed classes at (int k) q v h = refl
zeros_typed classes at (enum n s) q v h = refl
zeros_typed classes at null q v h = refl
zeros_typed classes at (ptr t) q v h = refl
zeros_typed classes at (class n) q v h = class_zeros (length classes) classes at n q v
zeros_typed classes at (closure n) q v h = refl
zeros_typed classes at void q v h = absurd cc
zeros_typed classes at (ref t) q v h = absurd cc
zeros_typed classes at (array t n) q v h = absurd cc
zeros_typed classes at (func s) q v h = absurd cc
zeros_typed classes at (tx_ex t) q v h = absurd cc

-- What is built anew has the form, and exactly the type where it is not called or chosen

module _ (classes : List Class) (f : Form) (q v d u : Bool) (single : is_single f ≡ true) where
  rebuilt_form : (kind : TKind) (at : At) (kids : Trees)
      → form_in (typ_in (rebuilt classes kind (typ f q v) (node kind (typ f d u) Prvalue at kids))) ≡ f
  rebuilt_form (Construct k) at kids = refl
  rebuilt_form (Store k m) at kids = refl
  rebuilt_form CopyFrom at none = refl
  rebuilt_form CopyFrom at (more source ts) = refl
  rebuilt_form Pieces at kids = ap form_in (zeros_typed classes at f q v single)
  rebuilt_form kind at kids = refl

  form_by : (kind : TKind) (at : At) (kids : Trees) (b : Bool) → form_in (typ_in (if b then node kind (typ f d u) Prvalue at kids else
      rebuilt classes kind (typ f q v) (node kind (typ f d u) Prvalue at kids))) ≡ f
  form_by kind at kids true = refl
  form_by kind at kids false = rebuilt_form kind at kids

  pub building_form : (kind : TKind) (at : At) (kids : Trees) → form_in (typ_in (building classes (typ f q v) (node kind (typ f d u) Prvalue at kids))) ≡ f
  building_form kind at kids = form_by kind at kids (typ_eq (typ f q v) (typ f d u))

  other_typed : (s : Setting) (kind : TKind) (at : At) (kids : Trees) → goes_both_ways kind ≡ false → goes_both_ways kind ≡ true
      → typ_in (node kind (typ f d u) Prvalue at kids) ≡ typ f q v
  other_typed s kind at kids n h = clash _ (goes_both_ways kind) n h

  rebuilt_typed : (s : Setting) (kind : TKind) (at : At) (kids : Trees) → goes_both_ways kind ≡ false
      → FitsAs s Initialiser (node kind (typ f d u) Prvalue at kids)
      → typ_in (rebuilt classes kind (typ f q v) (node kind (typ f d u) Prvalue at kids)) ≡ typ f q v
  rebuilt_typed s (Construct k) at kids n g = refl
  rebuilt_typed s (Store k m) at kids n g = refl
  rebuilt_typed s CopyFrom at none n g = let h = (fit_as s Initialiser CopyFrom (typ f d u) Prvalue at none g).row in absurd cc
  rebuilt_typed s CopyFrom at (more source ts) n g = refl
  rebuilt_typed s Pieces at kids n g = zeros_typed classes at f q v single
  rebuilt_typed s (Elements count stride) at kids n g =
      no_elements _ s f d u count stride (heads_of kids) single (fit_as s Initialiser (Elements count stride) (typ f d u) Prvalue at kids g).row
  rebuilt_typed s kind at kids n g = other_typed s kind at kids n (fit_as s Initialiser kind (typ f d u) Prvalue at kids g).serves

  typed_by : (s : Setting) (kind : TKind) (at : At) (kids : Trees) (b : Bool) → typ_eq (typ f q v) (typ f d u) ≡ b → (b ≡ false → goes_both_ways kind ≡ false)
      → FitsAs s Initialiser (node kind (typ f d u) Prvalue at kids) → typ_in (if b then node kind (typ f d u) Prvalue at kids else
      rebuilt classes kind (typ f q v) (node kind (typ f d u) Prvalue at kids)) ≡ typ f q v
  typed_by s kind at kids true e n g = sym (typ_same (typ f q v) (typ f d u) e)
  typed_by s kind at kids false e n g = rebuilt_typed s kind at kids (n refl) g

  pub building_typed : (s : Setting) (kind : TKind) (at : At) (kids : Trees) → (typ_eq (typ f q v) (typ f d u) ≡ false → goes_both_ways kind ≡ false)
      → FitsAs s Initialiser (node kind (typ f d u) Prvalue at kids)
      → typ_in (building classes (typ f q v) (node kind (typ f d u) Prvalue at kids)) ≡ typ f q v
  building_typed s kind at kids n g = typed_by s kind at kids (typ_eq (typ f q v) (typ f d u)) refl n g
