-- A prvalue of a `std::tx_exception` as the initialiser of one.
use Rattle.std.proofs.Common.{◌≡◌, refl, sym, ap, ◌∙◌, subst, Bool, true, false, not, ◌&&◌, ◌||◌, [], ◌∷◌, is_some}
use Rattle.std.proofs.lemmas.Bool.{and_parts}
use Rattle.std.specs.Prelude.{if◌then◌else◌}
use Rattle.elab_rules.specs.cpp_types.Typ.{Typ, typ, Form, tx_ex}
use Rattle.elab_rules.specs.cpp_types.Equal.{typ_eq, form_eq}
use Rattle.elab_rules.specs.cpp_types.Conversion.{is_lvalue}
use Rattle.elab_rules.specs.cpp_types.declared.classes.At.{At}
use Rattle.elab_rules.specs.cpp_types.declared.ranks.Cat.{Cat}
use Rattle.elab_rules.specs.cpp_types.declared.ranks.Cat.TheVariants.{Lvalue, Prvalue}
use Rattle.elab_rules.specs.cpp_tree.declared.kinds.TKind.{TKind}
use Rattle.elab_rules.specs.cpp_tree.declared.kinds.TKind.TheVariants.{Store, Construct, CopyFrom, Pieces, Elements}
use Rattle.elab_rules.specs.cpp_tree.declared.roles.Role.TheVariants.{Value, Initialiser, CopyInit}
use Rattle.elab_rules.specs.cpp_tree.Trees.{Tree, node, Trees, none, more, kind_of, typ_in}
use Rattle.elab_rules.specs.cpp_tree.Typing.{head_of, form_in, is_prvalue}
use Rattle.elab_rules.specs.cpp_tree.Typing.{goes_both_ways, builds}
use Rattle.elab_rules.specs.cpp_tree.Parts.{size_in}
use Rattle.elab_rules.specs.cpp_tree.Roles.{only}
use Rattle.elab_rules.specs.cpp_tree.Rows.{Setting, is_copied_from, kid}
use Rattle.elab_rules.specs.cpp_tree.WellFormed.{fits, kids_fit, heads_of, is_kid}
use Rattle.elab_rules.specs.elab_ctx.Ctx.{Ctx}
use Rattle.elab_rules.specs.Values.{is_exception_form}
use Rattle.elab_rules.specs.Objects.{copies}
use Rattle.elab_rules.specs.Initialising.{building, rebuilt, copied_anew, is_given_value}
use Rattle.elab_fits.specs.Standing.{FitsAs, BuildsOne, IsSetting}
use Rattle.elab_fits.specs.Objects.{is_single}
use Rattle.elab_fits.proofs.Copies.{copies_law}
use Rattle.elab_fits.proofs.Equal.{typ_refl, typ_same, form_refl, form_same}
use Rattle.elab_fits.proofs.Nodes.{both, or_left, or_right, clash}
use Rattle.elab_fits_objects.specs.Contexts.{is_whole, copies_itself}
use Rattle.elab_fits_objects.specs.Making.{Makes}
use Rattle.elab_fits_objects.proofs.Exceptions.{value_single, value_sized, value_ready, no_construct, no_elements, value_source}
use Rattle.elab_fits_objects.proofs.Fits.{fit_of, fit_as, copy_builds}
use Rattle.elab_fits_objects.proofs.Forms.{single_plain, copies_other, building_form, building_typed}
use Rattle.elab_fits_objects.proofs.Rebuilt.{building_builds}
use Rattle.elab_fits_objects.proofs.Types.{ready_more}

-- what has exactly the type of the value builds the exception
pub value_builds : (s : Setting) (f : Form) (d w q v : Bool) (e : Tree) → BuildsOne s (typ f q v) e → typ_in e ≡ typ f q v
    → BuildsOne s (typ (tx_ex (typ f d w)) q v) e
value_builds s f d w q v (node kind t cat at kids) h e = record {
  fits = h.fits;
  builds = both (and_parts (is_prvalue cat) _ h.builds).0
      (or_left _ (or_right _ (ap (λ (u : Typ). typ_eq (typ f q v) u) e ∙ typ_refl (typ f q v))));
}

module _ (s : Setting) (c : Ctx) (f : Form) (d w q v : Bool) (i : IsSetting s c)
    (whole : is_whole c.classes (typ (tx_ex (typ f d w)) q v) ≡ true) where
  abbrev T : Typ
  T = typ (tx_ex (typ f d w)) q v

  single : is_single f ≡ true
  single = value_single c.classes f d w q v whole

  sized : is_some (size_in c.classes (typ f q v)) ≡ true
  sized = value_sized c.classes f d w q v whole

  -- the value of another exception, by what builds it

  copied : (a b : Bool) (at : At) (kids : Trees) → FitsAs s Initialiser (node CopyFrom (typ (tx_ex (typ f d w)) a b) Prvalue at kids)
      → copies_itself (node CopyFrom (typ (tx_ex (typ f d w)) a b) Prvalue at kids) ≡ true
      → Makes s T (copied_anew c.classes (typ f q v) (node CopyFrom (typ (tx_ex (typ f d w)) a b) Prvalue at kids) kids)
  copied a b at none g k = let h = (fit_as s Initialiser CopyFrom (typ (tx_ex (typ f d w)) a b) Prvalue at none g).row in absurd cc
  copied a b at (more source ts) g k = record {
    one = value_builds s f d w q v (node CopyFrom (typ f q v) Prvalue at (more source (more (copies c.classes at (typ f q v)) none)))
        (copy_builds s (typ f q v) at source (copies c.classes at (typ f q v)) source_fits row
        (copies_law s c at (typ f q v) i sized (ready_more c.classes false (typ f q v) (value_ready c.classes f d w q v whole)))) refl;
    copied = copies_other (node CopyFrom (typ f q v) Prvalue at (more source (more (copies c.classes at (typ f q v)) none))) (single_plain f single);
  }
    where
      row : is_copied_from (typ f q v) (head_of source) ≡ true
      row = let h = (fit_as s Initialiser CopyFrom (typ (tx_ex (typ f d w)) a b) Prvalue at (more source ts) g).row in
          let x = and_parts (is_copied_from (typ (tx_ex (typ f d w)) a b) (head_of source)) (kid 1 (builds (typ (tx_ex (typ f d w)) a b))
          (heads_of (more source ts))) h in
          value_source f d w q v source single (and_parts (is_lvalue (head_of source).cat) _ x.0).0
          (sym (form_same (tx_ex (typ f d w)) (form_in (typ_in source)) k))

      source_fits : FitsAs s Value source
      source_fits = λ p full. let h = (fit_of s p Initialiser CopyFrom (typ (tx_ex (typ f d w)) a b) Prvalue at (more source ts) (g p full)).kids in
          let x = and_parts (is_kid (kind_of source) && fits s p Value source) (kids_fit s p (only (Value ∷ CopyInit ∷ [])) 1 ts) h in
          (and_parts (is_kid (kind_of source)) (fits s p Value source) x.0).1

  -- an exception that is called or chosen
  given : (kind : TKind) (a b : Bool) (at : At) (kids : Trees) → goes_both_ways kind ≡ true
      → FitsAs s Initialiser (node kind (typ (tx_ex (typ f d w)) a b) Prvalue at kids)
      → copies_itself (node kind (typ (tx_ex (typ f d w)) a b) Prvalue at kids) ≡ true
      → Makes s T (node kind (typ (tx_ex (typ f d w)) a b) Prvalue at kids)
  given kind a b at kids h g k = record {
    one = record { fits = g; builds = or_right _ (both (both h refl) (form_refl (tx_ex (typ f d w)))) };
    copied = k;
  }

  anew : (kind : TKind) (a b : Bool) (at : At) (kids : Trees) → FitsAs s Initialiser (node kind (typ (tx_ex (typ f d w)) a b) Prvalue at kids)
      → copies_itself (node kind (typ (tx_ex (typ f d w)) a b) Prvalue at kids) ≡ true
      → Makes s T (rebuilt c.classes kind (typ f q v) (node kind (typ (tx_ex (typ f d w)) a b) Prvalue at kids))
  anew (Construct n) a b at kids g k =
      no_construct _ s n (typ f d w) a b (heads_of kids) (fit_as s Initialiser (Construct n) (typ (tx_ex (typ f d w)) a b) Prvalue at kids g).row
  anew (Store n m) a b at kids g k = let h = (fit_as s Initialiser (Store n m) (typ (tx_ex (typ f d w)) a b) Prvalue at kids g).row in absurd cc
  anew CopyFrom a b at kids g k = copied a b at kids g k
  anew Pieces a b at kids g k = let h = (fit_as s Initialiser Pieces (typ (tx_ex (typ f d w)) a b) Prvalue at kids g).row in absurd cc
  anew (Elements count stride) a b at kids g k = no_elements _ s (typ f d w) a b count stride (heads_of kids)
      (fit_as s Initialiser (Elements count stride) (typ (tx_ex (typ f d w)) a b) Prvalue at kids g).row
  anew kind a b at kids g k = given kind a b at kids (fit_as s Initialiser kind (typ (tx_ex (typ f d w)) a b) Prvalue at kids g).serves g k

  other_form : (a b : Bool) → typ_eq (typ f q v) (typ (tx_ex (typ f d w)) a b) ≡ true → ⊥
  other_form a b h =
      let e = ap is_exception_form (ap form_in (typ_same (typ f q v) (typ (tx_ex (typ f d w)) a b) h)) in
      clash _ (is_exception_form f) (single_plain f single) e

  anew_by : (kind : TKind) (a b : Bool) (at : At) (kids : Trees) (x : Bool) → typ_eq (typ f q v) (typ (tx_ex (typ f d w)) a b) ≡ x
      → FitsAs s Initialiser (node kind (typ (tx_ex (typ f d w)) a b) Prvalue at kids)
      → copies_itself (node kind (typ (tx_ex (typ f d w)) a b) Prvalue at kids) ≡ true
      → Makes s T (if x then node kind (typ (tx_ex (typ f d w)) a b) Prvalue at kids else
      rebuilt c.classes kind (typ f q v) (node kind (typ (tx_ex (typ f d w)) a b) Prvalue at kids))
  anew_by kind a b at kids true e g k = absurd (other_form a b e)
  anew_by kind a b at kids false e g k = anew kind a b at kids g k

  -- what builds the value of an exception
  not_given : (kind : TKind) → (goes_both_ways kind && not (is_exception_form f)) ≡ false → goes_both_ways kind ≡ false
  not_given kind h = by (goes_both_ways kind) (is_exception_form f) (single_plain f single) h
    where
      by : (x y : Bool) → y ≡ false → (x && not y) ≡ false → x ≡ false
      by false y e g = refl
      by true false e g = absurd cc
      by true true e g = absurd cc

  valued : (kind : TKind) (a b : Bool) (at : At) (kids : Trees) → FitsAs s Initialiser (node kind (typ f a b) Prvalue at kids)
      → (goes_both_ways kind && not (is_exception_form f)) ≡ false
      → Makes s T (building c.classes (typ f q v) (node kind (typ f a b) Prvalue at kids))
  valued kind a b at kids g n =
      let m : goes_both_ways kind ≡ false = not_given kind n in
      let e : Tree = building c.classes (typ f q v) (node kind (typ f a b) Prvalue at kids) in
      record {
        one = value_builds s f d w q v e
            (building_builds s c i f q v a b single sized (value_ready c.classes f d w q v whole) kind at kids (λ h. clash _ (goes_both_ways kind) m h) g)
            (building_typed c.classes f q v a b single s kind at kids (λ h. m) g);
        copied = copies_other e (ap is_exception_form (building_form c.classes f q v a b single kind at kids) ∙ single_plain f single);
      }

  -- what builds an operand of the type has its form or that of the value
  pub built : (kind : TKind) (g : Form) (a b : Bool) (cat : Cat) (at : At) (kids : Trees) (x y : Bool)
      → FitsAs s Initialiser (node kind (typ g a b) cat at kids) → builds (typ (tx_ex (typ f d w)) x y) (head_of (node kind (typ g a b) cat at kids)) ≡ true
      → copies_itself (node kind (typ g a b) cat at kids) ≡ true → is_given_value (node kind (typ g a b) cat at kids) ≡ false
      → Makes s T (building c.classes (typ f q v) (node kind (typ g a b) cat at kids))
  built kind g a b Lvalue at kids x y h e k n = absurd cc
  built kind g a b Prvalue at kids x y h e k n = by (form_eq (tx_ex (typ f d w)) g) refl
    where
      own : g ≡ f → Makes s T (building c.classes (typ f q v) (node kind (typ g a b) Prvalue at kids))
      own o = subst (λ (z : Form). Makes s T (building c.classes (typ f q v) (node kind (typ z a b) Prvalue at kids))) (sym o)
          (valued kind a b at kids (subst (λ (z : Form). FitsAs s Initialiser (node kind (typ z a b) Prvalue at kids)) o h)
          (subst (λ (z : Form). is_given_value (node kind (typ z a b) Prvalue at kids) ≡ false) o n))

      exception : g ≡ tx_ex (typ f d w) → Makes s T (building c.classes (typ f q v) (node kind (typ g a b) Prvalue at kids))
      exception o = subst (λ (z : Form). Makes s T (building c.classes (typ f q v) (node kind (typ z a b) Prvalue at kids))) (sym o)
          (anew_by kind a b at kids (typ_eq (typ f q v) (typ (tx_ex (typ f d w)) a b)) refl
          (subst (λ (z : Form). FitsAs s Initialiser (node kind (typ z a b) Prvalue at kids)) o h)
          (subst (λ (z : Form). copies_itself (node kind (typ z a b) Prvalue at kids) ≡ true) o k))

      value_left : (m r z : Bool) → m ≡ false → z ≡ false → ((m || r) || z) ≡ true → r ≡ true
      value_left true r z p u j = absurd cc
      value_left false true z p u j = refl
      value_left false false true p u j = absurd cc
      value_left false false false p u j = absurd cc

      no_typ : (m : Bool) → typ_eq (typ (tx_ex (typ f d w)) x y) (typ g a b) ≡ m → form_eq (tx_ex (typ f d w)) g ≡ false → m ≡ false
      no_typ true p j = clash _ (form_eq (tx_ex (typ f d w)) g) j (and_parts _ (form_eq (tx_ex (typ f d w)) g) p).1
      no_typ false p j = refl

      and_false : (m r : Bool) → r ≡ false → (m && r) ≡ false
      and_false true r j = j
      and_false false r j = refl

      by : (m : Bool) → form_eq (tx_ex (typ f d w)) g ≡ m → Makes s T (building c.classes (typ f q v) (node kind (typ g a b) Prvalue at kids))
      by true j = exception (sym (form_same (tx_ex (typ f d w)) g j))
      by false j =
          let r : typ_eq (typ f x y) (typ g a b) ≡ true = value_left (typ_eq (typ (tx_ex (typ f d w)) x y) (typ g a b)) (typ_eq (typ f x y) (typ g a b))
          (goes_both_ways kind && true && form_eq (tx_ex (typ f d w)) g)
          (no_typ (typ_eq (typ (tx_ex (typ f d w)) x y) (typ g a b)) refl j)
          (and_false (goes_both_ways kind && true) (form_eq (tx_ex (typ f d w)) g) j) e in
          own (sym (ap form_in (typ_same (typ f x y) (typ g a b) r)))
