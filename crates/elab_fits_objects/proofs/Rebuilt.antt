-- An initialiser of an object with other qualifiers.
use Rattle.std.proofs.Common.{◌≡◌, refl, ℕ, Bool, true, false, ◌&&◌, List, [], ◌∷◌, nat_lt, is_some}
use Rattle.std.proofs.lemmas.Bool.{and_parts}
use Rattle.std.specs.Prelude.{if◌then◌else◌}
use Rattle.elab_rules.specs.tx_ints.declared.kinds.IntKind.{IntKind}
use Rattle.elab_rules.specs.cpp_types.Typ.{Typ, typ, Form, void, int, enum, null, ptr, ref, array, func, class, closure, tx_ex}
use Rattle.elab_rules.specs.cpp_types.Equal.{typ_eq, flag_eq}
use Rattle.elab_rules.specs.cpp_types.Conversion.{is_object_form}
use Rattle.elab_rules.specs.cpp_types.declared.classes.At.{At}
use Rattle.elab_rules.specs.cpp_types.declared.ranks.Cat.TheVariants.{Prvalue}
use Rattle.elab_rules.specs.cpp_tree.declared.kinds.TKind.{TKind}
use Rattle.elab_rules.specs.cpp_tree.declared.kinds.TKind.TheVariants.{Store, Construct, CopyFrom, Pieces, Elements}
use Rattle.elab_rules.specs.cpp_tree.declared.roles.Role.TheVariants.{Value, Word, Initialiser, CopyInit}
use Rattle.elab_rules.specs.cpp_tree.Trees.{node, Trees, none, more, kind_of}
use Rattle.elab_rules.specs.cpp_tree.Typing.{Head, head_of, kind_in, is_kind, same_shape, goes_both_ways, builds, without_exception, initialises}
use Rattle.elab_rules.specs.cpp_tree.Parts.{size_in}
use Rattle.elab_rules.specs.cpp_tree.Roles.{only, and_any}
use Rattle.elab_rules.specs.cpp_tree.Rows.{Setting, row_fits, is_copied_from, kid}
use Rattle.elab_rules.specs.cpp_tree.WellFormed.{fits, kids_fit, heads_of, is_kid}
use Rattle.elab_rules.specs.elab_ctx.Ctx.{Ctx}
use Rattle.elab_rules.specs.Initialising.{building, rebuilt, copied_anew}
use Rattle.elab_rules.specs.Objects.{copies}
use Rattle.elab_fits.specs.Standing.{FitsAs, BuildsOne, IsSetting}
use Rattle.elab_fits.specs.Objects.{is_single, is_ready}
use Rattle.elab_fits.proofs.Copies.{copies_law}
use Rattle.elab_fits.proofs.Equal.{typ_refl, form_refl, flag_refl}
use Rattle.elab_fits.proofs.Nodes.{both, or_left, or_right, node_fits}
use Rattle.elab_fits.proofs.Zeros.{zeros_law}
use Rattle.elab_fits_objects.proofs.Fits.{fit_of, fit_as, copy_builds}
use Rattle.elab_fits_objects.proofs.Types.{ready_more}

-- Qualifiers make no difference to the form

pub shape_refl : (f : Form) (q v d u : Bool) → is_single f ≡ true → same_shape (typ f q v) (typ f d u) ≡ true
shape_refl (int k) q v d u i = form_refl (int k)
shape_refl (enum n s) q v d u i = form_refl (enum n s)
shape_refl null q v d u i = refl
shape_refl (ptr t) q v d u i = form_refl (ptr t)
shape_refl (class n) q v d u i = form_refl (class n)
shape_refl (closure n) q v d u i = form_refl (closure n)
shape_refl void q v d u i = absurd cc
shape_refl (ref t) q v d u i = absurd cc
shape_refl (array t n) q v d u i = absurd cc
shape_refl (func s) q v d u i = absurd cc
shape_refl (tx_ex t) q v d u i = absurd cc

pub shape_alike : (f : Form) (q v d u : Bool) (t : Typ) → is_single f ≡ true → same_shape (typ f q v) t ≡ same_shape (typ f d u) t
shape_alike (int k) q v d u (typ g a b) i = refl
shape_alike (enum n s) q v d u (typ g a b) i = refl
shape_alike null q v d u (typ g a b) i = refl
shape_alike (ptr t) q v d u (typ g a b) i = refl
shape_alike (class n) q v d u (typ g a b) i = refl
shape_alike (closure n) q v d u (typ g a b) i = refl
shape_alike void q v d u t i = absurd cc
shape_alike (ref t) q v d u x i = absurd cc
shape_alike (array t n) q v d u x i = absurd cc
shape_alike (func s) q v d u t i = absurd cc
shape_alike (tx_ex t) q v d u x i = absurd cc

source_alike : (f : Form) (q v d u : Bool) (x : Head) → is_single f ≡ true → is_copied_from (typ f d u) x ≡ true → is_copied_from (typ f q v) x ≡ true
source_alike f q v d u x i h =
    let a = shape_alike f q v d u x.typ i in let b = shape_alike f q v d u (without_exception x.typ) i in rw (a, b) h

store_from : (a b e v : Bool) → ((a && b) && e) ≡ true → ((a && flag_eq v v) && e) ≡ true
store_from a b e v h = let x = and_parts (a && b) e h in let y = and_parts a b x.0 in both (both y.0 (flag_refl v)) x.1

store_row : (s : Setting) (f : Form) (q v d u m : Bool) (k : IntKind) (hs : List Head) → is_single f ≡ true
    → row_fits s (Store k m) (typ f d u) Prvalue hs ≡ true → row_fits s (Store k v) (typ f q v) Prvalue hs ≡ true
store_row s (int j) q v d u m k hs i h = store_from (is_kind k (kind_in (int j))) (flag_eq m u) (kid 0 (initialises (typ (int j) q v)) hs) v h
store_row s (enum n w) q v d u m k hs i h = store_from (is_kind k (kind_in (enum n w))) (flag_eq m u) (kid 0 (initialises (typ (enum n w) q v)) hs) v h
store_row s null q v d u m k hs i h = store_from (is_kind k (kind_in null)) (flag_eq m u) (kid 0 (initialises (typ null q v)) hs) v h
store_row s (ptr t) q v d u m k hs i h = store_from (is_kind k (kind_in (ptr t))) (flag_eq m u) (kid 0 (initialises (typ (ptr t) q v)) hs) v h
store_row s (class n) q v d u m k hs i h = absurd cc
store_row s (closure n) q v d u m k hs i h = absurd cc
store_row s void q v d u m k hs i h = absurd cc
store_row s (ref t) q v d u m k hs i h = absurd cc
store_row s (array t n) q v d u m k hs i h = absurd cc
store_row s (func g) q v d u m k hs i h = absurd cc
store_row s (tx_ex t) q v d u m k hs i h = absurd cc

-- the elements of an array build no single object
pub no_elements : (A : Type 0) (s : Setting) (f : Form) (d u : Bool) (count stride : ℕ) (hs : List Head) → is_single f ≡ true
    → row_fits s (Elements count stride) (typ f d u) Prvalue hs ≡ true → A
no_elements A s f d u count stride [] i h = absurd (last (nat_lt 0 count) h)
  where
    last : (b : Bool) → (b && false) ≡ true → ⊥
    last true g = absurd cc
    last false g = absurd cc
no_elements A s (int k) d u count stride (x ∷ hs) i h = let a = and_parts (nat_lt 0 count) false h in let b = a.1 in absurd cc
no_elements A s (enum n w) d u count stride (x ∷ hs) i h = let a = and_parts (nat_lt 0 count) false h in let b = a.1 in absurd cc
no_elements A s null d u count stride (x ∷ hs) i h = let a = and_parts (nat_lt 0 count) false h in let b = a.1 in absurd cc
no_elements A s (ptr t) d u count stride (x ∷ hs) i h = let a = and_parts (nat_lt 0 count) false h in let b = a.1 in absurd cc
no_elements A s (class n) d u count stride (x ∷ hs) i h = let a = and_parts (nat_lt 0 count) false h in let b = a.1 in absurd cc
no_elements A s (closure n) d u count stride (x ∷ hs) i h = let a = and_parts (nat_lt 0 count) false h in let b = a.1 in absurd cc
no_elements A s void d u count stride (x ∷ hs) i h = absurd cc
no_elements A s (ref t) d u count stride (x ∷ hs) i h = absurd cc
no_elements A s (array t n) d u count stride (x ∷ hs) i h = absurd cc
no_elements A s (func g) d u count stride (x ∷ hs) i h = absurd cc
no_elements A s (tx_ex t) d u count stride (x ∷ hs) i h = absurd cc

-- What is built anew builds an object with these qualifiers

module _ (s : Setting) (c : Ctx) (i : IsSetting s c) (f : Form) (q v d u : Bool) (single : is_single f ≡ true)
    (sized : is_some (size_in c.classes (typ f q v)) ≡ true) (ready : is_ready c.classes false (typ f q v) ≡ true) where
  -- what stands for a class prvalue elsewhere too
  other_builds : (kind : TKind) → goes_both_ways kind ≡ true → (goes_both_ways kind ≡ true → is_object_form f ≡ true)
      → builds (typ f q v) (record { kind = kind; typ = typ f d u; cat = Prvalue }) ≡ true
  other_builds kind h own = or_right _ (both (both h (own h)) (shape_refl f q v d u single))

  copied : (at : At) (kids : Trees) → FitsAs s Initialiser (node CopyFrom (typ f d u) Prvalue at kids)
      → BuildsOne s (typ f q v) (copied_anew c.classes (typ f q v) (node CopyFrom (typ f d u) Prvalue at kids) kids)
  copied at none g = let h = (fit_as s Initialiser CopyFrom (typ f d u) Prvalue at none g).row in absurd cc
  copied at (more source ts) g = copy_builds s (typ f q v) at source (copies c.classes at (typ f q v)) source_fits row
      (copies_law s c at (typ f q v) i sized (ready_more c.classes false (typ f q v) ready))
    where
      row : is_copied_from (typ f q v) (head_of source) ≡ true
      row = let h = (fit_as s Initialiser CopyFrom (typ f d u) Prvalue at (more source ts) g).row in
          source_alike f q v d u (head_of source) single (and_parts (is_copied_from (typ f d u) (head_of source)) (kid 1 (builds (typ f d u))
          (heads_of (more source ts))) h).0

      source_fits : FitsAs s Value source
      source_fits = λ p full. let h = (fit_of s p Initialiser CopyFrom (typ f d u) Prvalue at (more source ts) (g p full)).kids in
          let a = and_parts (is_kid (kind_of source) && fits s p Value source) (kids_fit s p (only (Value ∷ CopyInit ∷ [])) 1 ts) h in
          (and_parts (is_kid (kind_of source)) (fits s p Value source) a.0).1

  pub rebuilt_builds : (kind : TKind) (at : At) (kids : Trees) → (goes_both_ways kind ≡ true → is_object_form f ≡ true)
      → FitsAs s Initialiser (node kind (typ f d u) Prvalue at kids)
      → BuildsOne s (typ f q v) (rebuilt c.classes kind (typ f q v) (node kind (typ f d u) Prvalue at kids))
  rebuilt_builds (Construct k) at kids own g = record {
    fits = λ p full. let h = fit_of s p Initialiser (Construct k) (typ f d u) Prvalue at kids (g p full) in
        node_fits s p Initialiser (Construct k) (typ f q v) Prvalue at kids (and_any [] Word) refl refl refl refl h.row refl h.enough refl h.kids;
    builds = or_left _ (or_left _ (typ_refl (typ f q v)));
  }
  rebuilt_builds (Store k m) at kids own g = record {
    fits = λ p full. let h = fit_of s p Initialiser (Store k m) (typ f d u) Prvalue at kids (g p full) in
        node_fits s p Initialiser (Store k v) (typ f q v) Prvalue at kids (only (Value ∷ [])) refl refl refl refl
        (store_row s f q v d u m k (heads_of kids) single h.row) refl h.enough refl h.kids;
    builds = or_left _ (or_left _ (typ_refl (typ f q v)));
  }
  rebuilt_builds CopyFrom at kids own g = copied at kids g
  rebuilt_builds Pieces at kids own g = zeros_law s c at (typ f q v) i sized ready
  rebuilt_builds (Elements count stride) at kids own g =
      no_elements _ s f d u count stride (heads_of kids) single (fit_as s Initialiser (Elements count stride) (typ f d u) Prvalue at kids g).row
  rebuilt_builds kind at kids own g = record {
    fits = g;
    builds = other_builds kind (fit_as s Initialiser kind (typ f d u) Prvalue at kids g).serves own;
  }

  building_by : (kind : TKind) (at : At) (kids : Trees) (b : Bool) → typ_eq (typ f q v) (typ f d u) ≡ b
      → (goes_both_ways kind ≡ true → is_object_form f ≡ true) → FitsAs s Initialiser (node kind (typ f d u) Prvalue at kids)
      → BuildsOne s (typ f q v) (if b then node kind (typ f d u) Prvalue at kids else
      rebuilt c.classes kind (typ f q v) (node kind (typ f d u) Prvalue at kids))
  building_by kind at kids true e own g = record { fits = g; builds = or_left _ (or_left _ e) }
  building_by kind at kids false e own g = rebuilt_builds kind at kids own g

  pub building_builds : (kind : TKind) (at : At) (kids : Trees) → (goes_both_ways kind ≡ true → is_object_form f ≡ true)
      → FitsAs s Initialiser (node kind (typ f d u) Prvalue at kids)
      → BuildsOne s (typ f q v) (building c.classes (typ f q v) (node kind (typ f d u) Prvalue at kids))
  building_builds kind at kids own g = building_by kind at kids (typ_eq (typ f q v) (typ f d u)) refl own g
