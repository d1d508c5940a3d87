-- Objects of a `std::tx_exception`, which are built as the values in them.
use Rattle.std.proofs.Common.{◌≡◌, refl, ap, ◌∙◌, ℕ, Bool, true, false, ◌&&◌, ◌||◌, List, [], ◌∷◌, length, slice_get, Option, Some, None, is_some}
use Rattle.std.proofs.lemmas.Bool.{and_parts}
use Rattle.std.specs.Prelude.{nat_lt}
use Rattle.elab_rules.specs.cpp_types.Typ.{Typ, typ, Form, void, int, enum, null, ptr, ref, array, func, class, closure, tx_ex}
use Rattle.elab_rules.specs.cpp_types.Class.{Class}
use Rattle.elab_rules.specs.cpp_types.Equal.{form_eq}
use Rattle.elab_rules.specs.cpp_types.Conversion.{is_lvalue}
use Rattle.elab_rules.specs.cpp_types.declared.classes.At.{At}
use Rattle.elab_rules.specs.cpp_types.declared.ranks.Cat.TheVariants.{Lvalue, Prvalue}
use Rattle.elab_rules.specs.cpp_tree.declared.kinds.TKind.TheVariants.{Construct, Elements}
use Rattle.elab_rules.specs.cpp_tree.declared.program.FuncKind.{FuncKind}
use Rattle.elab_rules.specs.cpp_tree.declared.roles.Role.TheVariants.{Value}
use Rattle.elab_rules.specs.cpp_tree.Trees.{Tree, node, typ_in, cat_of}
use Rattle.elab_rules.specs.cpp_tree.Typing.{Head, head_of, form_in, passes, without_exception, same_shape}
use Rattle.elab_rules.specs.cpp_tree.Parts.{size_in}
use Rattle.elab_rules.specs.cpp_tree.Rows.{Setting, row_fits, is_copied_from, is_constructor, is_constructor_of}
use Rattle.elab_rules.specs.cpp_tree.Units.{Func as UnitFunc}
use Rattle.elab_rules.specs.elab_ctx.Ctx.{Ctx}
use Rattle.elab_rules.specs.Objects.{copies}
use Rattle.elab_rules.specs.Initialising.{exception_copied}
use Rattle.elab_fits.specs.Standing.{FitsAs, IsSetting}
use Rattle.elab_fits.specs.Objects.{is_single, is_ready, class_ready, form_ready}
use Rattle.elab_fits.proofs.Copies.{copies_law}
use Rattle.elab_fits.proofs.Equal.{form_refl}
use Rattle.elab_fits.proofs.Nodes.{both, or_left, or_right, head_typ, head_cat}
use Rattle.elab_fits_objects.specs.Contexts.{is_whole}
use Rattle.elab_fits_objects.specs.Making.{Makes}
use Rattle.elab_fits_objects.proofs.Fits.{copy_builds}
use Rattle.elab_fits_objects.proofs.Rebuilt.{shape_refl}
use Rattle.elab_fits_objects.proofs.Types.{whole_sized, whole_plain, ready_more}

-- The value in a whole exception

pub value_single : (classes : List Class) (f : Form) (d w q v : Bool) → is_whole classes (typ (tx_ex (typ f d w)) q v) ≡ true → is_single f ≡ true
value_single classes f d w q v h = (and_parts (is_single f) (form_ready (class_ready (length classes) classes false) false false f)
    (whole_plain classes (typ (tx_ex (typ f d w)) q v) h refl)).0

single_own : (p : ℕ → Bool) (r own : Bool) (f : Form) → is_single f ≡ true → form_ready p r false f ≡ true → form_ready p r own f ≡ true
single_own p r own (int k) i h = refl
single_own p r own (enum n s) i h = refl
single_own p r own null i h = refl
single_own p r own (ptr t) i h = refl
single_own p r own (class n) i h = h
single_own p r own (closure n) i h = h
single_own p r own void i h = absurd cc
single_own p r own (ref t) i h = absurd cc
single_own p r own (array t n) i h = absurd cc
single_own p r own (func s) i h = absurd cc
single_own p r own (tx_ex t) i h = absurd cc

pub value_sized : (classes : List Class) (f : Form) (d w q v : Bool) → is_whole classes (typ (tx_ex (typ f d w)) q v) ≡ true
    → is_some (size_in classes (typ f q v)) ≡ true
value_sized classes f d w q v h = whole_sized classes (typ (tx_ex (typ f d w)) q v) h

pub value_ready : (classes : List Class) (f : Form) (d w q v : Bool) → is_whole classes (typ (tx_ex (typ f d w)) q v) ≡ true
    → is_ready classes false (typ f q v) ≡ true
value_ready classes f d w q v h =
    let a = and_parts (is_single f) (form_ready (class_ready (length classes) classes false) false false f)
    (whole_plain classes (typ (tx_ex (typ f d w)) q v) h refl) in
    single_own (class_ready (length classes) classes false) false (q || v) f a.0 a.1

pub exception_shape : (t : Typ) (q v : Bool) (u : Typ) → form_in u ≡ tx_ex t → same_shape (typ (tx_ex t) q v) u ≡ true
exception_shape t q v (typ f a b) h = ap (form_eq (tx_ex t)) h ∙ form_refl (tx_ex t)

-- A copy of another

module _ (s : Setting) (c : Ctx) (f : Form) (d w q v : Bool) (at : At) (i : IsSetting s c)
    (whole : is_whole c.classes (typ (tx_ex (typ f d w)) q v) ≡ true) where
  pub copied_makes : (x : Tree) → FitsAs s Value x → cat_of x ≡ Lvalue → form_in (typ_in x) ≡ tx_ex (typ f d w)
      → Makes s (typ (tx_ex (typ f d w)) q v) (exception_copied c (typ (tx_ex (typ f d w)) q v) at x)
  copied_makes x g l e = record {
    one = copy_builds s (typ (tx_ex (typ f d w)) q v) at x (copies c.classes at (typ (tx_ex (typ f d w)) q v)) g
        (both (ap is_lvalue (head_cat x ∙ l)) (or_left _ (ap (λ (t : Typ). same_shape (typ (tx_ex (typ f d w)) q v) t) (head_typ x)
        ∙ exception_shape (typ f d w) q v (typ_in x) e)))
        (copies_law s c at (typ (tx_ex (typ f d w)) q v) i (whole_sized c.classes (typ (tx_ex (typ f d w)) q v) whole)
        (ready_more c.classes false (typ (tx_ex (typ f d w)) q v) (whole_plain c.classes (typ (tx_ex (typ f d w)) q v) whole refl)));
    copied = ap (form_eq (tx_ex (typ f d w))) e ∙ form_refl (tx_ex (typ f d w));
  }

-- What builds an exception and has its form: it is called or chosen, or copies one

false_last : (A : Type 0) (b : Bool) → (b && false) ≡ true → A
false_last A true h = absurd cc
false_last A false h = absurd cc

no_class_kind : (A : Type 0) (kind : FuncKind) (t : Typ) (a b : Bool) (x : Option ℕ) → is_constructor_of (typ (tx_ex t) a b) kind x ≡ true → A
no_class_kind A kind t a b None h = false_last A (is_constructor kind) h
no_class_kind A kind t a b (Some n) h = false_last A (is_constructor kind) h

found_passes : (A : Type 0) (test : UnitFunc → Bool) (x : Option UnitFunc) → ((g : UnitFunc) → test g ≡ true → A) → passes test x ≡ true → A
found_passes A test None h g = absurd cc
found_passes A test (Some f) h g = h f g

pub no_construct : (A : Type 0) (s : Setting) (k : ℕ) (t : Typ) (a b : Bool) (hs : List Head) → row_fits s (Construct k) (typ (tx_ex t) a b) Prvalue hs ≡ true → A
no_construct A s k t a b hs h = found_passes A _ (slice_get s.funcs k)
    (λ g e. no_class_kind A g.kind t a b g.class (and_parts (is_constructor_of (typ (tx_ex t) a b) g.kind g.class) _ e).0) h

pub no_elements : (A : Type 0) (s : Setting) (t : Typ) (a b : Bool) (count stride : ℕ) (hs : List Head)
    → row_fits s (Elements count stride) (typ (tx_ex t) a b) Prvalue hs ≡ true → A
no_elements A s t a b count stride [] h = false_last A (nat_lt 0 count) h
no_elements A s t a b count stride (x ∷ hs) h = false_last A (nat_lt 0 count) h

pub value_source : (f : Form) (d w q v : Bool) (x : Tree) → is_single f ≡ true → is_lvalue (head_of x).cat ≡ true → form_in (typ_in x) ≡ tx_ex (typ f d w)
    → is_copied_from (typ f q v) (head_of x) ≡ true
value_source f d w q v (node kind (typ g a b) cat at kids) i l e =
    both l (or_right _ (ap (λ (h : Form). same_shape (typ f q v) (without_exception (typ h a b))) e ∙ shape_refl f q v a b i))
