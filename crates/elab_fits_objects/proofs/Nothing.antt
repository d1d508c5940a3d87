-- Objects of which nothing is written.
use Rattle.std.proofs.Common.{◌≡◌, refl, sym, ap, ◌∙◌, subst, ℕ, Bool, true, false, List, [], ◌∷◌, length, Some, is_some}
use Rattle.std.specs.Prelude.{if◌then◌else◌}
use Rattle.elab_rules.specs.cpp_types.Typ.{Typ, typ, Form, void, int, enum, null, ptr, ref, array, func, class, closure, tx_ex, none as no_typs}
use Rattle.elab_rules.specs.cpp_types.Class.{Class, completion_of, held, held_form}
use Rattle.elab_rules.specs.cpp_types.Order.{each_passes}
use Rattle.elab_rules.specs.cpp_types.declared.classes.At.{At}
use Rattle.elab_rules.specs.cpp_types.declared.ranks.Cat.TheVariants.{Prvalue}
use Rattle.elab_rules.specs.cpp_tree.declared.kinds.TKind.TheVariants.{CopyFrom, Construct, Elements}
use Rattle.elab_rules.specs.cpp_tree.declared.roles.Role.TheVariants.{Initialiser, Destruction}
use Rattle.elab_rules.specs.cpp_tree.Trees.{Tree, node, none, more}
use Rattle.elab_rules.specs.cpp_tree.Typing.{form_in, is_class}
use Rattle.elab_rules.specs.cpp_tree.Parts.{size_in, holds_complete}
use Rattle.elab_rules.specs.cpp_tree.Roles.{and_any}
use Rattle.elab_rules.specs.cpp_tree.Rows.{Setting}
use Rattle.elab_rules.specs.cpp_tree.WellFormed.{heads_of, is_zero}
use Rattle.elab_rules.specs.elab_ctx.Ctx.{Ctx, Special, absent, trivial, function}
use Rattle.elab_rules.specs.elab_ctx.Steps.{and_then}
use Rattle.elab_rules.specs.Objects.{size_of, zeros, destroys, count_in, element_of, is_array, traits_at, class_in}
use Rattle.elab_rules.specs.Initialising.{makeable, default_by, default_in, parameters_at, signature_parameters}
use Rattle.elab_rules.specs.elab_ctx.Ctx.{Func}
use Rattle.elab_rules.specs.cpp_types.Typ.{Typs}
use Rattle.elab_fits.specs.Standing.{BuildsOne, IsSetting, On}
use Rattle.elab_fits.specs.Objects.{is_closure, is_ready, class_ready, DestroysOne}
use Rattle.elab_fits.proofs.AreZeros.{are_zero_law}
use Rattle.elab_fits.proofs.Destructions.{destructions_law}
use Rattle.elab_fits.proofs.ElementTypes.{elements_law}
use Rattle.elab_fits.proofs.Equal.{typ_refl}
use Rattle.elab_fits.proofs.Nodes.{or_left, node_fits}
use Rattle.elab_fits.proofs.Objects.{qualified_held}
use Rattle.elab_fits.proofs.Steps.{bind}
use Rattle.elab_fits.proofs.Zeros.{zeros_law}
use Rattle.elab_fits_objects.specs.Contexts.{is_whole, is_named_class, copies_itself, IsObjectTyp, HasMakers}
use Rattle.elab_fits_objects.specs.Making.{Makes, WordsFit, NothingBuilds}
use Rattle.elab_fits_objects.proofs.Captures.{elements_row, class_is}
use Rattle.elab_fits_objects.proofs.Constructing.{construct_builds, func_is}
use Rattle.elab_fits_objects.proofs.Elements.{own_element}
use Rattle.elab_fits_objects.proofs.Fits.{object_kids, at_least_one}
use Rattle.elab_fits_objects.proofs.Types.{whole_sized, whole_ready, whole_plain, makeable_complete}

-- Elements

element_held : (t : Typ) → held (element_of t) ≡ held t
element_held (typ (array u n) c v) = qualified_held c v (element_of u) ∙ element_held u
element_held (typ void c v) = refl
element_held (typ (int k) c v) = refl
element_held (typ (enum n s) c v) = refl
element_held (typ null c v) = refl
element_held (typ (ptr u) c v) = refl
element_held (typ (ref u) c v) = refl
element_held (typ (func s) c v) = refl
element_held (typ (class n) c v) = refl
element_held (typ (closure n) c v) = refl
element_held (typ (tx_ex u) c v) = refl

held_is : (t : Typ) (f : Form) → form_in t ≡ f → held t ≡ held_form f
held_is (typ g c v) f h = ap held_form h

held_in : (t : Typ) → held t ≡ held_form (form_in t)
held_in (typ g c v) = refl

-- the class of the elements is complete
pub elements_complete : (classes : List Class) (n k : ℕ) (t : Typ) → form_in (element_of t) ≡ class n → completion_of classes n ≡ Some k
    → holds_complete classes (form_in t) ≡ true
elements_complete classes n k t e h =
    let a : held_form (form_in t) ≡ Some n = sym (held_in t) ∙ sym (element_held t) ∙ held_is (element_of t) (class n) e in
    ap (each_passes (λ (m : ℕ). is_some (completion_of classes m))) a ∙ ap is_some h

open_type : (t : Typ) → is_closure (form_in (element_of t)) ≡ false → is_closure (form_in t) ≡ false
open_type (typ (closure n) c v) h = absurd cc
open_type (typ f c v) h = refl

-- What is nothing but zeros copies no exception
zero_copies : (e : Tree) → is_zero e ≡ true → copies_itself e ≡ true
zero_copies (node CopyFrom t cat at kids) h = absurd cc
zero_copies (node kind t cat at kids) h = refl

module _ (s : Setting) (c : Ctx) (lambda : ℕ → Bool) (at : At) (i : IsSetting s c) (m : HasMakers c lambda) where
  zeros_make : (t : Typ) → is_whole c.classes t ≡ true → is_closure (form_in (element_of t)) ≡ false → Makes s t (zeros c.classes at t)
  zeros_make t z n = record {
    one = zeros_law s c at t i (whole_sized c.classes t z) (whole_plain c.classes t z (open_type t n));
    copied = zero_copies (zeros c.classes at t) (are_zero_law c.classes at t);
  }

  no_words : (n k : ℕ) → (traits_at c n).default ≡ function k → WordsFit s (parameters_at c.funcs k) none
  no_words n k e =
      let d = m.defaults n k e in
      let a : parameters_at c.funcs k ≡ no_typs =
      ap (λ (f : Func). signature_parameters f.declared.signature) (func_is c.funcs k d.maker.func d.maker.at) ∙ d.takes in
      subst (λ (ps : Typs). WordsFit s ps none) (sym a) (record { fit = tt; right = refl })

  one_made : (n k : ℕ) (t : Typ) → (traits_at c n).default ≡ function k → is_class n (form_in t) ≡ true
      → BuildsOne s t (node (Construct k) t Prvalue at none)
  one_made n k (typ f q v) e o = construct_builds s c n k f q v at none i (m.defaults n k e).maker o (no_words n k e)

  array_made : (n k : ℕ) (t : Typ) → is_array t ≡ true → is_some (size_in c.classes t) ≡ true → is_ready c.classes true t ≡ true
      → (traits_at c n).default ≡ function k → is_class n (form_in (element_of t)) ≡ true
      → BuildsOne s t (node (Elements (count_in t) (size_of c.classes (element_of t))) t Prvalue at
      (more (node (Construct k) (element_of t) Prvalue at none) (destroys c at (element_of t))))
  array_made n k t a z q e o =
      let u : Typ = element_of t in
      let x = elements_law c.classes true t z q in
      let d : DestroysOne s u (destroys c at u) = destructions_law s c at u i m.specials x.sized x.ready x.single in
      let b = one_made n k u e o in
      record {
        fits = λ p full. node_fits s p Initialiser (Elements (count_in t) (size_of c.classes u)) t Prvalue at
            (more (node (Construct k) u Prvalue at none) (destroys c at u)) (and_any (Initialiser ∷ []) Destruction) refl refl refl refl
            (elements_row s c t (record { kind = Construct k; typ = u; cat = Prvalue }) (heads_of (destroys c at u)) i a z q refl refl d.right) refl
            (at_least_one (heads_of (destroys c at u)) (record { kind = Construct k; typ = u; cat = Prvalue }) Initialiser Destruction) refl
            (object_kids s p (node (Construct k) u Prvalue at none) (destroys c at u) full (b.fits p full) d.fit);
        builds = or_left _ (or_left _ (typ_refl t));
      }

  made_by : (n k : ℕ) (t : Typ) (b : Bool) → is_array t ≡ b → is_some (size_in c.classes t) ≡ true → is_ready c.classes true t ≡ true
      → (traits_at c n).default ≡ function k → is_class n (form_in (element_of t)) ≡ true
      → Makes s t (if b then node (Elements (count_in t) (size_of c.classes (element_of t))) t Prvalue at
      (more (node (Construct k) (element_of t) Prvalue at none) (destroys c at (element_of t))) else node (Construct k) t Prvalue at none)
  made_by n k t true a z q e o = record { one = array_made n k t a z q e o; copied = refl }
  made_by n k t false a z q e o = record {
    one = one_made n k t e (ap (λ (u : Typ). is_class n (form_in u)) (sym (own_element (class_ready (length c.classes) c.classes true) true t a q)) ∙ o);
    copied = refl;
  }

  default_makes : (n : ℕ) (t : Typ) (x : Special) → (traits_at c n).default ≡ x → is_whole c.classes t ≡ true → form_in (element_of t) ≡ class n
      → On (Makes s t) (default_by c t at x)
  default_makes n t absent e z o = tt
  default_makes n t trivial e z o = zeros_make t z (ap is_closure o)
  default_makes n t (function k) e z o = made_by n k t (is_array t) refl (whole_sized c.classes t z) (whole_ready c.classes t z) e
      (class_is (form_in (element_of t)) n (ap class_in o))

  class_default : (n : ℕ) (t : Typ) → IsObjectTyp c lambda t → form_in (element_of t) ≡ class n
      → On (Makes s t) (and_then (makeable c at n) (λ k. default_by c t at (traits_at c n).default))
  class_default n t z o = bind (λ (k : ℕ). completion_of c.classes n ≡ Some k) (Makes s t) (makeable c at n) _ (makeable_complete c at n)
      (λ k e. default_makes n t (traits_at c n).default refl (z.whole (elements_complete c.classes n k t o e)) o)

  other_default : (t : Typ) → IsObjectTyp c lambda t → is_named_class (form_in (element_of t)) ≡ false → is_closure (form_in (element_of t)) ≡ false
      → Makes s t (zeros c.classes at t)
  other_default t z n k = zeros_make t (z.whole (z.complete n)) k

  default_of : (t : Typ) (g : Form) → IsObjectTyp c lambda t → form_in (element_of t) ≡ g → On (Makes s t) (default_in c t at g)
  default_of t (class n) z e = class_default n t z e
  default_of t (tx_ex u) z e = tt
  default_of t (closure n) z e = tt
  default_of t (ref u) z e = tt
  default_of t void z e = tt
  default_of t (func g) z e = tt
  default_of t (int k) z e = other_default t z (ap is_named_class e) (ap is_closure e)
  default_of t (enum n x) z e = other_default t z (ap is_named_class e) (ap is_closure e)
  default_of t null z e = other_default t z (ap is_named_class e) (ap is_closure e)
  default_of t (ptr u) z e = other_default t z (ap is_named_class e) (ap is_closure e)
  default_of t (array u n) z e = other_default t z (ap is_named_class e) (ap is_closure e)

pub nothing_builds : NothingBuilds
nothing_builds s c lambda t at i m z = default_of s c lambda at i m t (form_in (element_of t)) z refl
