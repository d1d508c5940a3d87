-- The parts of the object at hand.
use Rattle.std.proofs.Common.{◌≡◌, refl, ap, ◌∙◌, true, false, [], ◌∷◌, ℕ, List, length, nat_lt, Option, Some, None}
use Rattle.std.specs.Prelude.{cond}
use Rattle.elab_rules.specs.tx_ints.declared.kinds.BinOp.TheVariants.{Add}
use Rattle.elab_rules.specs.tx_ints.declared.kinds.IntKind.TheVariants.{ULong}
use Rattle.elab_rules.specs.cpp_types.Typ.{Typ, void, int, ptr, class}
use Rattle.elab_rules.specs.cpp_types.Class.{Class}
use Rattle.elab_rules.specs.cpp_types.Conversion.{is_lvalue}
use Rattle.elab_rules.specs.cpp_types.declared.classes.At.{At}
use Rattle.elab_rules.specs.cpp_types.declared.ranks.Cat.{Cat}
use Rattle.elab_rules.specs.cpp_types.declared.ranks.Cat.TheVariants.{Lvalue, Prvalue}
use Rattle.elab_rules.specs.cpp_tree.declared.kinds.TKind.TheVariants as forms
use Rattle.elab_rules.specs.cpp_tree.declared.roles.Role.TheVariants.{Value, Initialiser, Zero, BlockItem, Destruction}
use Rattle.elab_rules.specs.cpp_tree.Trees.{Tree, node, Trees, none, more, one, two}
use Rattle.elab_rules.specs.cpp_tree.Notation.{plain}
use Rattle.elab_rules.specs.cpp_tree.Typing.{head_of, is_prvalue, builds, is_word_of}
use Rattle.elab_rules.specs.cpp_tree.Roles.{only, and_any}
use Rattle.elab_rules.specs.cpp_tree.Rows.{Setting, are_destructions}
use Rattle.elab_rules.specs.cpp_tree.WellFormed.{fits, heads_of}
use Rattle.elab_rules.specs.elab_ctx.Ctx.{Ctx}
use Rattle.elab_rules.specs.Objects.{destroys}
use Rattle.elab_rules.specs.Names.{this_pointer}
use Rattle.elab_rules.specs.Values.{number, part_at, size_type}
use Rattle.elab_rules.specs.Members.{own_this, own_part, own_base, part_init, pointer_stored}
use Rattle.elab_fits.specs.Objects.{DestroysOne}
use Rattle.elab_fits.proofs.Equal.{typ_refl}
use Rattle.elab_fits.proofs.Nodes.{both, or_left, head_typ, head_cat, node_fits, two_values, initial_kid}
use Rattle.elab_fits_statements.specs.Anywhere.{FitsAnywhere, BuildsAnywhere, Serves, AllServe}
use Rattle.elab_fits_statements.proofs.Forms.{value_kid, value_serves, as_item, all_kids, from_two, two_enough}
use Rattle.elab_fits_statements.proofs.Variables.{local_fits, destructions_serve}
use Rattle.elab_fits_bodies.specs.Parts.{IsObjectOf, HasThis}

-- Parts as lvalues

pub number_fits : (s : Setting) (offset : ℕ) (at : At) → is_word_of ULong offset ≡ true → FitsAnywhere s Value (number ULong offset at)
number_fits s offset at h = λ p. node_fits s p Value (forms.Literal offset) (plain (int ULong)) Prvalue at none (only []) refl refl refl refl (both refl h) refl refl refl refl

this_fits : (s : Setting) (n : ℕ) (at : At) → HasThis s n → FitsAnywhere s Value (this_pointer at (own_this n))
this_fits s n at h = λ p. node_fits s p Value (forms.Load ULong false) (plain (ptr (plain (class n)))) Prvalue at
    (one (node (forms.Local 0) (plain (ptr (plain (class n)))) Lvalue at none)) (only (Value ∷ [])) refl refl refl refl
    (or_left _ (both refl (both (both refl (typ_refl (plain (ptr (plain (class n)))))) (both refl refl))))
    refl refl refl (both (both refl (local_fits s 0 (plain (ptr (plain (class n)))) at h p)) refl)

pub part_stands : (s : Setting) (classes : List Class) (n : ℕ) (at : At) (offset : ℕ) (t : Typ) → HasThis s n → is_word_of ULong offset ≡ true
    → IsObjectOf s t (own_part classes n at offset t)
part_stands s classes n at offset t h w = record {
  fits = λ p. node_fits s p Value (forms.Binary Add ULong) t Lvalue at (two (this_pointer at (own_this n)) (number ULong offset at)) (only (Value ∷ Value ∷ []))
      refl refl refl refl refl refl refl refl
      (two_values s p (this_pointer at (own_this n)) (number ULong offset at) (this_fits s n at h p) (number_fits s offset at w p));
  typed = refl;
  category = refl;
}

pub base_stands : (s : Setting) (n : ℕ) (at : At) (b : ℕ) → HasThis s n → IsObjectOf s (plain (class b)) (own_base n at b)
base_stands s n at b h = record {
  fits = λ p. node_fits s p Value (forms.Load ULong false) (plain (class b)) Lvalue at
      (one (node (forms.Local 0) (plain (ptr (plain (class n)))) Lvalue at none)) (only (Value ∷ [])) refl refl refl refl refl
      refl refl refl (both (both refl (local_fits s 0 (plain (ptr (plain (class n)))) at h p)) refl);
  typed = refl;
  category = refl;
}

-- Initialised parts

pub part_serves : (s : Setting) (c : Ctx) (at p : At) (t : Typ) (object e : Tree) → IsObjectOf s t object → BuildsAnywhere s t e
    → DestroysOne s t (destroys c at t) → Serves s false false BlockItem (part_init c at p t object e)
part_serves s c at p t object e o b d = record {
  fits = λ q a. node_fits s q BlockItem forms.Init (plain void) Prvalue p (more object (more e ds)) (and_any (Value ∷ Initialiser ∷ []) Destruction) refl refl
      refl refl (or_left _ (both (both (ap is_lvalue (head_cat object ∙ o.category))
      (ap (λ (u : Typ). builds u (head_of e)) (head_typ object ∙ o.typed) ∙ b.builds))
      (ap (λ (u : Typ). are_destructions s u (heads_of ds)) (head_typ object ∙ o.typed) ∙ d.right)))
      (ap (λ (k : Cat). and_any (Value ∷ cond (is_prvalue k) Zero Initialiser ∷ []) Destruction) (head_cat object ∙ o.category)) (two_enough ds) refl
      (both (both (value_kid s q object (o.fits q)) (o.fits q)) (both (both (initial_kid s q e (b.fits q)) (b.fits q))
      (all_kids s false false q (and_any (Value ∷ Initialiser ∷ []) Destruction) Destruction 2 ds a (from_two Value Initialiser Destruction) refl
      (destructions_serve s false false ds d.fit))));
  kid = refl;
}
  where
    ds : Trees
    ds = destroys c at t

-- The pointer of the class

table_fits : (s : Setting) (n : ℕ) (at : At) → nat_lt n (length s.classes) ≡ true → FitsAnywhere s Value (node (forms.ClassTable n) size_type Prvalue at none)
table_fits s n at h = λ p. node_fits s p Value (forms.ClassTable n) size_type Prvalue at none (only []) refl refl refl refl (both refl h) refl refl refl refl

pub pointer_serves : (s : Setting) (at : At) (n : ℕ) (o : Option ℕ) → HasThis s n → nat_lt n (length s.classes) ≡ true
    → ((offset : ℕ) → o ≡ Some offset → is_word_of ULong offset ≡ true) → AllServe s false false BlockItem (pointer_stored at n o)
pointer_serves s at n None h l w = tt
pointer_serves s at n (Some offset) h l w = (as_item s false false e (value_serves s false false e stored).0, tt)
  where
    object : Tree
    object = part_at offset size_type at (this_pointer at (own_this n))

    table : Tree
    table = node (forms.ClassTable n) size_type Prvalue at none

    e : Tree
    e = node (forms.Assign ULong false) size_type Lvalue at (two object table)

    stored : FitsAnywhere s Value e
    stored = λ p. node_fits s p Value (forms.Assign ULong false) size_type Lvalue at (two object table) (only (Value ∷ Value ∷ [])) refl refl refl refl refl
        refl refl refl (two_values s p object table ((part_stands s [] n at offset size_type h (w offset refl)).fits p) (table_fits s n at l p))
