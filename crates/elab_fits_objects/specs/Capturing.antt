-- What makes a lambda's object fits where it comes to stand (C++14 5.1.2).
use Rattle.std.specs.Prelude.{◌≡◌, ℕ, Bool, true, false, ◌||◌, is_some}
use Rattle.elab_rules.specs.cpp_types.Typ.{Typ, ref}
use Rattle.elab_rules.specs.cpp_types.Conversion.{is_object_form, decayed}
use Rattle.elab_rules.specs.cpp_types.declared.ranks.Cat.TheVariants.{Lvalue}
use Rattle.elab_rules.specs.cpp_tree.Trees.{Tree, typ_in, cat_of}
use Rattle.elab_rules.specs.cpp_tree.Typing.{form_in, same_shape}
use Rattle.elab_rules.specs.cpp_tree.Parts.{size_in}
use Rattle.elab_rules.specs.cpp_tree.Rows.{Setting}
use Rattle.elab_rules.specs.elab_ctx.Ctx.{Ctx, Work, Capture}
use Rattle.elab_rules.specs.elab_ctx.Steps.{Made}
use Rattle.elab_rules.specs.Objects.{is_array}
use Rattle.elab_rules.specs.Expressions.{captured_value}
use Rattle.elab_fits.specs.Standing.{BuildsOne, IsSetting, Reaches, On}
use Rattle.elab_fits.specs.Scalars.{is_scalar}
use Rattle.elab_fits_objects.specs.Contexts.{refers, IsObjectTyp, IsCapture, HasMakers}
use Rattle.elab_fits_objects.specs.Making.{IsSourceTree}

-- the type of a capture: a scalar, a reference, a class or an array, which has a size
pub record IsCaptureTyp (c : Ctx) (lambda : ℕ → Bool) (t : Typ) : Type 0 where
  pub formed : (is_scalar (form_in t) || refers (form_in t) || is_object_form (form_in t) || is_array t) ≡ true
  pub object : is_object_form (form_in t) ≡ true → IsObjectTyp c lambda t
  pub sized : is_some (size_in c.classes t) ≡ true
  pub capture : IsCapture c t

-- an lvalue of exactly this type
pub record IsLvalueOf (t : Typ) (e : Tree) : Type 0 where
  pub typed : typ_in e ≡ t
  pub category : cat_of e ≡ Lvalue

-- an array that is copied
pub record IsArrayLike (t : Typ) (e : Tree) : Type 0 where
  pub shape : same_shape t (typ_in e) ≡ true
  pub category : cat_of e ≡ Lvalue

-- what is captured by a capture of a type: what its reference refers to, an array of its shape, or a value of its form
pub record IsCaptured (s : Setting) (c : Ctx) (lambda : ℕ → Bool) (t : Typ) (e : Tree) : Type 0 where
  pub source : IsSourceTree s c lambda e
  pub referred : (u : Typ) → form_in t ≡ ref u → IsLvalueOf u e
  pub array : is_array t ≡ true → IsArrayLike t e
  pub scalar : is_scalar (form_in t) ≡ true → decayed (typ_in e) ≡ form_in t

abbrev pub CapturesBuild : Type 0
CapturesBuild = (s : Setting) (c : Ctx) (lambda : ℕ → Bool) (w : Work) (x : Capture) (t : Typ) (e : Tree) → IsSetting s c → HasMakers c lambda
    → IsCaptureTyp c lambda t → IsCaptured s c lambda t e
    → On (λ (m : Made). Reaches s m.work → BuildsOne s t m.tree) (captured_value c w x t (record { tree = e; at = x.at; zero = false }))
