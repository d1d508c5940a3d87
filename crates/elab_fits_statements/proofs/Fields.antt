-- The scalars of an exception are nodes of scalars.
use Rattle.std.proofs.Common.{refl, ℕ, zero, suc, ◌+◌, false, List, [], ◌∷◌, length, Option, Some, None}
use Rattle.elab_rules.specs.tx_ints.declared.kinds.IntKind.{IntKind}
use Rattle.elab_rules.specs.cpp_types.Typ.{Typ, typ, Form, void, array, class, closure, tx_ex}
use Rattle.elab_rules.specs.cpp_types.Class.{Class}
use Rattle.elab_rules.specs.cpp_types.declared.classes.At.{At}
use Rattle.elab_rules.specs.cpp_types.declared.ranks.Cat.TheVariants.{Prvalue}
use Rattle.elab_rules.specs.cpp_tree.declared.kinds.TKind.TheVariants as forms
use Rattle.elab_rules.specs.cpp_tree.declared.roles.Role.TheVariants.{Scalar}
use Rattle.elab_rules.specs.cpp_tree.Trees.{node, Trees, none}
use Rattle.elab_rules.specs.cpp_tree.Notation.{plain}
use Rattle.elab_rules.specs.cpp_tree.Typing.{kind_in}
use Rattle.elab_rules.specs.cpp_tree.Rows.{Setting}
use Rattle.elab_rules.specs.Objects.{Part, parts_of, size_of, fields_of_parts, scalar_field, repeated, fields_in, fields_form, class_fields, fields}
use Rattle.elab_fits_statements.specs.Anywhere.{Serves, AllServe}
use Rattle.elab_fits_statements.proofs.Items.{all_followed}

module _ (s : Setting) where
  abbrev AreScalars : Trees → Type 0
  AreScalars ts = AllServe s false false Scalar ts

  field_serves : (offset : ℕ) (k : IntKind) (at : At) → Serves s false false Scalar (node (forms.Field offset k) (plain void) Prvalue at none)
  field_serves offset k at = record { fits = λ p a. refl; kid = refl }

  scalar_serves : (at : At) (offset : ℕ) (o : Option IntKind) → AreScalars (scalar_field at offset o)
  scalar_serves at offset (Some k) = (field_serves offset k at, tt)
  scalar_serves at offset None = tt

  repeated_serve : (each : ℕ → Trees) (offset stride n : ℕ) → ((o : ℕ) → AreScalars (each o)) → AreScalars (repeated each offset stride n)
  repeated_serve each offset stride zero h = tt
  repeated_serve each offset stride (suc n) h = all_followed s false false Scalar (each offset) (repeated each (offset + stride) stride n) (h offset)
      (repeated_serve each (offset + stride) stride n h)

  parts_serve : (each : Part → Trees) (ps : List Part) → ((p : Part) → AreScalars (each p)) → AreScalars (fields_of_parts each ps)
  parts_serve each [] h = tt
  parts_serve each (p ∷ ps) h = all_followed s false false Scalar (each p) (fields_of_parts each ps) (h p) (parts_serve each ps h)

  mutual
    typ_serves : (each : ℕ → ℕ → Trees) (classes : List Class) (at : At) (offset : ℕ) (t : Typ) → ((n o : ℕ) → AreScalars (each n o))
        → AreScalars (fields_in each classes at offset t)
    typ_serves each classes at offset (typ f c v) h = form_serves each classes at offset f h

    form_serves : (each : ℕ → ℕ → Trees) (classes : List Class) (at : At) (offset : ℕ) (f : Form) → ((n o : ℕ) → AreScalars (each n o))
        → AreScalars (fields_form each classes at offset f)
    form_serves each classes at offset (array t n) h = repeated_serve (λ o. fields_in each classes at o t) offset (size_of classes t) n
        (λ o. typ_serves each classes at o t h)
    form_serves each classes at offset (class n) h = h n offset
    form_serves each classes at offset (closure n) h = h n offset
    form_serves each classes at offset (tx_ex t) h = typ_serves each classes at offset t h
    form_serves each classes at offset f h = scalar_serves at offset (kind_in f)

  class_serves : (depth : ℕ) (classes : List Class) (at : At) (n offset : ℕ) → AreScalars (class_fields depth classes at n offset)
  class_serves zero classes at n offset = tt
  class_serves (suc depth) classes at n offset = parts_serve (λ (p : Part). fields_in (class_fields depth classes at) classes at (offset + p.offset) p.typ)
      (parts_of classes n)
      (λ p. typ_serves (class_fields depth classes at) classes at (offset + p.offset) p.typ (λ m o. class_serves depth classes at m o))

pub fields_serve : (s : Setting) (classes : List Class) (at : At) (t : Typ) → AllServe s false false Scalar (fields classes at t)
fields_serve s classes at t = typ_serves s (class_fields (length classes) classes at) classes at 0 t (λ n o. class_serves s (length classes) classes at n o)
