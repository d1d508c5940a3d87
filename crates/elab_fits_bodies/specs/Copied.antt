-- The bodies of implicit copies (C++14 12.8 p15): each part from that of the object that is copied.
use Rattle.std.specs.Prelude.{◌≡◌, ℕ, Bool, ◌||◌, false, true, Some, slice_get}
use Rattle.elab_rules.specs.cpp_types.Typ.{Typ, typ, Form, ref, class}
use Rattle.elab_rules.specs.cpp_types.Class.{Member}
use Rattle.elab_rules.specs.cpp_types.declared.classes.At.{At}
use Rattle.elab_rules.specs.cpp_tree.Notation.{plain}
use Rattle.elab_rules.specs.cpp_tree.Trees.{Tree}
use Rattle.elab_rules.specs.cpp_tree.Typing.{form_in, is_class_typ, qualified}
use Rattle.elab_rules.specs.cpp_tree.Rows.{Setting}
use Rattle.elab_rules.specs.elab_ctx.Ctx.{Ctx}
use Rattle.elab_rules.specs.elab_ctx.Steps.{Made}
use Rattle.elab_rules.specs.Calls.{base_of_class}
use Rattle.elab_rules.specs.Objects.{is_array}
use Rattle.elab_rules.specs.Statements.{State, holds_temporary}
use Rattle.elab_rules.specs.Implicit.{source_object, part_copied, parts_copied}
use Rattle.elab_fits.specs.Standing.{IsSetting, Reaches, On}
use Rattle.elab_fits.specs.Scalars.{is_scalar}
use Rattle.elab_fits.specs.Objects.{IsElementType}
use Rattle.elab_fits_objects.specs.Contexts.{IsObjectTyp, HasMakers}
use Rattle.elab_fits_statements.specs.Anywhere.{BuildsAnywhere}
use Rattle.elab_fits_statements.specs.Variables.{HasItem}
use Rattle.elab_fits_bodies.specs.Parts.{IsObjectOf, HasParts}
use Rattle.elab_fits_bodies.specs.Built.{IsMember, PartsMade}

-- the object that is copied, to which the second word of the call refers
abbrev pub SourcesStand : Type 0
SourcesStand = (s : Setting) (n : ℕ) (f : Form) (c v d w : Bool) (at : At) → HasItem s 1 (typ (ref (typ f c v)) d w)
    → IsObjectOf s (typ f c v) (source_object n (typ (ref (typ f c v)) d w) at)

-- the type of a part that is copied: an array, a class or a scalar, of which objects can be made and destroyed
pub record IsCopied (c : Ctx) (lambda : ℕ → Bool) (t : Typ) : Type 0 where
  pub formed : (is_array t || (is_class_typ t || is_scalar (form_in t))) ≡ true
  pub element : IsElementType c.classes true t
  pub object : is_class_typ t ≡ true → IsObjectTyp c lambda t

-- what was made before has its place, and the copy builds the part
pub record CopyMade (s : Setting) (st : State) (t : Typ) (m : Made) : Type 0 where
  pub before : Reaches s m.work → Reaches s st.work
  pub builds : Reaches s m.work → BuildsAnywhere s t m.tree

-- a part is copied from the same part of an object that may be `const`
abbrev pub CopiesOfPartsBuild : Type 0
CopiesOfPartsBuild = (s : Setting) (st : State) (lambda : ℕ → Bool) (at : At) (t : Typ) (q : Bool) (e : Tree) → IsSetting s st.ctx → HasMakers st.ctx lambda
    → IsCopied st.ctx lambda t → IsObjectOf s (qualified q false t) e → holds_temporary e ≡ false → On (CopyMade s st t) (part_copied st at t e)

-- the parts of an object that is copied: the types of each
pub record CopiesParts (c : Ctx) (lambda : ℕ → Bool) (n : ℕ) : Type 0 where
  pub base : (b : ℕ) → base_of_class (slice_get c.classes n) ≡ Some b → IsObjectTyp c lambda (plain (class b))
  pub members : (i : ℕ) (m : Member) → IsMember c n i m → IsCopied c lambda m.typ

-- the base, the pointer of the class and the members of an implicit copy, from an object of the class that may be `const`
abbrev pub PartsCopied : Type 0
PartsCopied = (s : Setting) (st : State) (lambda : ℕ → Bool) (at : At) (n : ℕ) (source : Tree) (q : Bool) → IsSetting s st.ctx → HasMakers st.ctx lambda
    → HasParts s st.ctx n → CopiesParts st.ctx lambda n → IsObjectOf s (typ (class n) q false) source → holds_temporary source ≡ false
    → On (PartsMade s st) (parts_copied st at n source q)
