-- The parts of a class that has a name and its brace, and the types of objects.
use Rattle.std.specs.Prelude.{◌≡◌, ℕ, true, List, Some, is_some, slice_get}
use Rattle.elab_rules.specs.tx_ints.declared.kinds.IntKind.TheVariants.{ULong}
use Rattle.elab_rules.specs.cpp_types.Class.{Class, Member, completion_of}
use Rattle.elab_rules.specs.cpp_types.Typ.{Typ, class}
use Rattle.elab_rules.specs.cpp_tree.Notation.{plain}
use Rattle.elab_rules.specs.cpp_tree.Parts.{size_in, holds_complete}
use Rattle.elab_rules.specs.cpp_tree.Rows.{Setting}
use Rattle.elab_rules.specs.cpp_tree.Typing.{form_in, is_word_of}
use Rattle.elab_rules.specs.elab_ctx.Ctx.{Ctx, Work}
use Rattle.elab_rules.specs.Calls.{pointer_offset, base_of_class}
use Rattle.elab_fits.specs.Objects.{IsElementType}
use Rattle.elab_fits_objects.specs.Contexts.{IsObjectTyp}
use Rattle.elab_fits_forms.specs.Context.{Holds}
use Rattle.elab_fits_forms.specs.Types as forms
use Rattle.elab_fits_bodies.specs.Built.{IsMember}
use Rattle.elab_fits_bodies.specs.Copied.{IsCopied}
use Rattle.elab_sound_types.specs.Types.{Use, is_sound, is_class, object}
use Rattle.elab_sound_types.specs.Contexts.{HasSoundTypes}
use Rattle.elab_contexts.specs.Holding.{UnitHolds}

-- a class that has a name and its brace
pub record IsHome (classes : List Class) (n : ℕ) : Type 0 where
  pub complete : is_some (completion_of classes n) ≡ true
  pub named : is_class classes n ≡ true

-- the parts of a class lie at words, and each has a type of which objects can be made, copied and destroyed
pub record ArePartsOf (c : Ctx) (n : ℕ) : Type 0 where
  pub pointer : (o : ℕ) → pointer_offset c.classes n ≡ Some o → is_word_of ULong o ≡ true
  pub base : (b : ℕ) → base_of_class (slice_get c.classes n) ≡ Some b → IsElementType c.classes true (plain (class b))
  pub based : (b : ℕ) → base_of_class (slice_get c.classes n) ≡ Some b → is_sound c.classes object (plain (class b)) ≡ true
  pub members : (i : ℕ) (m : Member) → IsMember c n i m → IsCopied c (forms.is_lambda c.classes) m.typ
  pub typed : (i : ℕ) (m : Member) → IsMember c n i m → is_sound c.classes object m.typ ≡ true

-- Laws

abbrev pub PartsHold : Type 0
PartsHold = (c : Ctx) (w : Work) (n : ℕ) → UnitHolds c → HasSoundTypes c w → IsHome c.classes n → ArePartsOf c n

-- the class pointer of any complete class stands at a word
abbrev pub PointersAreWords : Type 0
PointersAreWords = (c : Ctx) (w : Work) (n : ℕ) → UnitHolds c → HasSoundTypes c w → is_some (completion_of c.classes n) ≡ true → (o : ℕ)
    → pointer_offset c.classes n ≡ Some o → is_word_of ULong o ≡ true

-- of the type of an object that has a name or is an element objects can be made, where it has a size; an array may be too large for one
abbrev pub ObjectsAreMade : Type 0
ObjectsAreMade = (s : Setting) (c : Ctx) (w : Work) (t : Typ) → Holds s c w → is_sound c.classes object t ≡ true
    → (holds_complete c.classes (form_in t) ≡ true → is_some (size_in c.classes t) ≡ true) → IsObjectTyp c (forms.is_lambda c.classes) t

-- types are such as expressions ask
abbrev pub TypesAreSound : Type 0
TypesAreSound = (classes : List Class) (way : Use) (t : Typ) → is_sound classes way t ≡ true → forms.is_sound classes t ≡ true
