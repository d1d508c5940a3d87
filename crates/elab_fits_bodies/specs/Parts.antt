-- The parts of the object at hand, as constructors and destructors have them.
use Rattle.std.specs.Prelude.{◌≡◌, ℕ, true, false, nat_lt, List, length, Option, Some, slice_get}
use Rattle.elab_rules.specs.tx_ints.declared.kinds.IntKind.TheVariants.{ULong}
use Rattle.elab_rules.specs.cpp_types.Typ.{Typ, ptr, class}
use Rattle.elab_rules.specs.cpp_types.Class.{Class, Member}
use Rattle.elab_rules.specs.cpp_types.declared.classes.At.{At}
use Rattle.elab_rules.specs.cpp_types.declared.ranks.Cat.TheVariants.{Lvalue}
use Rattle.elab_rules.specs.cpp_tree.declared.roles.Role.TheVariants.{Value, BlockItem}
use Rattle.elab_rules.specs.cpp_tree.Trees.{Tree, Trees, typ_in, cat_of}
use Rattle.elab_rules.specs.cpp_tree.Notation.{plain}
use Rattle.elab_rules.specs.cpp_tree.Typing.{is_word_of}
use Rattle.elab_rules.specs.cpp_tree.Rows.{Setting, is_constructor, is_destructor}
use Rattle.elab_rules.specs.elab_ctx.Ctx.{Ctx}
use Rattle.elab_rules.specs.Calls.{pointer_offset, base_of_class}
use Rattle.elab_rules.specs.Names.{members_in, offset_at}
use Rattle.elab_rules.specs.Objects.{destroys}
use Rattle.elab_rules.specs.Members.{own_part, own_base, part_init, pointer_stored, base_deferred, members_deferred, constructor_tree, destructor_tree}
use Rattle.elab_fits.specs.Standing.{IsSetting}
use Rattle.elab_fits.specs.Objects.{DestroysOne, IsElementType, HasSpecials}
use Rattle.elab_fits_statements.specs.Anywhere.{FitsAnywhere, BuildsAnywhere, Serves, AllServe}
use Rattle.elab_fits_statements.specs.Variables.{HasItem}
use Rattle.elab_fits_bodies.specs.Functions.{IsBody}

-- an lvalue of a type
pub record IsObjectOf (s : Setting) (t : Typ) (e : Tree) : Type 0 where
  pub fits : FitsAnywhere s Value e
  pub typed : typ_in e ≡ t
  pub category : cat_of e ≡ Lvalue

-- the object at hand is one of this class: its address is the first item of the frame
abbrev pub HasThis : Setting → ℕ → Type 0
HasThis s n = HasItem s 0 (plain (ptr (plain (class n))))

abbrev pub OwnPartsStand : Type 0
OwnPartsStand = (s : Setting) (classes : List Class) (n : ℕ) (at : At) (offset : ℕ) (t : Typ) → HasThis s n → is_word_of ULong offset ≡ true
    → IsObjectOf s t (own_part classes n at offset t)

abbrev pub OwnBasesStand : Type 0
OwnBasesStand = (s : Setting) (n : ℕ) (at : At) (b : ℕ) → HasThis s n → IsObjectOf s (plain (class b)) (own_base n at b)

-- a part with what builds and destroys it
abbrev pub PartsServe : Type 0
PartsServe = (s : Setting) (c : Ctx) (at p : At) (t : Typ) (object e : Tree) → IsObjectOf s t object → BuildsAnywhere s t e → DestroysOne s t (destroys c at t)
    → Serves s false false BlockItem (part_init c at p t object e)

-- the pointer of the class, where objects have one
abbrev pub PointersServe : Type 0
PointersServe = (s : Setting) (at : At) (n : ℕ) (o : Option ℕ) → HasThis s n → nat_lt n (length s.classes) ≡ true
    → ((offset : ℕ) → o ≡ Some offset → is_word_of ULong offset ≡ true) → AllServe s false false BlockItem (pointer_stored at n o)

-- the class of the object at hand: its parts lie at words, and each has a type of which objects can be made and destroyed
pub record HasParts (s : Setting) (c : Ctx) (n : ℕ) : Type 0 where
  pub this : HasThis s n
  pub number : nat_lt n (length s.classes) ≡ true
  pub pointer : (o : ℕ) → pointer_offset c.classes n ≡ Some o → is_word_of ULong o ≡ true
  pub offsets : (i : ℕ) → is_word_of ULong (offset_at c.classes n i) ≡ true
  pub base : (b : ℕ) → base_of_class (slice_get c.classes n) ≡ Some b → IsElementType c.classes true (plain (class b))
  pub members : (i : ℕ) (m : Member) → slice_get (members_in (slice_get c.classes n)) i ≡ Some m → IsElementType c.classes true m.typ

-- Bodies

-- the body of a constructor: what initialises the parts, and a block
abbrev pub ConstructorsFit : Type 0
ConstructorsFit = (s : Setting) (at : At) (parts stmts : Trees) → is_constructor s.function.kind ≡ true → AllServe s false false BlockItem parts
    → AllServe s false false BlockItem stmts → IsBody s (constructor_tree at parts stmts)

-- what a destructor puts off, for its base and its members
abbrev pub BasesDeferred : Type 0
BasesDeferred = (s : Setting) (c : Ctx) (at : At) (n : ℕ) → IsSetting s c → HasSpecials c → HasParts s c n → is_destructor s.function.kind ≡ true
    → AllServe s false false BlockItem (base_deferred c at n (base_of_class (slice_get c.classes n)))

abbrev pub MembersDeferred : Type 0
MembersDeferred = (s : Setting) (c : Ctx) (at : At) (n : ℕ) → IsSetting s c → HasSpecials c → HasParts s c n → is_destructor s.function.kind ≡ true
    → AllServe s false false BlockItem (members_deferred c at n 0 (members_in (slice_get c.classes n)))

-- the body of a destructor
abbrev pub DestructorsFit : Type 0
DestructorsFit = (s : Setting) (c : Ctx) (at p : At) (n : ℕ) (stmts : Trees) → IsSetting s c → HasSpecials c → HasParts s c n
    → is_destructor s.function.kind ≡ true → AllServe s false false BlockItem stmts → IsBody s (destructor_tree c at p n stmts)
