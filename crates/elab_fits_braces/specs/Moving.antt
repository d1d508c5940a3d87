-- Initialisers of members that are made once, and stand in the functions that build the objects (C++14 9.2 p5, 12.6.2 p9).
use Rattle.std.specs.Prelude.{◌≡◌, ℕ, zero, ◌<◌, Bool, true, false, not, ◌&&◌, ◌||◌, List, ◌∷◌, Some, is_some, slice_get}
use Rattle.elab_rules.specs.cpp_types.Typ.{Typ, ptr, class}
use Rattle.elab_rules.specs.cpp_types.Class.{InOrder}
use Rattle.elab_rules.specs.cpp_types.Equal.{typ_eq}
use Rattle.elab_rules.specs.cpp_types.declared.classes.At.{At}
use Rattle.elab_rules.specs.cpp_types.declared.ranks.Cat.TheVariants.{Lvalue, Prvalue}
use Rattle.elab_rules.specs.cpp_tree.declared.kinds.TKind.{TKind}
use Rattle.elab_rules.specs.cpp_tree.declared.kinds.TKind.TheVariants.{Local, Load, Retype, Materialize, Init, Defer, Switch, Return, Handler}
use Rattle.elab_rules.specs.cpp_tree.declared.program.FuncKind.TheVariants.{Constructor}
use Rattle.elab_rules.specs.cpp_tree.declared.roles.Role.{Role}
use Rattle.elab_rules.specs.cpp_tree.declared.roles.Role.TheVariants.{Value}
use Rattle.elab_rules.specs.cpp_tree.Trees.{Tree, node, Trees, none, more, kind_of, typ_in, cat_of}
use Rattle.elab_rules.specs.cpp_tree.Notation.{plain}
use Rattle.elab_rules.specs.cpp_tree.Typing.{is_class_typ, unqualified, qualified}
use Rattle.elab_rules.specs.cpp_tree.Parts.{size_in}
use Rattle.elab_rules.specs.cpp_tree.Roles.{is_full}
use Rattle.elab_rules.specs.cpp_tree.Units.{Func}
use Rattle.elab_rules.specs.cpp_tree.Rows.{Setting, result_of}
use Rattle.elab_rules.specs.elab_ctx.Ctx.{Work, Default}
use Rattle.elab_rules.specs.Names.{this_pointer}
use Rattle.elab_rules.specs.Members.{own_this}
use Rattle.elab_rules.specs.Braces.{ThisAt, this_of, moved_place, relocated, as_part, default_whole, default_made, requalified}
use Rattle.elab_rules.specs.Statements.{holds_temporary}
use Rattle.elab_fits.specs.Standing.{FitsAs, BuildsOne, Reaches}
use Rattle.elab_fits.specs.Objects.{is_ready}
use Rattle.elab_fits_braces.specs.Qualified.{is_pliable}

-- a node that says nothing of its function
abbrev pub is_free : TKind → Bool
is_free (Local place) = false
is_free (Materialize zero argument) = false
is_free Init = false
is_free Defer = false
is_free Switch = false
is_free Return = false
is_free (Handler place) = false
is_free kind = true

-- of the items of the frame, the tree has only the pointer `this`, which is read, and objects behind it that it makes itself
abbrev mutual
  pub is_movable : (this : Typ) → Tree → Bool
  is_movable this (node (Load kind false) t Prvalue at (more (node (Local zero) u cat p kids) none)) = typ_eq this t
  is_movable this (node kind t cat at kids) = is_free kind && are_movable this kids

  pub are_movable : (this : Typ) → Trees → Bool
  are_movable this none = true
  are_movable this (more t ts) = is_movable this t && are_movable this ts

abbrev pub is_read : TKind → Bool
is_read (Load kind volatile) = true
is_read Retype = true
is_read kind = false

-- what is the pointer `this` of a type, read or made of another address
pub record IsThis (s : Setting) (t : Typ) (this : ThisAt) : Type 0 where
  pub fits : (at : At) → FitsAs s Value (this at)
  pub typed : (at : At) → typ_in (this at) ≡ t
  pub category : (at : At) → cat_of (this at) ≡ Prvalue
  pub read : (at : At) → is_read (kind_of (this at)) ≡ true

-- items of a frame but for its first are in another frame, further on
abbrev pub IsMoved : ℕ → List Typ → List Typ → Type 0
IsMoved by from to = (place : ℕ) (t : Typ) → 0 < place → slice_get from place ≡ Some t → slice_get to (moved_place by place) ≡ Some t

-- a tree that fits in one function fits in another, where it is moved
abbrev pub MovedFit : Type 0
MovedFit = (s : Setting) (f : Func) (by : ℕ) (t : Typ) (this : ThisAt) (role : Role) (e : Tree) → is_class_typ (result_of s.function) ≡ false
    → IsMoved by s.function.frame f.frame → IsThis (record s { function = f }) t this → is_movable t e ≡ true → FitsAs s role e
    → FitsAs (record s { function = f }) role (relocated by this e)

-- The initialiser of a member

abbrev pub this_typ : Default → Typ
this_typ d = plain (ptr (plain (class d.class)))

-- the function in which it is made: as a constructor it has no result, and its first item is `this`
abbrev pub alone : Setting → Default → Setting
alone s d = record s { function = record s.function { kind = Constructor; frame = this_typ d ∷ d.frame } }

-- it may stand outside of a full-expression: it is one, or has no temporary with a destructor
abbrev pub is_outermost : Tree → Bool
is_outermost e = is_full (kind_of e) || not (holds_temporary e)

-- it builds the member, as a whole and as a part of one, which can have the qualifiers of the object
pub record DefaultFits (s : Setting) (t : Typ) (d : Default) : Type 0 where
  pub one : BuildsOne (alone s d) t d.init
  pub part : BuildsOne (alone s d) t (as_part d.init)
  pub movable : is_movable (this_typ d) d.init ≡ true
  pub pliable : is_pliable t (as_part d.init) ≡ true
  pub outermost : is_outermost d.init ≡ true

-- it does so in the function at hand, where its temporaries have their places
abbrev pub DefaultsBuild : Type 0
DefaultsBuild = (s : Setting) (w : Work) (t : Typ) (this : ThisAt) (d : Default) → IsThis s (this_typ d) this → DefaultFits s t d
    → Reaches s (default_whole w this d).work → BuildsOne s t (default_whole w this d).tree × BuildsOne s t (default_made w this d).tree

-- and as a part of an object with more qualifiers, which has no references
abbrev pub DefaultsQualified : Type 0
DefaultsQualified = (s : Setting) (q v : Bool) (w : Work) (t : Typ) (this : ThisAt) (d : Default) → InOrder s.classes → is_some (size_in s.classes t) ≡ true
    → is_ready s.classes false t ≡ true → IsThis s (this_typ d) this → DefaultFits s t d → Reaches s (default_whole w this d).work
    → BuildsOne s (qualified q v t) (requalified q v (default_made w this d).tree)

-- The pointer `this` where an object is built

-- the address of an object that braces initialise
abbrev pub ObjectsAreThis : Type 0
ObjectsAreThis = (s : Setting) (t : Typ) (object : Tree) → FitsAs s Value object → cat_of object ≡ Lvalue
    → IsThis s (plain (ptr (unqualified t))) (this_of t object)

-- the first item of a constructor's frame
abbrev pub OwnIsThis : Type 0
OwnIsThis = (s : Setting) (n : ℕ) → slice_get s.function.frame 0 ≡ Some (plain (ptr (plain (class n))))
    → IsThis s (plain (ptr (plain (class n)))) (λ (at : At). this_pointer at (own_this n))
