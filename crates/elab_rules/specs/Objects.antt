-- Objects part by part: zeros, copies and destructions (C++14 8.5, 12.4, 12.8).
use Rattle.std.specs.Prelude.{ℕ, zero, suc, Bool, true, false, ◌||◌, ◌+◌, ◌*◌, List, [], ◌∷◌, ◌++◌, Option, Some, None, slice_get, unwrap_or}
use Rattle.std.specs.Prelude.{length, if◌then◌else◌}
use Rattle.elab_ctx.specs.tx_ints.declared.kinds.IntKind.{IntKind}
use Rattle.elab_ctx.specs.tx_ints.declared.kinds.IntKind.TheVariants.{ULong}
use Rattle.elab_ctx.specs.cpp_types.Typ.{Typ, typ, Form, void, int, ref, array, class, closure, tx_ex}
use Rattle.elab_ctx.specs.cpp_types.Class.{Class, Member}
use Rattle.elab_ctx.specs.cpp_types.declared.classes.At.{At}
use Rattle.elab_ctx.specs.cpp_types.declared.ranks.Cat.TheVariants.{Prvalue}
use Rattle.elab_ctx.specs.cpp_layout.Layout.{extent_of}
use Rattle.elab_ctx.specs.cpp_layout.Measured.{member_offset}
use Rattle.elab_ctx.specs.cpp_tree.declared.kinds.TKind.TheVariants.{Literal, CopyScalar, Pieces, Piece, Elements, Destroy}
use Rattle.elab_ctx.specs.cpp_tree.declared.kinds.TKind.TheVariants.{Field}
use Rattle.elab_ctx.specs.cpp_tree.Trees.{Tree, node, Trees, none, more, one, kind_of, cat_of, kids_of}
use Rattle.elab_ctx.specs.cpp_tree.Notation.{plain}
use Rattle.elab_ctx.specs.cpp_tree.Typing.{form_in, is_volatile_typ, unqualified, qualified, kind_in}
use Rattle.elab_ctx.specs.Ctx.{Ctx, Traits, Special, absent, trivial, function}
use Rattle.elab_rules.specs.Values.{place_of, stored}

abbrev pub size_of : List Class → Typ → ℕ
size_of classes t = (extent_of classes t).size

abbrev pub followed_by : Trees → Trees → Trees
followed_by none us = us
followed_by (more t ts) us = more t (followed_by ts us)

-- Parts of classes

-- a part of an object: its offset and its type
pub record Part : Type 0 where
  pub offset : ℕ
  pub typ : Typ

abbrev pub members_from : List Class → ℕ → Class → ℕ → List Member → List Part
members_from classes n c i [] = []
members_from classes n c i (m ∷ ms) = record { offset = member_offset classes n c i m; typ = m.typ } ∷ members_from classes n c (suc i) ms

abbrev pub base_part : Option ℕ → List Part
base_part None = []
base_part (Some b) = record { offset = 0; typ = plain (class b) } ∷ []

abbrev pub parts_in : List Class → ℕ → Option Class → List Part
parts_in classes n None = []
parts_in classes n (Some c) = base_part c.base ++ members_from classes n c 0 c.members

-- the base, then the members
abbrev pub parts_of : List Class → ℕ → List Part
parts_of classes n = parts_in classes n (slice_get classes n)

abbrev pub class_in : Form → Option ℕ
class_in (class n) = Some n
class_in (closure n) = Some n
class_in f = None

-- What is done to each scalar of an object

-- a tree for each scalar, from its type with the qualifiers of the object, and the place
abbrev pub Leaf : Type 0
Leaf = Typ → At → Tree

abbrev pub scalar_leaf : Leaf → Typ → At → Tree
scalar_leaf leaf t at = leaf t at

-- an object of a lambda's class, as one of a class
abbrev pub as_closure : ℕ → Bool → Bool → Tree → Tree
as_closure n c v e = node (kind_of e) (typ (closure n) c v) (cat_of e) (place_of e) (kids_of e)

-- an object of a type in an object with these qualifiers, by what is done for its classes
abbrev mutual
  pub whole : (ℕ → Bool → Bool → Tree) → Leaf → List Class → At → Bool → Bool → Typ → Tree
  whole each leaf classes at c v (typ f d w) = whole_form each leaf classes at (c || d) (v || w) f

  pub whole_form : (ℕ → Bool → Bool → Tree) → Leaf → List Class → At → Bool → Bool → Form → Tree
  whole_form each leaf classes at c v (array t n) = node (Elements n (size_of classes t)) (qualified c v (plain (array t n))) Prvalue at
      (one (whole each leaf classes at c v t))
  whole_form each leaf classes at c v (class n) = each n c v
  whole_form each leaf classes at c v (closure n) = as_closure n c v (each n c v)
  whole_form each leaf classes at c v (tx_ex (typ f d w)) = whole_form each leaf classes at c v f
  whole_form each leaf classes at c v (ref t) = leaf (plain (ref t)) at
  whole_form each leaf classes at c v f = leaf (typ f c v) at

abbrev pub pieces : (Part → Tree) → (Part → Typ) → At → List Part → Trees
pieces each type at [] = none
pieces each type at (p ∷ ps) = more (node (Piece p.offset) (type p) Prvalue at (one (each p))) (pieces each type at ps)

-- the same of a class, whose parts nest no deeper than this
abbrev pub class_whole : ℕ → Leaf → List Class → At → ℕ → Bool → Bool → Tree
class_whole zero leaf classes at n c v = node Pieces (typ (class n) c v) Prvalue at none
class_whole (suc depth) leaf classes at n c v = node Pieces (typ (class n) c v) Prvalue at
    (pieces (λ (p : Part). whole (class_whole depth leaf classes at) leaf classes at c v p.typ) (λ (p : Part). qualified c v p.typ) at (parts_of classes n))

abbrev pub each_scalar : Leaf → List Class → At → Typ → Tree
each_scalar leaf classes at t = whole (class_whole (length classes) leaf classes at) leaf classes at false false t

-- a reference, which a lambda may have captured, is the word 0
abbrev pub zero_leaf : Leaf
zero_leaf (typ (ref u) c v) at = stored at (typ (ref u) c v) (node (Literal 0) (plain (int ULong)) Prvalue at none)
zero_leaf t at = stored at t (node (Literal 0) (unqualified t) Prvalue at none)

-- an object whose scalars are all zero
abbrev pub zeros : List Class → At → Typ → Tree
zeros classes at t = each_scalar zero_leaf classes at t

abbrev pub copied_scalar : Option IntKind → Typ → At → Tree
copied_scalar (Some k) t at = node (CopyScalar k (is_volatile_typ t)) t Prvalue at none
copied_scalar None t at = node Pieces t Prvalue at none

abbrev pub copy_leaf : Leaf
copy_leaf t at = copied_scalar (kind_in (form_in t)) t at

-- an object that is copied scalar by scalar
abbrev pub copies : List Class → At → Typ → Tree
copies classes at t = each_scalar copy_leaf classes at t

-- Special members

abbrev pub no_traits : Traits
no_traits = record {
  default = absent;
  copy = absent;
  copies_const = false;
  destructor = trivial;
  is_assignable = false;
  is_abstract = false;
  is_volatile =
      false;
  is_trivially_copyable = false;
}

abbrev pub traits_at : Ctx → ℕ → Traits
traits_at c n = unwrap_or (slice_get c.traits n) no_traits

-- Destructions (C++14 12.4)

abbrev pub destroy : ℕ → (offset count stride : ℕ) → At → Tree
destroy k offset count stride at = node (Destroy k offset count stride) (plain void) Prvalue at none

abbrev pub destroyed : Special → (offset count stride : ℕ) → At → Trees
destroyed (function k) offset count stride at = one (destroy k offset count stride at)
destroyed s offset count stride at = none

-- how many objects an array has, counted through its bounds, and of which type
abbrev mutual
  pub count_in : Typ → ℕ
  count_in (typ f c v) = count_form f

  pub count_form : Form → ℕ
  count_form (array t n) = n * count_in t
  count_form f = 1

abbrev mutual
  pub element_of : Typ → Typ
  element_of (typ f c v) = qualified c v (element_form f)

  pub element_form : Form → Typ
  element_form (array t n) = element_of t
  element_form f = plain f

abbrev pub is_array : Typ → Bool
is_array (typ (array t n) c v) = true
is_array t = false

abbrev pub stride_of : List Class → Typ → ℕ
stride_of classes t = if is_array t then size_of classes (element_of t) else 0

-- the parts from the last one back
abbrev pub backwards : (Part → Trees) → List Part → Trees
backwards each [] = none
backwards each (p ∷ ps) = followed_by (backwards each ps) (each p)

abbrev pub destroys_in : Ctx → ℕ → At → Typ → Form → Trees
destroys_in c offset at t (class n) = destroyed (traits_at c n).destructor offset (count_in t) (stride_of c.classes t) at
destroys_in c offset at t (tx_ex e) = none
destroys_in c offset at t f = none

-- the destructions of a part that is no lambda's object
abbrev pub destroys_at : Ctx → At → Part → Trees
destroys_at c at p = destroys_in c p.offset at p.typ (form_in (element_of p.typ))

abbrev pub destroys_of : Ctx → At → Typ → Form → Trees
destroys_of c at t (closure n) = backwards (destroys_at c at) (parts_of c.classes n)
destroys_of c at t f = destroys_in c 0 at t f

-- the destructions of an object; those of a lambda's object are those of what it captured
abbrev pub destroys : Ctx → At → Typ → Trees
destroys c at t = destroys_of c at t (form_in (element_of t))

-- Scalars of an exception

abbrev pub fields_of_parts : (Part → Trees) → List Part → Trees
fields_of_parts each [] = none
fields_of_parts each (p ∷ ps) = followed_by (each p) (fields_of_parts each ps)

abbrev pub scalar_field : At → ℕ → Option IntKind → Trees
scalar_field at offset (Some k) = one (node (Field offset k) (plain void) Prvalue at none)
scalar_field at offset None = none

abbrev pub repeated : (ℕ → Trees) → (offset stride : ℕ) → ℕ → Trees
repeated each offset stride zero = none
repeated each offset stride (suc n) = followed_by (each offset) (repeated each (offset + stride) stride n)

abbrev mutual
  pub fields_in : (ℕ → ℕ → Trees) → List Class → At → ℕ → Typ → Trees
  fields_in each classes at offset (typ f c v) = fields_form each classes at offset f

  pub fields_form : (ℕ → ℕ → Trees) → List Class → At → ℕ → Form → Trees
  fields_form each classes at offset (array t n) = repeated (λ o. fields_in each classes at o t) offset (size_of classes t) n
  fields_form each classes at offset (class n) = each n offset
  fields_form each classes at offset (closure n) = each n offset
  fields_form each classes at offset (tx_ex t) = fields_in each classes at offset t
  fields_form each classes at offset f = scalar_field at offset (kind_in f)

abbrev pub class_fields : ℕ → List Class → At → ℕ → ℕ → Trees
class_fields zero classes at n offset = none
class_fields (suc depth) classes at n offset = fields_of_parts (λ (p : Part). fields_in (class_fields depth classes at) classes at (offset + p.offset) p.typ)
    (parts_of classes n)

-- the scalars of a type in order
abbrev pub fields : List Class → At → Typ → Trees
fields classes at t = fields_in (class_fields (length classes) classes at) classes at 0 t
