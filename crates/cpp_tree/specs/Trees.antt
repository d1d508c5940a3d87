-- Typed trees.
use Rattle.std.specs.Prelude.{ℕ, false}
use Rattle.cpp_layout.specs.cpp_types.Typ.{Typ, typ, void}
use Rattle.cpp_layout.specs.cpp_types.declared.classes.At.{At}
use Rattle.cpp_layout.specs.cpp_types.declared.ranks.Cat.{Cat}
use Rattle.cpp_layout.specs.cpp_types.declared.ranks.Cat.TheVariants.{Prvalue}
use Rattle.cpp_tree.specs.declared.kinds.TKind.{TKind}
use Rattle.cpp_tree.specs.declared.kinds.TKind.TheVariants.{Literal}

mutual
  -- a kind, a type and category, a place in the source, and the kids
  pub data Tree : Type 0 where
    node : TKind → Typ → Cat → At → Trees → Tree

  pub data Trees : Type 0 where
    none : Trees
    more : Tree → Trees → Trees

abbrev pub kind_of : Tree → TKind
kind_of (node kind t cat at kids) = kind

abbrev pub typ_in : Tree → Typ
typ_in (node kind t cat at kids) = t

abbrev pub cat_of : Tree → Cat
cat_of (node kind t cat at kids) = cat

abbrev pub kids_of : Tree → Trees
kids_of (node kind t cat at kids) = kids

-- Lists of kids

abbrev pub one : Tree → Trees
one t = more t none

abbrev pub two : Tree → Tree → Trees
two t u = more t (one u)

abbrev pub three : Tree → Tree → Tree → Trees
three t u v = more t (two u v)

abbrev pub nowhere : At
nowhere = record { source = 0; offset = 0 }

-- a word as a tree; no tree is read where none stands, but definitions on lists need one there
abbrev pub literal : ℕ → Tree
literal w = node (Literal w) (typ void false false) Prvalue nowhere none

abbrev pub first : Trees → Tree
first none = literal 0
first (more t ts) = t

-- the kids behind the first
abbrev pub rest : Trees → Trees
rest none = none
rest (more t ts) = ts

abbrev pub second : Trees → Tree
second ts = first (rest ts)

abbrev pub third : Trees → Tree
third ts = first (rest (rest ts))
