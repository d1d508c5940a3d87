-- A tree of a default member initialiser by its kind, its category and its kids.
use Rattle.std.specs.Prelude.{◌<◌, ◌==◌, ◌&&◌, ℕ, Bool, false, not, List}
use Rattle.elab_make.specs.cpp_types.Typ.{Typ}
use Rattle.elab_make.specs.cpp_types.declared.ranks.Cat.{Cat}
use Rattle.elab_make.specs.cpp_types.declared.ranks.Cat.TheVariants.{Prvalue}
use Rattle.elab_make.specs.cpp_tree.declared.kinds.TKind.{TKind}
use Rattle.elab_make.specs.cpp_tree.declared.kinds.TKind.TheVariants.{Local, Load, Materialize}
use Rattle.elab_make.specs.cpp_tree.Trees.{Tree, Trees, none, more, kind_of}
use Rattle.elab_make.specs.cpp_tree.Arena.{tree_at}
use Rattle.elab_make.specs.elab_rules.Names.{this_pointer}
use Rattle.elab_make.specs.elab_rules.Braces.{ThisAt, this_of, moved_place}
use Rattle.elab_aggregates.specs.declared.relocating.Pointed.{Pointed}
use Rattle.elab_aggregates.specs.declared.relocating.Pointed.TheVariants.{Object, Place}

-- the pointer `this` to an object of a type
abbrev pub this_at : List Tree → Typ → Pointed → ThisAt
this_at trees t (Object id) = this_of t (tree_at trees id)
this_at trees t (Place p) = λ at. this_pointer at (record { typ = t; place = p })

abbrev pub IsThere : ℕ → Pointed → Type 0
IsThere n (Object id) = id.0 < n
IsThere n (Place p) = Unit {0}

abbrev pub is_first_item : TKind → Bool
is_first_item (Local place) = place == 0
is_first_item kind = false

abbrev pub is_only_first_item : Trees → Bool
is_only_first_item (more e none) = is_first_item (kind_of e)
is_only_first_item ts = false

-- it reads the first item of the frame, which is `this`
abbrev pub reads_this : TKind → Cat → Trees → Bool
reads_this (Load kind volatile) Prvalue kids = not volatile && is_only_first_item kids
reads_this kind cat kids = false

abbrev pub moved_kind : ℕ → TKind → TKind
moved_kind by (Materialize place argument) = Materialize (moved_place by place) argument
moved_kind by kind = kind
