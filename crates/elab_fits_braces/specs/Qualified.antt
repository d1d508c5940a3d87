-- What builds an object builds one with more qualifiers too, where it is made anew for them (C++14 8.5.1, 9.3.2).
use Rattle.std.specs.Prelude.{◌≡◌, Bool, true, false, not, ◌&&◌, is_some, if◌then◌else◌}
use Rattle.elab_rules.specs.cpp_types.Typ.{Typ}
use Rattle.elab_rules.specs.cpp_types.Class.{InOrder}
use Rattle.elab_rules.specs.cpp_tree.declared.kinds.TKind.TheVariants.{Pieces, Piece, Elements}
use Rattle.elab_rules.specs.cpp_tree.Trees.{Tree, node, Trees, none, more, kind_of, typ_in}
use Rattle.elab_rules.specs.cpp_tree.Typing.{is_class_typ, same_shape, qualified, goes_both_ways}
use Rattle.elab_rules.specs.cpp_tree.Parts.{size_in}
use Rattle.elab_rules.specs.cpp_tree.Rows.{Setting}
use Rattle.elab_rules.specs.Braces.{requalified}
use Rattle.elab_fits.specs.Standing.{BuildsOne}
use Rattle.elab_fits.specs.Objects.{is_ready}

-- no part of the object is built by what stands for a class prvalue elsewhere too, a call say
abbrev mutual
  pub is_made : Tree → Bool
  is_made (node Pieces t cat at kids) = are_made kids
  is_made (node (Piece offset) t cat at (more e destroys)) = is_made e
  is_made (node (Elements count stride) t cat at (more e destroys)) = is_made e
  is_made (node kind t cat at kids) = not (goes_both_ways kind)

  pub are_made : Trees → Bool
  are_made none = true
  are_made (more t ts) = is_made t && are_made ts

-- it can be made anew with more qualifiers: what keeps its own type builds a whole object of a class, and not the value in a `std::tx_exception`
abbrev pub is_pliable : Typ → Tree → Bool
is_pliable t e = if goes_both_ways (kind_of e) then is_class_typ t && same_shape t (typ_in e) else is_made e

-- of a type without references in it
abbrev pub QualifiedBuild : Type 0
QualifiedBuild = (s : Setting) (q v : Bool) (t : Typ) (e : Tree) → InOrder s.classes → is_some (size_in s.classes t) ≡ true
    → is_ready s.classes false t ≡ true → is_pliable t e ≡ true → BuildsOne s t e → BuildsOne s (qualified q v t) (requalified q v e)
