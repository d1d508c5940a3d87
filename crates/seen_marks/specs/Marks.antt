-- Marks of `volatile` on what initialises: the check reads them off the objects.
use Rattle.std.specs.Prelude.{◌≡◌, Bool, true, false, not, ◌&&◌, ◌||◌, []}
use Rattle.cpp_tree.specs.declared.kinds.TKind.{TKind}
use Rattle.cpp_tree.specs.declared.kinds.TKind.TheVariants.{Store, CopyScalar}
use Rattle.cpp_tree.specs.declared.roles.Role.TheVariants.{Statement}
use Rattle.cpp_tree.specs.Trees.{Tree, node, Trees, none, more}
use Rattle.cpp_tree.specs.Rows.{Setting}
use Rattle.cpp_tree.specs.WellFormed.{outermost, fits}
use Rattle.tx_unsafe.specs.Volatile.{has_volatile_part}
use Rattle.tx_unsafe.specs.Unsafe.{is_atomic, own_in}

abbrev pub is_marked_store : TKind → Bool
is_marked_store (Store kind volatile) = volatile
is_marked_store (CopyScalar kind volatile) = volatile
is_marked_store kind = false

-- no initialiser in what counts of a tree is marked: in all of it inside a block, else in its atomic blocks
abbrev mutual
  pub is_unmarked : (outside : Bool) → Tree → Bool
  is_unmarked outside (node kind t cat at kids) = (not (is_marked_store kind) || outside) && are_unmarked (outside && not (is_atomic kind)) kids

  pub are_unmarked : (outside : Bool) → Trees → Bool
  are_unmarked outside none = true
  are_unmarked outside (more t ts) = is_unmarked outside t && are_unmarked outside ts

-- The law: a body whose nodes fit, in which the check finds nothing that counts, is unmarked
abbrev pub BodiesAreUnmarked : Type 0
BodiesAreUnmarked = (s : Setting) (outside : Bool) (body : Tree) → fits s outermost Statement body ≡ true
    → own_in (has_volatile_part s.classes) (not outside) body ≡ [] → is_unmarked outside body ≡ true
