use Rattle.std.proofs.Common.{drop}
use Rattle.elab_make.specs.cpp_types.Typ.{typ_of}
use Rattle.elab_make.specs.cpp_tree.Arena.{trees_of}
use Rattle.elab_make.specs.elab_rules.Braces.{byte_pieces}
use Rattle.elab_make.proofs.elab_init.Listing.{Adding}
use Rattle.elab_aggregates.proofs.strings.byte_pieces.Given as goal

abbrev pub invariant-loop-i : goal.invariant-loop-i
invariant-loop-i l = Adding (trees_of l.fn.nodes.items) (trees_of l.nodes.items) l.kids.items (byte_pieces (typ_of l.ty) l.at l.i (drop l.i l.bytes))
    (byte_pieces (typ_of l.ty) l.at 0 l.bytes)
