use Rattle.cpp_types.specs.Typ.{typ_of}
use Rattle.elab_entry.specs.cpp_tree.Arena.{trees_of, tree_at}
use Rattle.elab_implicit.proofs.CopyLists.{scalar_made}
use Rattle.elab_implicit.proofs.copying.scalar_copied.Goals as goal

pub returns : goal.returns
returns c = scalar_made _ _ _ c.in_ok-value.value c.args.at (typ_of c.args.ty.now)
    (tree_at (trees_of c.args.nodes.now.items) c.args.source) _ c.in_ok-value.ensures c.stored.ensures
