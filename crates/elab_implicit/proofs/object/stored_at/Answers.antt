use Rattle.cpp_types.specs.Typ.{typ_of}
use Rattle.elab_entry.specs.elab_rules.Names.{this_pointer}
use Rattle.elab_entry.specs.elab_rules.Members.{own_this}
use Rattle.elab_implicit.specs.Building.{table_tree}
use Rattle.elab_implicit.proofs.ObjectParts.{stored_made}
use Rattle.elab_implicit.proofs.object.stored_at.Goals as goal

pub returns : goal.returns
returns c = stored_made _ _ _ _ _ _ c.args.offset (typ_of c.size_type.result) (this_pointer c.args.at (own_this c.args.class))
    (table_tree c.args.at c.args.class) c.args.at _ c.size_type.ensures c.in_ok-object.ensures c.in_ok-table.ensures c.word_assigned.ensures
