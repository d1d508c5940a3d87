use Rattle.std.proofs.Common.{◌≡◌, ◌∙◌, ap, rules}
use Rattle.elab_scopes.specs.cpp_types.Typ.{typ_of}
use Rattle.elab_scopes.specs.cpp_tree.Arena.{trees_of}
use Rattle.elab_locals.proofs.Placed.{auto_done}
use Rattle.elab_locals.proofs.autos.auto_placed.Goals as goal

pub returns : goal.returns
returns c = auto_done c.args.st.now _ _ _ c.in_ok-variable.variable c.args.init _ c.args.index _ (typ_of c.args.ty.now) c.args.at c.args.whole c.requires.init
    (ap trees_of c.add_item.ensures.nodes) c.in_ok-variable.ensures c.in_ok-place.ensures.place c.in_ok-made.ensures (search rules)
