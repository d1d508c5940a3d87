use Rattle.elab_init.specs.cpp_types.Typ.{typ_of}
use Rattle.elab_init.specs.cpp_types.Class.{classes_of}
use Rattle.elab_init.specs.cpp_types.declared.ranks.Cat.TheVariants.{Prvalue}
use Rattle.elab_init.specs.cpp_tree.declared.kinds.TKind.TheVariants.{CopyFrom}
use Rattle.elab_init.specs.cpp_tree.Trees.{Tree, node, two}
use Rattle.elab_init.specs.elab_rules.Objects.{copies}
use Rattle.elab_init.specs.elab_rules.Initialising.{as_source}
use Rattle.elab_make.proofs.Putting.{puts_then}
use Rattle.elab_make.proofs.copying.copied_in_place.Goals as goal

pub returns : goal.returns
returns c = puts_then _ _ _ _ _ _ (λ (s : Tree). node CopyFrom (typ_of c.args.ty.now) Prvalue c.args.at
    (two (as_source c.args.o.at c.args.class s) (copies (classes_of c.args.env.now.classes.items) c.args.at
    (typ_of c.args.ty.now)))) _ c.in_ok-object.ensures c.copy_in_place.ensures
