use Rattle.std.proofs.Common.{◌∙◌, sym}
use Rattle.elab_make.specs.cpp_types.Typ.{Typ, typ_of}
use Rattle.elab_make.specs.cpp_types.Class.{classes_of}
use Rattle.elab_make.specs.cpp_types.declared.ranks.Cat.TheVariants.{Lvalue}
use Rattle.elab_make.specs.cpp_tree.declared.kinds.TKind.TheVariants.{CopyAssign}
use Rattle.elab_make.specs.cpp_tree.Trees.{Tree, node, three}
use Rattle.elab_make.specs.cpp_tree.Arena.{trees_of}
use Rattle.elab_make.specs.elab_rules.Objects.{copies}
use Rattle.elab_forms.proofs.Steps.{third_ok}
use Rattle.elab_forms.proofs.assignments.copied_onto.Goals as goal

pub returns : goal.returns
returns c = third_ok (trees_of c.args.nodes.now.items) _ _ c.args.a.id c.args.source c.in_ok-init.init _ (typ_of c.in_ok-object_type.object_type)
    (λ (u : Typ) (x y z : Tree). node CopyAssign u Lvalue c.args.at (three x y z))
    (copies (classes_of c.args.env.now.classes.items) c.args.at (typ_of c.args.ty.now)) c.requires.target c.requires.source c.in_ok-init.ensures
    (c.in_ok-object_type.ensures ∙ sym c.node_at.ensures.typ) c.add_three.ensures
