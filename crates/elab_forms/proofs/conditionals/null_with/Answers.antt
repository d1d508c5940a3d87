use Rattle.elab_make.specs.cpp_types.Typ.{Typ, typ_of}
use Rattle.elab_make.specs.cpp_types.declared.ranks.Cat.TheVariants.{Prvalue}
use Rattle.elab_make.specs.cpp_tree.Trees.{Tree}
use Rattle.elab_make.specs.cpp_tree.Arena.{trees_of}
use Rattle.elab_make.specs.elab_ctx.Operands.{operand_in}
use Rattle.elab_make.specs.elab_rules.Operators.{value, as_pointer, conditional_node}
use Rattle.elab_forms.proofs.Steps.{three_of}
use Rattle.elab_forms.proofs.conditionals.null_with.Goals as goal

pub returns : goal.returns
returns c = three_of (trees_of c.args.nodes.now.items) _ _ _ c.args.test c.args.b.id _ _ _ _ _
    (λ (u : Typ) (p x y : Tree). conditional_node c.args.at u Prvalue p x y) (λ (z : Tree). value (record { tree = z; at = c.args.b.at; zero = c.args.b.zero }))
    (as_pointer (typ_of c.args.target.now) (operand_in (trees_of c.args.nodes.now.items) c.args.a)) c.in_ok-ty.ensures c.requires.test c.requires.right
    c.in_ok-x.ensures c.in_ok-y.ensures c.conditional_node.ensures
