use Rattle.elab_conv.specs.tx_ints.declared.kinds.IntKind.TheVariants.{ULong}
use Rattle.elab_conv.specs.tx_ints.declared.kinds.BinOp.TheVariants.{Mul}
use Rattle.elab_conv.specs.cpp_tree.Trees.{Tree, typ_in}
use Rattle.elab_conv.specs.cpp_tree.Typing.{unqualified}
use Rattle.elab_conv.specs.elab_rules.Values.{number, operated, size_type}
use Rattle.elab_conv.specs.elab_rules.Operators.{as_kind}
use Rattle.elab_ops.proofs.Steps.{pair_ok}
use Rattle.elab_ops.proofs.pointers.moved_by.Goals as goal

pub returns : goal.returns
returns c = pair_ok _ _ _ _ c.args.count.id _ _ _ (λ (x y : Tree). operated c.args.op ULong (unqualified (typ_in x)) c.args.at x y)
    (λ (z : Tree). operated Mul ULong size_type c.args.at (as_kind ULong (record { tree = z; at = c.args.count.at; zero = c.args.count.zero }))
    (number ULong c.args.size c.args.at)) _ c.requires.count c.in_ok-address.ensures c.in_ok-bytes.ensures c.on_addresses.ensures
