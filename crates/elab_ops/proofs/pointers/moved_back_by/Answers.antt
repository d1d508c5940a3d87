use Rattle.elab_conv.specs.tx_ints.declared.kinds.IntKind.TheVariants.{ULong}
use Rattle.elab_conv.specs.tx_ints.declared.kinds.BinOp.TheVariants.{Add}
use Rattle.elab_conv.specs.cpp_tree.Trees.{Tree, typ_in}
use Rattle.elab_conv.specs.cpp_tree.Typing.{unqualified}
use Rattle.elab_conv.specs.elab_rules.Values.{operated}
use Rattle.elab_conv.specs.elab_rules.Operators.{value}
use Rattle.elab_ops.proofs.Steps.{pair_ok}
use Rattle.elab_ops.proofs.pointers.moved_back_by.Goals as goal

pub returns : goal.returns
returns c = pair_ok _ _ _ _ c.args.pointer.id _ _ _ (λ (x y : Tree). operated Add ULong (unqualified (typ_in y)) c.args.at x y)
    (λ (z : Tree). value (record {
      tree = z;
      at = c.args.pointer.at;
      zero =
          c.args.pointer.zero;
    })) _ c.requires.pointer c.in_ok-bytes.ensures c.in_ok-address.ensures c.on_addresses.ensures
