use Rattle.elab_conv.specs.tx_ints.declared.kinds.IntKind.TheVariants as kinds
use Rattle.elab_conv.specs.tx_ints.declared.kinds.BinOp.TheVariants.{Eq}
use Rattle.elab_conv.specs.cpp_types.Typ.{int}
use Rattle.elab_conv.specs.cpp_tree.Trees.{Tree}
use Rattle.elab_conv.specs.cpp_tree.Notation.{plain}
use Rattle.elab_conv.specs.elab_rules.Values.{operated}
use Rattle.elab_ops.proofs.Steps.{both_ok}
use Rattle.elab_ops.proofs.truth.is_zero.Goals as goal

pub returns : goal.returns
returns c = both_ok _ _ _ _ _ _ _ (λ (x y : Tree). operated Eq kinds.Int
    (plain (int kinds.Bool)) c.args.at x y) _ _ c.in_ok-left.ensures c.in_ok-right.ensures c.operated_in.ensures
