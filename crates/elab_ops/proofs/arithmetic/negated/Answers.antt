use Rattle.elab_conv.specs.tx_ints.declared.kinds.BinOp.TheVariants.{Sub}
use Rattle.elab_conv.specs.cpp_types.Typ.{int}
use Rattle.elab_conv.specs.cpp_tree.Trees.{Tree}
use Rattle.elab_conv.specs.cpp_tree.Notation.{plain}
use Rattle.elab_conv.specs.elab_rules.Values.{operated}
use Rattle.elab_conv.specs.elab_rules.Operators.{as_kind}
use Rattle.elab_ops.proofs.Steps.{pair_ok}
use Rattle.elab_ops.proofs.arithmetic.negated.Goals as goal

pub returns : goal.returns
returns c = pair_ok _ _ _ _ c.args.a.id _ _ _ (λ (x y : Tree). operated Sub c.args.kind (plain (int c.args.kind)) c.args.at x y)
    (λ (z : Tree). as_kind c.args.kind (record {
      tree = z;
      at = c.args.a.at;
      zero =
          c.args.a.zero;
    })) _ c.requires c.in_ok-zero.ensures c.in_ok-value.ensures c.operated_in.ensures
