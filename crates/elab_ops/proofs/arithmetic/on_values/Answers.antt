use Rattle.elab_conv.specs.cpp_types.Typ.{typ_of}
use Rattle.elab_conv.specs.cpp_tree.Trees.{Tree}
use Rattle.elab_conv.specs.elab_rules.Values.{operated}
use Rattle.elab_conv.specs.elab_rules.Operators.{value}
use Rattle.elab_ops.proofs.Steps.{pair_ok}
use Rattle.elab_ops.proofs.arithmetic.on_values.Goals as goal

pub returns : goal.returns
returns c = pair_ok _ _ _ _ c.args.b.id _ _ _ (λ (x y : Tree). operated c.args.op c.args.kind (typ_of c.args.ty) c.args.at x y)
    (λ (z : Tree). value (record {
      tree = z;
      at = c.args.b.at;
      zero =
          c.args.b.zero;
    })) _ c.requires.right c.in_ok-left.ensures c.in_ok-right.ensures c.operated.ensures
