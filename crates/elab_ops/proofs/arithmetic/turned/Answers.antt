use Rattle.std.proofs.Common.{ap}
use Rattle.elab_conv.specs.tx_ints.declared.kinds.BinOp.TheVariants.{Xor}
use Rattle.elab_conv.specs.cpp_types.Typ.{int}
use Rattle.elab_conv.specs.cpp_tree.Trees.{Tree}
use Rattle.elab_conv.specs.cpp_tree.Notation.{plain}
use Rattle.elab_conv.specs.elab_rules.Values.{number, operated}
use Rattle.elab_ops.proofs.Steps.{both_ok, adds_as}
use Rattle.elab_ops.proofs.arithmetic.turned.Goals as goal

pub returns : goal.returns
returns c = both_ok _ _ _ _ _ _ _ (λ (x y : Tree). operated Xor c.args.kind (plain (int c.args.kind)) c.args.at x y) _ _ c.in_ok-value.ensures
    (adds_as _ _ _ _ _ (ap (λ n. number c.args.kind n c.args.at) c.all_ones-bits.ensures) c.in_ok-mask.ensures) c.operated_in.ensures
