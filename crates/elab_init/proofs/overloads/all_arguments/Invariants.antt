use Rattle.std.proofs.Common.{◌≡◌, ◌++◌, map, drop}
use Rattle.elab_conv.specs.cpp_overload.Overload.{argument_of}
use Rattle.elab_conv.specs.cpp_tree.Arena.{trees_of}
use Rattle.elab_conv.specs.elab_ctx.Operands.{operands_in}
use Rattle.elab_conv.specs.elab_rules.Initialising.{arguments}
use Rattle.elab_init.proofs.overloads.all_arguments.Given as goal

abbrev pub invariant-loop-o : goal.invariant-loop-o
invariant-loop-o l = map argument_of l.list.items ++ arguments (operands_in (trees_of l.nodes.items) (drop l.o-index l.os))
    ≡ arguments (operands_in (trees_of l.nodes.items) l.os)
