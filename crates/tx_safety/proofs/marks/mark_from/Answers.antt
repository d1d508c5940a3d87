use Rattle.std.proofs.Common.{◌∙◌}
use Rattle.cpp_tree.specs.Units.{func_of}
use Rattle.std.proofs.Common.{is_none}
use Rattle.tx_safety.proofs.Contents.{mark_of_is}
use Rattle.tx_safety.proofs.marks.mark_from.Goals as goal

pub returns : goal.returns
returns c = λ trees. c.mark_of_definition.ensures ∙ mark_of_is c.args.marks.now c.args.n
    (func_of trees c.args.func.now) c.promises_safety-promised.result c.is_clean-clean.result
    (is_none c.args.contents.now.first) c.deref.result.now c.args.contents.now.calls.items
    (c.promises_safety-promised.ensures trees) (c.is_clean-clean.ensures trees) c.deref.ensures.value
