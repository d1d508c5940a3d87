use Rattle.std.proofs.Common.{refl, None}
use Rattle.cpp_syntax.specs.Terminals.{is_safety}
use Rattle.cpp_syntax.specs.Grammar.{tx_qualifier}
use Rattle.cpp_syntax.specs.Parsed.{ReadsLongest}
use Rattle.cpp_syntax.proofs.Readers.{leaves_same, leaves_both, leaves_read}
use Rattle.cpp_syntax.proofs.ReaderLoops.{within}
use Rattle.cpp_parse_expr.proofs.ReaderAnswers.{always_err, made, leaf_there}
use Rattle.cpp_parse_expr.proofs.lambdas.safety_alone.Goals as goal

pub returns-in_err-next : goal.returns-in_err-next
returns-in_err-next c = always_err _ _ _ _ c.from_residual.result c.from_residual.ensures.0 (leaves_same c.in_err-next.ensures)

pub returns-in_err-node : goal.returns-in_err-node
returns-in_err-node c =
    let x : ReadsLongest c.args.text.now tx_qualifier c.args.at c.in_ok-next.next None c.args.out.now c.leaf.new.out = leaf_there c.requires.begins
    (within c.args.text.now c.args.at is_safety refl c.requires.begins) c.in_ok-next.ensures in
    always_err _ _ _ _ c.from_residual-in_err-node.result c.from_residual-in_err-node.ensures.0
    (leaves_both (leaves_read x) (leaves_same c.in_err-node.ensures.memory))

pub returns : goal.returns
returns c =
    made (leaf_there c.requires.begins (within c.args.text.now c.args.at is_safety refl c.requires.begins) c.in_ok-next.ensures)
    c.checkpoint-start.ensures c.in_ok-node.ensures.read
