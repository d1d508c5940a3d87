use Rattle.std.proofs.Common.{refl, arith}
use Rattle.cpp_syntax.specs.Terminals.{equal}
use Rattle.cpp_syntax.proofs.Readers.{leaves_none, leaves_same, leaves_both, leaves_read, none_node}
use Rattle.cpp_syntax.proofs.ReaderLoops.{within}
use Rattle.cpp_parse_expr.proofs.ReaderAnswers.{made, mark_and, none_second_mark, parsed_err}
use Rattle.cpp_parse.proofs.initializers.equal_initializer.Goals as goal

pub returns-in_err-descend : goal.returns-in_err-descend
returns-in_err-descend c = parsed_err _ _ _ _ c.from_residual.result c.from_residual.ensures.0 (leaves_none _)

pub initializer-requires : goal.initializer-requires
initializer-requires c = let i = within c.args.text.now c.args.at equal refl c.requires.begins in omega (arith, i)

pub returns-in_default : goal.returns-in_default
returns-in_default c =
    let x = rw c.in_default.is at c.in_ok-next.ensures in
    (x.0, none_node (none_second_mark x.1))

pub returns-in_err-node : goal.returns-in_err-node
returns-in_err-node c =
    parsed_err _ _ _ _ c.from_residual-in_err-node.result c.from_residual-in_err-node.ensures.0
    (leaves_both (leaves_read (rw c.in-Some.is at c.in_ok-next.ensures)) (leaves_same c.in_err-node.ensures.memory))

pub returns : goal.returns
returns c =
    made (mark_and c.requires.begins (within c.args.text.now c.args.at equal refl c.requires.begins) (rw c.in-Some.is at c.in_ok-next.ensures) refl
    refl) c.checkpoint-start.ensures c.in_ok-node.ensures.read
