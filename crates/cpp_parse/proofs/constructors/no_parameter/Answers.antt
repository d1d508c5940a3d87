use Rattle.cpp_syntax.proofs.Readers.{leaves_same, reads_nothing}
use Rattle.cpp_parse_expr.proofs.ReaderAnswers.{always_err, made}
use Rattle.cpp_parse.proofs.constructors.no_parameter.Goals as goal

pub returns-in_err-node : goal.returns-in_err-node
returns-in_err-node c = always_err _ _ _ _ c.from_residual.result c.from_residual.ensures.0 (leaves_same c.in_err-node.ensures.memory)

pub returns : goal.returns
returns c = made (reads_nothing c.requires.here) c.checkpoint-start.ensures c.in_ok-node.ensures.read
