use Rattle.std.proofs.Common.{refl}
use Rattle.cpp_parse_expr.proofs.ReaderAnswers.{parsed_err}
use Rattle.cpp_parse_expr.proofs.PostfixReaders.{parsed_seq}
use Rattle.cpp_parse.proofs.constructors.constructor_body.Goals as goal

pub returns-in_err-body : goal.returns-in_err-body
returns-in_err-body c = parsed_err _ _ _ _ c.from_residual.result c.from_residual.ensures.0 c.in_err-body.ensures

pub returns : goal.returns
returns c = parsed_seq _ _ _ _ _ _ _ _ _ _ c.compound_statement.result c.in_ok-body.ensures refl refl refl c.compound_statement.ensures
