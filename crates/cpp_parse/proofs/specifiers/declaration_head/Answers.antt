use Rattle.std.proofs.Common.{None, refl}
use Rattle.cpp_syntax.specs.Rules.{declaration_head}
use Rattle.cpp_syntax.proofs.Readers.{leaves_both, leaves_read}
use Rattle.cpp_parse_expr.proofs.ReaderAnswers.{parsed_err, parsed_form}
use Rattle.cpp_parse_expr.proofs.PostfixReaders.{parsed_seq}
use Rattle.cpp_parse.proofs.specifiers.declaration_head.Goals as goal

pub returns-in_err-behind : goal.returns-in_err-behind
returns-in_err-behind c = parsed_err _ _ _ _ c.from_residual.result c.from_residual.ensures.0 c.in_err-behind.ensures

pub returns-in_err-typed : goal.returns-in_err-typed
returns-in_err-typed c =
    parsed_err _ _ _ _ c.from_residual-in_err-typed.result c.from_residual-in_err-typed.ensures.0
    (leaves_both (leaves_read c.in_ok-behind.ensures) c.in_err-typed.ensures)

pub returns : goal.returns
returns c =
    parsed_form _ declaration_head _ None _ _ c.type_specifier_seq.result (parsed_seq _ _ _ _ _ _ _ _ _ _ c.type_specifier_seq.result
    c.in_ok-behind.ensures refl refl refl (parsed_seq _ _ _ _ _ _ _ _ _ _ c.type_specifier_seq.result c.in_ok-typed.ensures refl refl refl
    c.type_specifier_seq.ensures))
