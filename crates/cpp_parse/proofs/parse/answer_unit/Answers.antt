use Rattle.cpp_lex.specs.Tokens.{lexemes_of}
use Rattle.cpp_parse.proofs.UnitRead.{no_unit}
use Rattle.cpp_parse.proofs.parse.answer_unit.Goals as goal

pub returns : goal.returns
returns c =
    no_unit c.args.source (lexemes_of c.args.tokens.now) c.in_ok-types.types c.in-Refused.token c.in_ok-types.ensures
    (rw c.in-Refused.is at c.in_ok-whole.ensures)
