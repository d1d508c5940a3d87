use Rattle.cpp_lex.proofs.QuotedEnds.{own_one, escaped_one}
use Rattle.cpp_lex.proofs.quoted.one_of_end.Goals as goal

pub returns-then-own_byte : goal.returns-then-own_byte
returns-then-own_byte c = own_one c.args.quote c.args.text.now c.args.from (cc)

pub returns-else-own_byte : goal.returns-else-own_byte
returns-else-own_byte c = escaped_one c.args.quote c.args.text.now c.args.from (cc) c.escape_end.result c.escape_end.ensures
