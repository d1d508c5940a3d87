use Rattle.cpp_lex.proofs.IntEnds.{hexadecimal_end, binary_end}
use Rattle.cpp_lex.proofs.ints.prefixed_end.Goals as goal

pub returns-in-120 : goal.returns-in-120
returns-in-120 c = hexadecimal_end c.args.text.now c.args.from (cc) c.digits_end.result c.digits_end.ensures

pub returns-in-98 : goal.returns-in-98
returns-in-98 c = binary_end c.args.text.now c.args.from (cc) c.digits_end-in-98.result c.digits_end-in-98.ensures
