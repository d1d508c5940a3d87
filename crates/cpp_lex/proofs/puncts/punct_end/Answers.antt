use Rattle.cpp_lex.proofs.PunctEnds.{triple_end, double_end, single_end}
use Rattle.cpp_lex.proofs.puncts.punct_end.Goals as goal

pub returns-then-is_triple_punct : goal.returns-then-is_triple_punct
returns-then-is_triple_punct c = triple_end c.args.text.now c.args.from (cc)

pub returns-then-is_double_punct : goal.returns-then-is_double_punct
returns-then-is_double_punct c = double_end c.args.text.now c.args.from (cc) (cc)

pub returns-then-is_single_punct : goal.returns-then-is_single_punct
returns-then-is_single_punct c = single_end c.args.text.now c.args.from (cc) (cc) (cc) (cc)
