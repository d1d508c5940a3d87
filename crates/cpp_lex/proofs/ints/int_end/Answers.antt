use Rattle.cpp_lex.specs.Ints.{Literal}
use Rattle.cpp_lex.specs.Readings.{IsFurthest}
use Rattle.cpp_lex.proofs.Ends.{literal_within}
use Rattle.cpp_lex.proofs.IntEnds.{int_furthest}
use Rattle.cpp_lex.proofs.ints.int_end.Goals as goal

pub returns-in_default : goal.returns-in_default
returns-in_default c = λ end i. c.in_default.ensures i.digits_end i.digits

pub suffix_end-requires : goal.suffix_end-requires
suffix_end-requires c =
    let here : IsFurthest (λ to. Literal c.args.text.now c.args.from to) c.in-Some.digits_end = c.in-Some.ensures in
    let w = literal_within c.args.text.now c.args.from c.in-Some.digits_end here.reads in
    w.inside

pub returns : goal.returns
returns c = int_furthest c.args.text.now c.args.from c.in-Some.digits_end c.suffix_end.result c.in-Some.ensures c.suffix_end.ensures
