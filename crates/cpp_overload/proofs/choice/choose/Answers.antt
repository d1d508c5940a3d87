use Rattle.std.proofs.Common.{map}
use Rattle.cpp_types.specs.Class.{classes_of}
use Rattle.cpp_overload.specs.Overload.{candidate_of, argument_of}
use Rattle.cpp_overload.proofs.Rounds.{ambiguous}
use Rattle.cpp_overload.proofs.choice.choose.Goals as goal

pub returns-in-Some-lowest_unbeaten-2 : goal.returns-in-Some-lowest_unbeaten-2
returns-in-Some-lowest_unbeaten-2 c = ambiguous (classes_of c.args.classes.now) c.args.cands.now
    (map argument_of c.args.args.now) c.in-Some.first c.only_hope-hope.result c.in-Some-lowest_unbeaten.field-0 c.in-Some-lowest_unbeaten-2.second
    (candidate_of c.cand_at-p.result.now) (candidate_of c.cand_at-q.result.now) c.in-Some.ensures c.only_hope-hope.ensures c.cand_at-p.ensures
    c.in-Some-lowest_unbeaten.ensures c.cand_at-q.ensures c.in-Some-lowest_unbeaten-2.ensures
