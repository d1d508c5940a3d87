use Rattle.std.proofs.Common.{map, sym}
use Rattle.cpp_types.specs.Class.{classes_of}
use Rattle.cpp_overload.specs.Overload.{candidate_of, argument_of}
use Rattle.cpp_overload.proofs.Rounds.{compared_more}
use Rattle.cpp_overload.proofs.choice.is_better.Goals as goal

pub loop-i-preserved : goal.loop-i-preserved
loop-i-preserved c = compared_more (classes_of c.args.classes.now) (map argument_of c.args.args.now) (candidate_of c.args.p.now)
    (candidate_of c.args.q.now) c.loop-i.i c.loop-i.one c.converts_better-one.result c.loop-i.invariant
    (sym c.if-converts_better.ensures) c.converts_better-one.ensures
