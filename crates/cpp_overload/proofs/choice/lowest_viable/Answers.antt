use Rattle.std.proofs.Common.{◌<◌, IsTrue, false, length, map, arith}
use Rattle.cpp_types.specs.Class.{classes_of}
use Rattle.cpp_overload.specs.Overload.{candidate_of, argument_of, IsViable}
use Rattle.cpp_overload.proofs.Rounds.{viable_more, cand_there, cand_within}
use Rattle.cpp_overload.proofs.choice.lowest_viable.Goals as goal

pub loop-i-preserved : goal.loop-i-preserved
loop-i-preserved c = viable_more (classes_of c.args.classes.now) (map candidate_of c.args.cands.now) (map argument_of c.args.args.now) c.loop-i.i
    (candidate_of c.index-cands-i.result) (cand_there c.args.cands.now c.loop-i.i c.index-cands-i.result c.loop-i-test.true c.index-cands-i.is)
    (λ (v : IsViable (classes_of c.args.classes.now) (map argument_of c.args.args.now) (candidate_of c.index-cands-i.result)). let z : IsTrue false =
    c.if-is_viable.ensures.1 v in absurd cc) c.loop-i.invariant

pub returns : goal.returns
returns c = record { each = λ k q v. c.loop-i.invariant k q (let h : k < length c.args.cands.now = cand_within c.args.cands.now k q v.there in omega arith) v }
