use Rattle.std.proofs.Common.{◌<◌, length, map, refl, arith}
use Rattle.cpp_types.specs.Class.{classes_of}
use Rattle.cpp_overload.specs.Overload.{candidate_of, argument_of}
use Rattle.cpp_overload.proofs.Rounds.{passed_more, cand_there, cand_within}
use Rattle.cpp_overload.proofs.choice.lowest_unbeaten.Goals as goal

pub loop-j-preserved : goal.loop-j-preserved
loop-j-preserved c = passed_more (classes_of c.args.classes.now) (map candidate_of c.args.cands.now) (map argument_of c.args.args.now) c.args.i
    (candidate_of c.args.p.now) c.loop-j.j (candidate_of c.index-cands-j.result)
    (cand_there c.args.cands.now c.loop-j.j c.index-cands-j.result c.loop-j-test.true c.index-cands-j.is)
    (c.if-not-is_passed.ensures.yes refl) c.loop-j.invariant

pub returns : goal.returns
returns c = record {
  each = λ k q n v. c.loop-j.invariant k q
      (let h : k < length c.args.cands.now = cand_within c.args.cands.now k q v.there in omega arith) n v;
}
