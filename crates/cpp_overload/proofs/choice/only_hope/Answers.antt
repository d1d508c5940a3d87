use Rattle.std.proofs.Common.{◌+◌, length, map, refl, ne_eqb}
use Rattle.std.proofs.lemmas.Bool.{eqb-false}
use Rattle.cpp_types.specs.Class.{classes_of}
use Rattle.cpp_overload.specs.Overload.{candidate_of, argument_of}
use Rattle.cpp_overload.proofs.Rounds.{hope_kept, hope_new, hope_end, hope_at, cand_there}
use Rattle.cpp_overload.proofs.choice.only_hope.Goals as goal
use Rattle.cpp_overload.proofs.choice.only_hope.Goals.{then-not-is_passed, else-not-is_passed}

pub loop-i-preserved : goal.loop-i-preserved
loop-i-preserved c =
    let there = cand_there c.args.cands.now c.loop-i.i c.index-cands-i.result c.loop-i-test.true c.index-cands-i.is in
    elim c.if-not-is_passed.branch [
      | then-not-is_passed w ↦
          let no_ = w.if-not-is_passed.ensures.no refl in
          hope_at (classes_of c.args.classes.now) (map candidate_of c.args.cands.now) (map argument_of c.args.args.now)
          (c.loop-i.i + 1) c.if-not-is_passed.hope c.loop-i.i (candidate_of c.if-not-is_passed.best.now) (candidate_of c.index-cands-i.result) w.hope-is
          (cc) (hope_new (classes_of c.args.classes.now) (map candidate_of c.args.cands.now) (map argument_of c.args.args.now) c.loop-i.i c.loop-i.hope
          (candidate_of c.loop-i.best.now) (candidate_of c.index-cands-i.result) c.loop-i.invariant there
          (eqb-false c.loop-i.i c.loop-i.hope no_.0) no_.1 no_.2)
      | else-not-is_passed w ↦
          hope_at (classes_of c.args.classes.now) (map candidate_of c.args.cands.now) (map argument_of c.args.args.now)
          (c.loop-i.i + 1) c.if-not-is_passed.hope c.loop-i.hope (candidate_of c.if-not-is_passed.best.now) (candidate_of c.loop-i.best.now) w.hope-is (cc)
          (hope_kept (classes_of c.args.classes.now) (map candidate_of c.args.cands.now) (map argument_of c.args.args.now) c.loop-i.i c.loop-i.hope
          (candidate_of c.loop-i.best.now) (candidate_of c.index-cands-i.result) c.loop-i.invariant there
          (λ n. w.if-not-is_passed.ensures.yes refl (ne_eqb c.loop-i.i c.loop-i.hope n)))
    ]

pub returns : goal.returns
returns c = hope_end (classes_of c.args.classes.now) (map candidate_of c.args.cands.now) (map argument_of c.args.args.now) c.loop-i.i c.loop-i.hope
    (length c.args.cands.now) (candidate_of c.loop-i.best.now) c.loop-i.invariant c.loop-i-test.false
