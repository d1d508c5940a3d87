use Rattle.std.proofs.Common.{◌≡◌, length, refl, arith}
use Rattle.cpp_types.proofs.Views.{typs_length, typs_at, typs_step}
use Rattle.cpp_types.proofs.equality.+equal.Goals as goal

pub same_all-returns-then-a-b : goal.same_all-returns-then-a-b
same_all-returns-then-a-b t c = (
  λ z. absurd cc,
  λ q. let l : length c.args.a.now ≡ length c.args.b.now = typs_length c.args.a.now c.args.b.now q in absurd
      (omega arith),
)

pub same_all-returns-then-not-same : goal.same_all-returns-then-not-same
same_all-returns-then-not-same t c = (
  λ z. absurd cc,
  λ q. c.if-not-same.ensures.1
      (typs_at c.args.a.now c.args.b.now c.loop-i.i c.index-a-i.result c.index-b-i.result c.loop-i-test.true c.index-a-i.is c.index-b-i.is q),
)

pub same_all-loop-i-preserved : goal.same_all-loop-i-preserved
same_all-loop-i-preserved t c = let l = c.if-a-b.false in let w = c.loop-i-test.true in
    typs_step c.args.a.now c.args.b.now c.loop-i.i c.index-a-i.result c.index-b-i.result w (omega arith) c.index-a-i.is c.index-b-i.is c.loop-i.invariant
    (c.if-not-same.ensures.0 refl)
