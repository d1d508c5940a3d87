use Rattle.std.proofs.Common.{◌≡◌, ◌∙◌, ℕ, zero, suc, ◌+◌, ◌-◌, sym, arith}
use Rattle.cpp_types.specs.Class.{classes_of}
use Rattle.cpp_types.proofs.Chains.{left_none, left_found, left_next}
use Rattle.cpp_types.proofs.conversions.steps_to_base.Goals as goal

pub returns-in_err-next : goal.returns-in_err-next
returns-in_err-next c =
    let j : ℕ = c.in_ok-most.most - (c.loop-passed.passed + 1) in
    let h : c.loop-passed.passed + suc j ≡ c.in_ok-most.most = omega arith in
    c.from_residual-in_err-next.ensures ∙ left_none (classes_of c.args.classes.now) c.args.base c.loop-passed.passed j c.loop-passed.below c.in_err-next.ensures
    ∙ sym (c.loop-passed.invariant (suc j) h)

pub returns-then-next-base : goal.returns-then-next-base
returns-then-next-base c =
    let j : ℕ = c.in_ok-most.most - (c.loop-passed.passed + 1) in
    let h : c.loop-passed.passed + suc j ≡ c.in_ok-most.most = omega arith in
    left_found (classes_of c.args.classes.now) c.args.base c.loop-passed.passed j c.loop-passed.below c.in_ok-next.next c.in_ok-next.ensures c.if-next-base.true
    ∙ sym (c.loop-passed.invariant (suc j) h)

pub loop-passed-preserved : goal.loop-passed-preserved
loop-passed-preserved c k e =
    let h : c.loop-passed.passed + suc k ≡ c.in_ok-most.most = omega arith in
    c.loop-passed.invariant (suc k) h ∙ left_next
    (classes_of c.args.classes.now) c.args.base c.loop-passed.passed k c.loop-passed.below c.in_ok-next.next c.in_ok-next.ensures c.if-next-base.false

pub returns : goal.returns
returns c =
    let h : c.loop-passed.passed + zero ≡ c.in_ok-most.most = omega arith in
    sym (c.loop-passed.invariant zero h)
