use Rattle.std.proofs.Common.{◌≡◌, ◌∙◌, ℕ, zero, suc, ◌+◌, ◌-◌, sym, arith}
use Rattle.cpp_types.specs.Class.{classes_of}
use Rattle.cpp_layout.proofs.Chains.{left_none, left_found, left_next}
use Rattle.cpp_layout.proofs.pointers.has_virtual_base.Goals as goal

pub returns-in_default : goal.returns-in_default
returns-in_default c =
    let j : ℕ = c.args.most - (c.loop-passed._passed + 1) in
    let h : c.loop-passed._passed + suc j ≡ c.args.most = omega arith in
    sym (c.loop-passed.invariant (suc j) h ∙ left_none (classes_of c.args.classes.now) j c.loop-passed.below (sym c.in_default.ensures))

pub returns-then-has_virtual_function : goal.returns-then-has_virtual_function
returns-then-has_virtual_function c =
    let j : ℕ = c.args.most - (c.loop-passed._passed + 1) in
    let h : c.loop-passed._passed + suc j ≡ c.args.most = omega arith in
    sym (c.loop-passed.invariant (suc j) h ∙ left_found (classes_of c.args.classes.now) j c.loop-passed.below c.in-Some.base (sym c.in-Some.ensures)
    (sym c.if-has_virtual_function.ensures))

pub loop-passed-preserved : goal.loop-passed-preserved
loop-passed-preserved c k e =
    let h : c.loop-passed._passed + suc k ≡ c.args.most = omega arith in
    c.loop-passed.invariant (suc k) h ∙ left_next (classes_of c.args.classes.now) k c.loop-passed.below c.in-Some.base (sym c.in-Some.ensures)
    (sym c.if-has_virtual_function.ensures)

pub returns : goal.returns
returns c =
    let h : c.loop-passed._passed + zero ≡ c.args.most = omega arith in
    sym (c.loop-passed.invariant zero h)
