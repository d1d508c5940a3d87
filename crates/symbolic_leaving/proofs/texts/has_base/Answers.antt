use Rattle.std.proofs.Common.{◌≡◌, ◌∙◌, ℕ, zero, suc, ◌+◌, ◌-◌, true, false, sym, arith}
use Rattle.cpp_tree.specs.cpp_types.Class.{classes_of}
use Rattle.src_frames.specs.Texts.{is_spelled}
use Rattle.src_frames.proofs.Caught.{left_none, left_found, left_next}
use Rattle.symbolic_leaving.proofs.texts.has_base.Goals as goal

pub returns-in_default : goal.returns-in_default
returns-in_default c =
    let j : ℕ = c.args.most - (c.loop-passed._passed + 1) in
    let h : c.loop-passed._passed + suc j ≡ c.args.most = omega arith in
    sym (c.loop-passed.invariant (suc j) h ∙ left_none (classes_of c.args.classes.now) c.args.text.now j c.loop-passed.below (sym c.in_default.ensures))

pub returns-then-is_name : goal.returns-then-is_name
returns-then-is_name c =
    let j : ℕ = c.args.most - (c.loop-passed._passed + 1) in
    let h : c.loop-passed._passed + suc j ≡ c.args.most = omega arith in
    let spelled : is_spelled (classes_of c.args.classes.now) c.args.text.now c.in-Some.base ≡ true = cc (c.if-is_name.ensures, c.deref.ensures.value, c.in_ok-spelled.ensures) in
    sym (c.loop-passed.invariant (suc j) h ∙ left_found (classes_of c.args.classes.now) c.args.text.now j c.loop-passed.below c.in-Some.base (sym c.in-Some.ensures) spelled)

pub loop-passed-preserved : goal.loop-passed-preserved
loop-passed-preserved c k e =
    let h : c.loop-passed._passed + suc k ≡ c.args.most = omega arith in
    let spelled : is_spelled (classes_of c.args.classes.now) c.args.text.now c.in-Some.base ≡ false = cc (c.if-is_name.ensures, c.deref.ensures.value, c.in_ok-spelled.ensures) in
    c.loop-passed.invariant (suc k) h ∙ left_next (classes_of c.args.classes.now) c.args.text.now k c.loop-passed.below c.in-Some.base (sym c.in-Some.ensures) spelled

pub returns : goal.returns
returns c =
    let h : c.loop-passed._passed + zero ≡ c.args.most = omega arith in
    sym (c.loop-passed.invariant zero h)
