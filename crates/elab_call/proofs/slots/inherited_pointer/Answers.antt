use Rattle.std.proofs.Common.{◌≡◌, ℕ, zero, suc, ◌+◌, ◌-◌, List, true, false, Some, None, sym, ap, ◌∙◌, arith}
use Rattle.cpp_types.specs.Class.{Class, classes_of, base_of}
use Rattle.cpp_types.specs.Conversion.{chain}
use Rattle.elab_make.specs.cpp_layout.Layout.{has_class_pointer}
use Rattle.elab_make.specs.elab_rules.Calls.{pointer_along}
use Rattle.elab_names.proofs.Chains.{chain_none, chain_some}
use Rattle.elab_call.proofs.Pointers.{along_found, along_next}
use Rattle.elab_call.proofs.slots.inherited_pointer.Goals as goal

pub returns-in_default : goal.returns-in_default
returns-in_default c =
    let cs : List Class = classes_of c.args.env.now.classes.items in
    let j : ℕ = c.args.most - (c.loop-passed._passed + 1) in
    let h : c.loop-passed._passed + suc j ≡ c.args.most = omega arith in
    let e : base_of cs c.loop-passed.below ≡ None = cc (c.deref.ensures.value, c.in_default.ensures) in
    sym (c.loop-passed.invariant (suc j) h ∙ ap (pointer_along cs) (chain_none cs j c.loop-passed.below e))

pub returns : goal.returns
returns c =
    let h : c.loop-passed._passed + zero ≡ c.args.most = omega arith in
    sym (c.loop-passed.invariant zero h)

pub returns-then-has_pointer : goal.returns-then-has_pointer
returns-then-has_pointer c =
    let cs : List Class = classes_of c.args.env.now.classes.items in
    let j : ℕ = c.args.most - (c.loop-passed._passed + 1) in
    let h : c.loop-passed._passed + suc j ≡ c.args.most = omega arith in
    let e : base_of cs c.loop-passed.below ≡ Some c.in-Some.base = cc (c.deref.ensures.value, c.in-Some.ensures) in
    let found : has_class_pointer cs c.in-Some.base ≡ true = cc (c.deref-in-loop-passed.ensures.value, c.has_pointer.ensures, c.if-has_pointer.true) in
    ap (λ (z : ℕ). Some z) c.in_ok-offset.ensures ∙ sym (along_found cs c.in-Some.base (chain j cs c.in-Some.base) found)
    ∙ sym (c.loop-passed.invariant (suc j) h ∙ ap (pointer_along cs) (chain_some cs j c.loop-passed.below c.in-Some.base e))

pub loop-passed-preserved : goal.loop-passed-preserved
loop-passed-preserved c = λ k h.
    let cs : List Class = classes_of c.args.env.now.classes.items in
    let i : c.loop-passed._passed + suc k ≡ c.args.most = omega (arith, h) in
    let e : base_of cs c.loop-passed.below ≡ Some c.in-Some.base = cc (c.deref.ensures.value, c.in-Some.ensures) in
    let none : has_class_pointer cs c.in-Some.base ≡ false = cc (c.deref-in-loop-passed.ensures.value, c.has_pointer.ensures, c.if-has_pointer.false) in
    c.loop-passed.invariant (suc k) i ∙ ap (pointer_along cs) (chain_some cs k c.loop-passed.below c.in-Some.base e)
    ∙ along_next cs c.in-Some.base (chain k cs c.in-Some.base) none
