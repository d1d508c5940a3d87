use Rattle.std.proofs.Common.{◌≡◌, ℕ, zero, suc, ◌+◌, ◌-◌, List, Option, Some, None, option_map, sym, ap, ◌∙◌, arith}
use Rattle.elab_conv.specs.cpp_types.Class.{Class, classes_of, base_of}
use Rattle.elab_conv.specs.cpp_types.Conversion.{chain}
use Rattle.elab_conv.specs.elab_ctx.Ctx.{Ctx, ctx_of}
use Rattle.elab_conv.specs.elab_rules.Names.{Found, found_along, own_member, or_else}
use Rattle.elab_names.specs.Members.{found_of}
use Rattle.elab_names.proofs.Chains.{chain_none, chain_some}
use Rattle.elab_names.proofs.members.inherited_member.Goals as goal

pub returns-in_default : goal.returns-in_default
returns-in_default c =
    let cs : List Class = classes_of c.args.env.now.classes.items in
    let j : ℕ = c.args.most - (c.loop-passed._passed + 1) in
    let h : c.loop-passed._passed + suc j ≡ c.args.most = omega arith in
    let e : base_of cs c.loop-passed.below ≡ None = cc (c.deref.ensures.value, c.in_default.ensures) in
    sym (c.loop-passed.invariant (suc j) h ∙ ap (found_along (ctx_of c.args.env.now) c.args.name.now) (chain_none cs j c.loop-passed.below e))

pub returns-in-Some-2 : goal.returns-in-Some-2
returns-in-Some-2 c =
    let cs : List Class = classes_of c.args.env.now.classes.items in
    let C : Ctx = ctx_of c.args.env.now in
    let j : ℕ = c.args.most - (c.loop-passed._passed + 1) in
    let h : c.loop-passed._passed + suc j ≡ c.args.most = omega arith in
    let e : base_of cs c.loop-passed.below ≡ Some c.in-Some.base = cc (c.deref.ensures.value, c.in-Some.ensures) in
    let o : own_member C c.args.name.now c.in-Some.base ≡ Some (found_of c.in-Some-2.found) = sym c.in_ok-found.ensures
    ∙ ap (option_map found_of) c.in-Some-2.is in
    sym (c.loop-passed.invariant (suc j) h ∙ ap (found_along C c.args.name.now) (chain_some cs j c.loop-passed.below c.in-Some.base e)
    ∙ ap (λ (z : Option Found). or_else z (found_along C c.args.name.now (chain j cs c.in-Some.base))) o)

pub loop-passed-preserved : goal.loop-passed-preserved
loop-passed-preserved c k e0 =
    let cs : List Class = classes_of c.args.env.now.classes.items in
    let C : Ctx = ctx_of c.args.env.now in
    let h : c.loop-passed._passed + suc k ≡ c.args.most = omega arith in
    let e : base_of cs c.loop-passed.below ≡ Some c.in-Some.base = cc (c.deref.ensures.value, c.in-Some.ensures) in
    let o : own_member C c.args.name.now c.in-Some.base ≡ None = sym c.in_ok-found.ensures ∙ ap (option_map found_of) c.in-None.is in
    c.loop-passed.invariant (suc k) h ∙ ap (found_along C c.args.name.now) (chain_some cs k c.loop-passed.below c.in-Some.base e)
    ∙ ap (λ (z : Option Found). or_else z (found_along C c.args.name.now (chain k cs c.in-Some.base))) o

pub returns : goal.returns
returns c =
    let h : c.loop-passed._passed + zero ≡ c.args.most = omega arith in
    sym (c.loop-passed.invariant zero h)
