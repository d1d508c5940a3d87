use Rattle.std.proofs.Common.{◌≡◌, ◌∙◌, ℕ, zero, suc, ◌+◌, ◌-◌, length, true, false, sym, ap, arith}
use Rattle.std.specs.Prelude.{Some, None}
use Rattle.cpp_tree.specs.cpp_types.Equal.{name_eq}
use Rattle.cpp_tree.specs.cpp_types.Class.{class_of, classes_of}
use Rattle.low_code.proofs.Bases.{has_none, has_here, has_next}
use Rattle.low_code.proofs.caught.is_or_has_base.Goals as goal

pub returns-then-is_name : goal.returns-then-is_name
returns-then-is_name c =
    let cs = classes_of c.args.classes.now in
    let k : ℕ = length c.args.classes.now - c.loop.counter in
    let h : c.loop.counter + k ≡ length c.args.classes.now = omega arith in
    let is : name_eq c.loop.below.now.name.items c.args.name.now ≡ true =
    ap (λ z. name_eq z c.args.name.now) (sym c.deref.ensures.value) ∙ sym c.is_name.ensures ∙ c.if-is_name.true in
    sym (c.loop.invariant k h ∙ has_here k cs c.args.name.now (class_of c.loop.below.now) is)

pub returns-in-None : goal.returns-in-None
returns-in-None c =
    let cs = classes_of c.args.classes.now in
    let k : ℕ = length c.args.classes.now - (c.loop.counter + 1) in
    let h : c.loop.counter + suc k ≡ length c.args.classes.now = omega arith in
    let is : name_eq c.loop.below.now.name.items c.args.name.now ≡ false =
    ap (λ z. name_eq z c.args.name.now) (sym c.deref.ensures.value) ∙ sym c.is_name.ensures ∙ c.if-is_name.false in
    sym (c.loop.invariant (suc k) h ∙ has_next k cs c.args.name.now (class_of c.loop.below.now) None is c.in-None.ensures ∙ has_none k cs c.args.name.now)

pub loop-preserved : goal.loop-preserved
loop-preserved c k e =
    let cs = classes_of c.args.classes.now in
    let h : c.loop.counter + suc k ≡ length c.args.classes.now = omega arith in
    let is : name_eq c.loop.below.now.name.items c.args.name.now ≡ false =
    ap (λ z. name_eq z c.args.name.now) (sym c.deref.ensures.value) ∙ sym c.is_name.ensures ∙ c.if-is_name.false in
    c.loop.invariant (suc k) h ∙ has_next k cs c.args.name.now (class_of c.loop.below.now) (Some (class_of c.in-Some.found.now)) is c.in-Some.ensures

pub returns : goal.returns
returns c =
    let cs = classes_of c.args.classes.now in
    let h : c.loop.counter + zero ≡ length c.args.classes.now = omega arith in
    c.is_name-2.ensures ∙ ap (λ z. name_eq z c.args.name.now) c.deref-2.ensures.value ∙ sym (c.loop.invariant zero h)
