use Rattle.std.proofs.Common.{◌≡◌, ◌∙◌, ◌<◌, ◌-◌, ℕ, suc, ap, sym, subst, IfOk, arith}
use Rattle.cpp_tree.specs.cpp_types.Class.{Class, classes_of}
use Rattle.unit_entries.proofs.Steps.{pointer_has, pointer_below}
use Rattle.unit_entries.proofs.classes.+pointer_from.Goals as goal

pub returns-then-has_pointer : goal.returns-then-has_pointer
returns-then-has_pointer t c =
    let cs = classes_of c.args.classes.now in
    let l : 0 < c.args.most = omega (arith, c.if-most-eq0.false) in
    subst (λ (z : ℕ). IfOk c.end_of_base.result (λ n. n ≡ z))
    (pointer_has c.args.most cs c.args.class c.in_ok-found.found.now.base l (sym c.if-has_pointer.true ∙ c.has_pointer.ensures)
    (ap (λ (z : Class). z.base) c.in_ok-found.ensures.is)) c.end_of_base.ensures

pub returns-in-Some : goal.returns-in-Some
returns-in-Some t c =
    let cs = classes_of c.args.classes.now in
    let l : c.args.most ≡ suc (c.args.most - 1) = omega (arith, c.if-most-eq0.false) in
    subst (λ (z : ℕ). IfOk c.pointer_from.result (λ n. n ≡ z))
    (pointer_below (c.args.most - 1) c.args.most cs c.args.class c.in-Some.base l (sym c.if-has_pointer.false ∙ c.has_pointer.ensures)
    (ap (λ (z : Class). z.base) c.in_ok-found.ensures.is ∙ c.in-Some.is)) c.pointer_from.ensures
