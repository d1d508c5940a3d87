use Rattle.std.proofs.Common.{rules, Some, ap, sym, ◌∙◌}
use Rattle.std.specs.Prelude.{slice_get}
use Rattle.std.proofs.lemmas.Option.{slice_get-get_or}
use Rattle.src_bind.specs.Bounds.{given}
use Rattle.image_notes.proofs.Held.{more_noted_at, all_noted}
use Rattle.image_notes.proofs.bodies.all_have_notes.Goals as goal

pub loop-n-preserved : goal.loop-n-preserved
loop-n-preserved c =
    let there = ap (λ z. slice_get z c.loop-n.n) (sym c.deref-func-items.ensures.value) ∙ slice_get-get_or c.deref-func-items.result.now c.loop-n.n _ c.loop-n-test.true ∙ ap (λ z. Some z) (sym c.func-item.is) in
    more_noted_at c.args.image.now (given c.args.bound.now) c.in-Ok.number c.loop-n.n c.func-item.result (c.in_ok-func_has_notes.ensures c.if-not-branch.false) (search rules) there c.loop-n.invariant

pub returns : goal.returns
returns c told = all_noted c.args.image.now (given c.args.bound.now) _ (search rules) c.loop-n.invariant
