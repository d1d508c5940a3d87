use Rattle.std.proofs.Common.{◌∙◌, refl, ap, sym, ℕ, Option, option_and_then, slice_get}
use Rattle.src_bind.specs.Numbers.{entry}
use Rattle.src_bind.specs.Bounds.{given}
use Rattle.src_bind.proofs.Looked.{slot_nowhere, slot_past, slot_is}
use Rattle.src_bind.proofs.bound_program.Bound.slot.Goals as goal

pub returns-in_err-number : goal.returns-in_err-number
returns-in_err-number c = c.from_residual.ensures ∙ slot_nowhere
    (given c.args.self.now) _ c.args.self.now.tables c.args.class c.args.slot c.args.address c.in_err-number.ensures

pub returns-in_err-place : goal.returns-in_err-place
returns-in_err-place c = c.from_residual-in_err-place.ensures
    ∙ slot_past (given c.args.self.now) _ c.args.self.now.tables c.args.class c.args.slot c.args.address c.in_ok-number.number c.in_ok-number.ensures
    (sym (c.in_err-place.ensures ∙ ap (λ z. slice_get z c.in_ok-number.number) c.deref.ensures.value))

pub returns-then-leads_to : goal.returns-then-leads_to
returns-then-leads_to c = slot_is (given c.args.self.now) _ c.args.self.now.tables c.args.class c.args.slot c.args.address c.in_ok-number.number
    c.in_ok-place.place _ _ c.in_ok-number.ensures (sym (c.in_ok-place.ensures ∙ ap (λ z. slice_get z c.in_ok-number.number) c.deref.ensures.value))
    c.if-leads_to.ensures
    (c.slot_at.ensures ∙ ap (λ z. option_and_then (λ (x : Option ℕ). x) (entry z c.in_ok-place.place c.args.slot)) c.deref-then-leads_to.ensures.value)

pub returns-else-leads_to : goal.returns-else-leads_to
returns-else-leads_to c = slot_is (given c.args.self.now) _ c.args.self.now.tables c.args.class c.args.slot c.args.address c.in_ok-number.number
    c.in_ok-place.place _ _ c.in_ok-number.ensures (sym (c.in_ok-place.ensures ∙ ap (λ z. slice_get z c.in_ok-number.number) c.deref.ensures.value))
    c.if-leads_to.ensures refl
