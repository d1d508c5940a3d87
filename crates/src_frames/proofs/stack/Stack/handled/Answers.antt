use Rattle.std.proofs.Common.{◌≡◌, ◌∙◌, ◌-◌, Some, None, length, get_or, sym, ap, arith}
use Rattle.std.specs.Prelude.{slice_get}
use Rattle.std.proofs.lemmas.Option.{slice_get_within, get_or_from_slice_get}
use Rattle.src_frames.specs.Sorts.{handling}
use Rattle.src_frames.proofs.Handlers.{Newest, none_last, some_last}
use Rattle.src_frames.proofs.stack.Stack.handled.Goals as goal

pub index-requires : goal.index-requires
index-requires c =
    let stack = c.args.self.now in
    let last : slice_get stack.handlers.items (length stack.handlers.items - 1) ≡ Some c.in-Some.place.now =
    sym (c.in-Some.ensures.value ∙ ap (λ z. slice_get z (length z - 1)) c.deref.ensures.value) in
    let h : Newest 0 stack.list.items c.in-Some.place.now = some_last stack.list.items stack.handlers.items c.in-Some.place.now stack.entered last in
    omega (arith, stack.list.ok, h.place, slice_get_within stack.list.items h.index h.frame h.there)

pub returns-in-Some : goal.returns-in-Some
returns-in-Some c =
    let stack = c.args.self.now in
    let fs = stack.list.items in
    let f = c.index.result.now in
    let last : slice_get stack.handlers.items (length stack.handlers.items - 1) ≡ Some c.in-Some.place.now =
    sym (c.in-Some.ensures.value ∙ ap (λ z. slice_get z (length z - 1)) c.deref.ensures.value) in
    let h : Newest 0 fs c.in-Some.place.now = some_last fs stack.handlers.items c.in-Some.place.now stack.entered last in
    let place : c.in-Some.place.now ≡ h.index = omega (arith, h.place) in
    let same : f ≡ h.frame = c.index.ensures ∙ (ap (λ z. get_or fs z f) place ∙ get_or_from_slice_get fs h.index h.frame f h.there) in
    c.handled_at.ensures ∙ (ap handling same ∙ (h.handles ∙ sym h.newest))

pub returns-in-None : goal.returns-in-None
returns-in-None c =
    let stack = c.args.self.now in
    let last : slice_get stack.handlers.items (length stack.handlers.items - 1) ≡ None =
    sym (c.in-None.ensures.value ∙ ap (λ z. slice_get z (length z - 1)) c.deref.ensures.value) in
    sym (none_last stack.list.items stack.handlers.items stack.entered last)
