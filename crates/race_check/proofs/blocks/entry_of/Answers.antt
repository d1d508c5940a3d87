use Rattle.std.proofs.Common.{◌≡◌, ◌<◌, ◌+◌, ◌-◌, sym, ◌∙◌, subst, arith}
use Rattle.std.proofs.lemmas.Bool.{true≢false}
use Rattle.race_check.proofs.BlockSteps.{Back, back_first, back_further, back_entered, back_left, back_all}
use Rattle.race_check.proofs.blocks.entry_of.Goals as goal

pub back-init : goal.back-init
back-init c = back_first c.args.items.now c.args.t c.args.l

pub back-preserved-then-item-t : goal.back-preserved-then-item-t
back-preserved-then-item-t c =
    let k = c.back.k - 1 in
    let next : c.back.k ≡ c.back.k - 1 + 1 = omega (arith, c.back-test.true) in
    let lt : c.back.k - 1 < c.args.l = (let le = c.back.invariant.within in omega (arith, c.back-test.true, le)) in
    let h = subst (λ z. Back c.args.items.now c.args.t c.args.l z c.back.found) next c.back.invariant in
    back_further c.args.items.now c.args.t c.args.l k c.item_at-item.result c.item_at-item.ensures lt c.back.found h (λ e q. c.if-item-t.true e)
    (λ e q. c.if-item-t.true e)

pub returns-then-is_leave : goal.returns-then-is_leave
returns-then-is_leave c =
    let k = c.back.k - 1 in
    let next : c.back.k ≡ c.back.k - 1 + 1 = omega (arith, c.back-test.true) in
    let lt : c.back.k - 1 < c.args.l = (let le = c.back.invariant.within in omega (arith, c.back-test.true, le)) in
    let h = subst (λ z. Back c.args.items.now c.args.t c.args.l z c.back.found) next c.back.invariant in
    back_left c.args.items.now c.args.t c.args.l k c.item_at-item.result c.item_at-item.ensures lt c.back.found h c.if-item-t.false
    (c.is_leave.ensures.yes c.if-is_leave.true)

pub back-preserved-then-is_enter : goal.back-preserved-then-is_enter
back-preserved-then-is_enter c =
    let k = c.back.k - 1 in
    let next : c.back.k ≡ c.back.k - 1 + 1 = omega (arith, c.back-test.true) in
    let lt : c.back.k - 1 < c.args.l = (let le = c.back.invariant.within in omega (arith, c.back-test.true, le)) in
    let h = subst (λ z. Back c.args.items.now c.args.t c.args.l z c.back.found) next c.back.invariant in
    back_entered c.args.items.now c.args.t c.args.l k c.item_at-item.result c.item_at-item.ensures lt c.back.found h c.if-item-t.false
    (c.is_enter.ensures.yes c.if-is_enter.true)

pub back-preserved : goal.back-preserved
back-preserved c =
    let k = c.back.k - 1 in
    let next : c.back.k ≡ c.back.k - 1 + 1 = omega (arith, c.back-test.true) in
    let lt : c.back.k - 1 < c.args.l = (let le = c.back.invariant.within in omega (arith, c.back-test.true, le)) in
    let h = subst (λ z. Back c.args.items.now c.args.t c.args.l z c.back.found) next c.back.invariant in
    back_further c.args.items.now c.args.t c.args.l k c.item_at-item.result c.item_at-item.ensures lt c.back.found h
    (λ e q. true≢false (sym (c.is_leave.ensures.no q) ∙ c.if-is_leave.false)) (λ e q. true≢false (sym (c.is_enter.ensures.no q) ∙ c.if-is_enter.false))

pub returns : goal.returns
returns c = back_all c.args.items.now c.args.t c.args.l c.back.k c.back.found (omega (arith, c.back-test.false)) c.back.invariant
