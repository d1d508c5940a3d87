use Rattle.std.proofs.Common.{◌≤◌, ◌+◌, sym, ◌∙◌, arith}
use Rattle.std.specs.Prelude.{slice_index}
use Rattle.std.proofs.lemmas.Bool.{true≢false}
use Rattle.race_check.proofs.BlockSteps.{ahead_first, ahead_passed, ahead_more, ahead_left, ahead_all}
use Rattle.race_check.proofs.blocks.Blocks.gather_ahead.Goals as goal

pub ahead-init : goal.ahead-init
ahead-init c = ahead_first c.args.items.now c.args.j c.args.u (slice_index c.args.row.now.latest) c.requires.own

pub ahead-preserved-then-item-u : goal.ahead-preserved-then-item-u
ahead-preserved-then-item-u c =
    let low : c.args.j + 1 ≤ c.ahead.other = c.ahead.auto.other in
    ahead_passed c.args.items.now c.args.j c.args.u c.ahead.other c.item_at-item.result c.item_at-item.ensures (omega (arith, low))
    (slice_index c.ahead.row.latest) c.ahead.invariant
    c.if-item-u.true

pub returns-then-is_leave : goal.returns-then-is_leave
returns-then-is_leave c =
    let low : c.args.j + 1 ≤ c.ahead.other = c.ahead.auto.other in
    ahead_left c.args.items.now c.args.j c.args.u c.ahead.other c.item_at-item.result c.item_at-item.ensures (omega (arith, low))
    (slice_index c.ahead.row.latest) c.ahead.invariant
    c.if-item-u.false (c.is_leave.ensures.yes c.if-is_leave.true)

pub ahead-preserved : goal.ahead-preserved
ahead-preserved c =
    let low : c.args.j + 1 ≤ c.ahead.other = c.ahead.auto.other in
    ahead_more c.args.items.now c.args.j c.args.u c.ahead.other c.item_at-item.result c.item_at-item.ensures (omega (arith, low)) c.args.self.now
    (slice_index c.ahead.row.latest)
    (slice_index c.gather.new.row.latest) c.requires.so_far c.ahead.invariant c.if-item-u.false
    (λ q. true≢false (sym (c.is_leave.ensures.no q) ∙ c.if-is_leave.false)) c.gather.ensures

pub returns : goal.returns
returns c = ahead_all c.args.items.now c.args.j c.args.u c.ahead.other (slice_index c.ahead.row.latest) c.ahead-test.false c.ahead.invariant
