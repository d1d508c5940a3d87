use Rattle.std.proofs.Common.{◌≡◌, ◌≤◌, ◌+◌, subst, arith}
use Rattle.std.specs.Prelude.{slice_index}
use Rattle.race_check.specs.Blocks.{Putting}
use Rattle.race_check.proofs.BlockSteps.{putting_first, putting_passed, putting_more}
use Rattle.race_check.proofs.blocks.Blocks.put_block.Goals as goal

pub inside-init : goal.inside-init
inside-init c = putting_first c.args.items.now c.args.self.now c.args.t c.args.l c.args.from c.requires.so_far

pub inside-preserved-then-item-t : goal.inside-preserved-then-item-t
inside-preserved-then-item-t c =
    putting_passed c.args.items.now c.args.t c.args.l c.args.from c.inside.k c.item_at-item.result c.item_at-item.ensures c.inside.self c.if-item-t.true
    c.inside.invariant

pub inside-preserved : goal.inside-preserved
inside-preserved c =
    let low : c.args.from + 1 ≤ c.inside.k = c.inside.auto.k in
    putting_more c.args.items.now c.args.t c.args.l c.args.from c.inside.k c.item_at-item.result c.item_at-item.ensures c.inside.self c.put_access.new.self
    (slice_index c.args.whole.now.latest) c.if-item-t.false
    (omega (arith, low)) c.requires.whole c.in_ok-put_access.ensures.writers c.in_ok-put_access.ensures.users c.inside.invariant

pub returns : goal.returns
returns c =
    let most = c.inside.auto.k-end in
    let order = c.requires.order in
    let end : c.inside.k ≡ c.args.l = omega (arith, c.inside-test.false, most (omega (arith, order))) in
    subst (λ z. Putting c.args.items.now c.inside.self c.args.t c.args.l c.args.from z) end c.inside.invariant
