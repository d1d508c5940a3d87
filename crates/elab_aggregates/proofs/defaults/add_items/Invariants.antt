use Rattle.std.proofs.Common.{◌≡◌, drop}
use Rattle.elab_make.specs.elab_ctx.Ctx.{work_of}
use Rattle.elab_aggregates.specs.MemberPieces.{with_items}
use Rattle.elab_aggregates.proofs.defaults.add_items.Given as goal

abbrev pub invariant-loop-item : goal.invariant-loop-item
invariant-loop-item l = (with_items (work_of l.work) (drop l.item-index l.items) ≡ with_items (work_of l.fn.work) l.items)
    × (l.work.nodes.items ≡ l.fn.work.nodes.items)
