use Rattle.std.proofs.Common.{◌≡◌, map, take, length}
use Rattle.tx_code.specs.Objects.{global_view, GlobalView}
use Rattle.link_faults.specs.Unlisted.{AreMarks}
use Rattle.link_faults.proofs.unlisted.listed_globals.Given as goal

abbrev pub invariant-loop-global : goal.invariant-loop-global
invariant-loop-global l = AreMarks (map (λ (g : GlobalView). g.symbol) (map global_view (take l.global-index l.object.globals.items))) l.marks.items
    × (length l.marks.items ≡ length l.object.names.items)
