use Rattle.std.proofs.Common.{◌≡◌, map, take, length}
use Rattle.tx_code.specs.Objects.{func_view, FuncView}
use Rattle.link_faults.specs.Unlisted.{AreMarks}
use Rattle.link_faults.proofs.unlisted.listed_funcs.Given as goal

abbrev pub invariant-loop-func : goal.invariant-loop-func
invariant-loop-func l = AreMarks (map (λ (f : FuncView). f.symbol) (map func_view (take l.func-index l.object.funcs.items))) l.marks.items
    × (length l.marks.items ≡ length l.object.names.items)
