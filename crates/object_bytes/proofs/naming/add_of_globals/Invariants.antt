use Rattle.std.proofs.Common.{◌≡◌, ◌++◌, take, map}
use Rattle.std.specs.List.{flat_map}
use Rattle.tx_code.specs.Objects.{global_view}
use Rattle.tx_code.specs.WellFormed.{named_by_global}
use Rattle.object_bytes.proofs.naming.add_of_globals.Given as goal

abbrev pub invariant-loop-global : goal.invariant-loop-global
invariant-loop-global l = l.out.items ≡ l.fn.out.items ++ flat_map named_by_global (map global_view (take l.global-index l.globals))
