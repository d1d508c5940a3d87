use Rattle.std.proofs.Common.{◌≡◌, drop, map}
use Rattle.std.specs.List.{list_all}
use Rattle.tx_code.specs.WellFormed.{global_fits}
use Rattle.tx_code.specs.Objects.{global_view}
use Rattle.object_check.proofs.entries.globals_fit.Given as goal

abbrev pub invariant-loop-global : goal.invariant-loop-global
invariant-loop-global l = list_all (global_fits l.names) (map global_view l.globals)
    ≡ list_all (global_fits l.names) (map global_view (drop l.global-index l.globals))
