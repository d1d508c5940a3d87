use Rattle.std.proofs.Common.{◌≡◌, drop}
use Rattle.std.specs.List.{list_all}
use Rattle.tx_code.specs.WellFormed.{is_name_or_none}
use Rattle.object_check.proofs.entries.slots_fit.Given as goal

abbrev pub invariant-loop-slot : goal.invariant-loop-slot
invariant-loop-slot l = list_all (is_name_or_none l.names) l.slots ≡ list_all (is_name_or_none l.names) (drop l.slot-index l.slots)
