use Rattle.std.proofs.Common.{false, ◌≡◌, map, take}
use Rattle.std.specs.List.{list_any}
use Rattle.link_tables.specs.Found.{func_row}
use Rattle.link_parts.specs.Parts.{is_main_row}
use Rattle.link_parts.proofs.parts.main_of.Given as goal

abbrev pub invariant-loop-func : goal.invariant-loop-func
invariant-loop-func l = (l.number ≡ l.func-index) × (list_any is_main_row (map func_row (take l.func-index l.kept)) ≡ false)
