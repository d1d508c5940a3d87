use Rattle.std.proofs.Common.{◌≡◌, map, take}
use Rattle.tx_code.specs.Images.{image_func_view}
use Rattle.link_tables.specs.Found.{func_row}
use Rattle.link_parts.specs.Parts.{func_told}
use Rattle.link_parts.proofs.parts.funcs_of.Given as goal

abbrev pub invariant-loop-func : goal.invariant-loop-func
invariant-loop-func l = map image_func_view l.funcs.items ≡ map (func_told l.numbers) (map func_row (take l.func-index l.kept))
