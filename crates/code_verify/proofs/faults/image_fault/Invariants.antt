use Rattle.std.proofs.Common.{◌≡◌, map, drop}
use Rattle.tx_code.specs.Images.{image_func_view}
use Rattle.tx_code.specs.Sound.{table_of}
use Rattle.tx_code.specs.Views.{image_view}
use Rattle.code_verify.specs.Faults.{first_of_funcs, image_fault}
use Rattle.code_verify.proofs.faults.image_fault.Given as goal

abbrev pub invariant-loop-number : goal.invariant-loop-number
invariant-loop-number l = image_fault (image_view l.image)
    ≡ first_of_funcs (table_of (image_view l.image)) l.number (map image_func_view (drop l.number l.image.funcs.items))
