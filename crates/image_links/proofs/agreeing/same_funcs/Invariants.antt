use Rattle.std.proofs.Common.{◌≡◌, drop, map}
use Rattle.tx_code.specs.Images.{image_func_view}
use Rattle.tx_code.specs.Views.{image_view}
use Rattle.src_bind.specs.Tables.{linked_of}
use Rattle.src_bind.specs.Bounds.{given}
use Rattle.image_links.specs.Agreeing.{same_funcs}
use Rattle.image_links.proofs.agreeing.same_funcs.Given as goal

abbrev pub invariant-loop-n : goal.invariant-loop-n
invariant-loop-n l = same_funcs (linked_of (given l.bound)) l.n (map image_func_view (drop l.n l.image.funcs.items))
    ≡ same_funcs (linked_of (given l.bound)) 0 (image_view l.image).funcs
