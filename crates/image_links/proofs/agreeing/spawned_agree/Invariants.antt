use Rattle.std.proofs.Common.{◌≡◌, drop, map}
use Rattle.tx_code.specs.Images.{image_func_view}
use Rattle.tx_code.specs.Views.{image_view}
use Rattle.tx_code.specs.Program.{names_of, func_address}
use Rattle.src_mean.specs.Source.{thread_signature}
use Rattle.src_bind.specs.Tables.{linked_of}
use Rattle.src_bind.specs.Bounds.{given}
use Rattle.image_links.specs.Books.{all_places, same_number}
use Rattle.image_links.specs.Agreeing.{spawned_agree}
use Rattle.image_links.proofs.agreeing.spawned_agree.Given as goal

abbrev pub invariant-loop-n : goal.invariant-loop-n
invariant-loop-n l = all_places (λ n. same_number ((names_of (image_view l.image)).spawned (func_address n))
    ((linked_of (given l.bound)).pointed (func_address n) thread_signature)) l.n (map image_func_view (drop l.n l.image.funcs.items))
    ≡ spawned_agree (image_view l.image) (given l.bound)
