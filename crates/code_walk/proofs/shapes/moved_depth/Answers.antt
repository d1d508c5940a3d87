use Rattle.std.proofs.Common.{◌≡◌, ◌+◌, Some, sym, ap, ◌∙◌, arith}
use Rattle.tx_code.specs.Shapes.{grown}
use Rattle.code_walk.proofs.Depths.{less_some, more_is}
use Rattle.code_walk.proofs.shapes.moved_depth.Goals as goal

pub returns-in-Some-checked_add : goal.returns-in-Some-checked_add
returns-in-Some-checked_add c =
    let a : c.args.takes + c.in-Some.rest ≡ c.args.depth = omega (arith, c.in-Some.ensures) in
    let b : c.args.gives + c.in-Some.rest ≡ c.in-Some-checked_add.depth = omega (arith, c.in-Some-checked_add.ensures) in
    sym (ap (grown c.args.gives) (less_some c.args.takes c.args.depth c.in-Some.rest a)
    ∙ ap Some (more_is c.args.gives c.in-Some.rest c.in-Some-checked_add.depth b))
