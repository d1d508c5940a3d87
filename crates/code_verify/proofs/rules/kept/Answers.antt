use Rattle.std.proofs.Common.{◌≡◌, ◌+◌, sym, ap, arith}
use Rattle.std.specs.Option.{option_map_or}
use Rattle.code_walk.proofs.Depths.{less_some}
use Rattle.code_verify.proofs.rules.kept.Goals as goal

pub returns-in-Some : goal.returns-in-Some
returns-in-Some c =
    let a : c.args.words + c.in-Some.rest ≡ c.args.depth = omega (arith, c.in-Some.ensures) in
    sym (ap (λ o. option_map_or (λ r. r) o c.args.depth) (less_some c.args.words c.args.depth c.in-Some.rest a))
