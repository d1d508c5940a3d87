use Rattle.std.proofs.Common.{◌≡◌, ◌+◌, length, sym, arith}
use Rattle.code_walk.proofs.Tails.{ends_is}
use Rattle.code_walk.proofs.words.ends_in.Goals as goal

pub returns-in-Some : goal.returns-in-Some
returns-in-Some c = let e : c.in-Some.end + 1 ≡ length c.args.name.now = omega (arith, c.in-Some.ensures) in
    sym (ends_is c.args.byte c.args.name.now c.in-Some.end e)
