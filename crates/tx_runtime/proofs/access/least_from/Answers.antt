use Rattle.std.proofs.Common.{◌/◌, ◌^◌, arith}
use Rattle.std.specs.Int.{w64}
use Rattle.std.proofs.lemmas.Nat.Bits.{bit_at-trailing_zeros}
use Rattle.tx_runtime.proofs.SetBits.{none_left, none_between, one_there, less_left}
use Rattle.tx_runtime.proofs.access.least_from.Goals as goal

pub returns-then-rest-eq0-clause-none : goal.returns-then-rest-eq0-clause-none
returns-then-rest-eq0-clause-none c = none_left c.args.threads c.args.from c.if-rest-eq0.true

pub returns-clause-there : goal.returns-clause-there
returns-clause-there c =
    let rest = c.args.threads / 2 ^ c.args.from in
    let lowest = bit_at-trailing_zeros w64 rest (omega (arith, c.if-rest-eq0.false)) (less_left c.args.threads c.args.from c.ranges.threads.fits) in
    one_there c.args.threads c.args.from _ lowest.1

pub returns-clause-least : goal.returns-clause-least
returns-clause-least c =
    let rest = c.args.threads / 2 ^ c.args.from in
    let lowest = bit_at-trailing_zeros w64 rest (omega (arith, c.if-rest-eq0.false)) (less_left c.args.threads c.args.from c.ranges.threads.fits) in
    none_between c.args.threads c.args.from _ lowest.2
