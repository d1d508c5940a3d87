use Rattle.std.proofs.Common.{◌≡◌, ◌<◌, ◌+◌, ◌-◌, drop, length, subst, sym, arith}
use Rattle.tx_code.specs.Signatures as spelling
use Rattle.tx_code.specs.Signatures.{ending}
use Rattle.code_walk.specs.Spellings.{inside_from}
use Rattle.code_walk.proofs.Tails.{bare, begins}
use Rattle.code_walk.proofs.words.tail_of.Goals as goal

pub returns-then-name-end-ne41-clause-is : goal.returns-then-name-end-ne41-clause-is
returns-then-name-end-ne41-clause-is c =
    let e : c.in-Some.end + 1 ≡ length c.args.name.now = omega (arith, c.in-Some.ensures) in
    bare c.args.name.now c.in-Some.end e (λ q. omega (arith, q))

pub returns-in-None-depth_with-clause-is : goal.returns-in-None-depth_with-clause-is
returns-in-None-depth_with-clause-is c =
    let e : c.bytes.at - 1 + 1 ≡ c.bytes.at = omega arith in
    let h : c.bytes.at - 1 < length c.args.name.now = omega (arith, c.bytes.invariant.within) in
    begins c.args.name.now (c.bytes.at - 1) c.bytes.depth h
    (subst (λ z. ending (drop z c.args.name.now) ≡ spelling.Open c.bytes.depth (inside_from c.args.name.now z))
    (sym e) c.bytes.invariant.ends) c.in-None-depth_with.ensures
