use Rattle.std.proofs.Common.{◌≡◌, ◌≤◌, length, arith}
use Rattle.cpp_syntax.proofs.BracketPairs.{all_paired, begun}
use Rattle.cpp_syntax.proofs.partners.partners.Goals as goal

pub returns : goal.returns
returns c =
    let low = c.loop-at-test.false in
    let high : c.loop-at.at ≤ length c.args.terminals.now = c.loop-at.auto.at-end in
    let whole : c.loop-at.at ≡ length c.args.terminals.now = omega (arith, low, high) in
    all_paired c.args.terminals.now c.loop-at.partners.items c.loop-at.opened.items c.loop-at.at c.loop-at.invariant whole
