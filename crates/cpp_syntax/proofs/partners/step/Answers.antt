use Rattle.std.proofs.Common.{rules, ◌≡◌, false}
use Rattle.cpp_syntax.specs.Balance.{terminal_in}
use Rattle.cpp_syntax.specs.FirstSets.{opens}
use Rattle.cpp_syntax.proofs.BracketPairs.{kept_one}
use Rattle.cpp_syntax.proofs.partners.step.Goals as goal

pub returns : goal.returns
returns c =
    let other : opens (terminal_in c.args.terminals.now c.args.at) ≡ false = search rules in
    kept_one c.args.terminals.now c.pass.new.partners.items c.pass.new.opened.items c.push.new.self.items c.args.at c.pass.ensures other
    c.in_ok-push.ensures.items
