use Rattle.cpp_syntax.proofs.BracketPairs.{opened_one}
use Rattle.cpp_syntax.proofs.partners.open.Goals as goal

pub returns : goal.returns
returns c =
    opened_one c.args.terminals.now c.args.partners.now.items c.args.opened.now.items c.push-2.new.self.items c.push.new.self.items c.args.at
    c.requires.paired c.requires.opening c.in_ok-push.ensures.items c.in_ok-push-2.ensures.items
