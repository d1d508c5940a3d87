use Rattle.std.proofs.Common.{rules, ◌≡◌, true}
use Rattle.cpp_syntax.specs.Balance.{terminal_in}
use Rattle.cpp_syntax.specs.Terminals.{is_unbracketed}
use Rattle.cpp_syntax.proofs.BracketPairs.{passed_one}
use Rattle.cpp_syntax.proofs.partners.pass.Goals as goal

pub returns-else-not-is_unbracketed : goal.returns-else-not-is_unbracketed
returns-else-not-is_unbracketed c =
    let plain : is_unbracketed (terminal_in c.args.terminals.now c.args.at) ≡ true = search rules in
    passed_one c.args.terminals.now c.args.partners.now.items c.args.opened.now.items c.args.at c.requires.paired plain
