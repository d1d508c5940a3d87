use Rattle.std.proofs.Common.{◌≡◌, sym}
use Rattle.cpp_syntax.proofs.names.TypeNames.lookahead_declaration.Goals as goal

pub returns-clause-yes : goal.returns-clause-yes
returns-clause-yes c = rw (← c.self.view_is) c.lookahead_declaration.ensures.yes

pub returns-clause-no : goal.returns-clause-no
returns-clause-no c = rw (← c.self.view_is) c.lookahead_declaration.ensures.no
