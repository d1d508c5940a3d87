use Rattle.std.proofs.Common.{sym}
use Rattle.cpp_syntax.proofs.TokenClasses.{end_last}
use Rattle.cpp_syntax.proofs.outline.end.Goals as goal

pub returns-in-Some : goal.returns-in-Some
returns-in-Some c = end_last c.args.tokens.now c.in-Some.token.now (sym c.in-Some.ensures.value)
