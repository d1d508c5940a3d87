use Rattle.std.proofs.Common.{◌≡◌, map}
use Rattle.cpp_lex.specs.Tokens.{lexeme_of}
use Rattle.cpp_syntax.specs.Classes.{class_at, each_below}
use Rattle.cpp_syntax.proofs.classes.terminals.Given as goal

abbrev pub invariant-loop-at : goal.invariant-loop-at
invariant-loop-at l = l.terminals.items ≡ each_below (class_at (map lexeme_of l.tokens)) l.at
