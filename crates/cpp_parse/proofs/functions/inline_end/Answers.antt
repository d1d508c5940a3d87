use Rattle.std.proofs.Common.{refl}
use Rattle.cpp_syntax.specs.declared.terminal.Terminal.TheVariants as terminal
use Rattle.cpp_syntax.specs.Terminals.{inline_word}
use Rattle.cpp_syntax.proofs.SingleTerminals.{passed, refused}
use Rattle.cpp_parse.proofs.DefinitionKinds.{inline_taken, inline_left_out}
use Rattle.cpp_parse.proofs.functions.inline_end.Goals as goal

pub returns-then-is_at : goal.returns-then-is_at
returns-then-is_at c = inline_taken (passed inline_word terminal.Inline refl _ (c.if-is_at.ensures.yes refl)) (c.if-is_at.ensures.inside refl refl)

pub returns : goal.returns
returns c = inline_left_out (refused inline_word terminal.Inline refl _ (c.if-is_at.ensures.no refl)) c.requires.here
