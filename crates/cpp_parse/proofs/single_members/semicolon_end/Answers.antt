use Rattle.std.proofs.Common.{refl}
use Rattle.cpp_syntax.specs.declared.terminal.Terminal.TheVariants as terminal
use Rattle.cpp_syntax.specs.Terminals.{semicolon}
use Rattle.cpp_syntax.proofs.SingleTerminals.{passed, refused}
use Rattle.cpp_syntax.proofs.LongestMatches.{word_none}
use Rattle.cpp_syntax.proofs.Readers.{reads_word, reads_taken, reads_left_out}
use Rattle.cpp_parse.proofs.single_members.semicolon_end.Goals as goal

pub returns-then-is_at : goal.returns-then-is_at
returns-then-is_at c =
    λ old. reads_taken (reads_word (passed semicolon terminal.Semicolon refl _ (c.if-is_at.ensures.yes refl)) (c.if-is_at.ensures.inside refl refl))
    refl

pub returns : goal.returns
returns c = λ old. reads_left_out (word_none (refused semicolon terminal.Semicolon refl _ (c.if-is_at.ensures.no refl))) c.requires.here refl
