use Rattle.std.proofs.Common.{refl}
use Rattle.cpp_syntax.specs.declared.terminal.Terminal.TheVariants as terminal
use Rattle.cpp_syntax.specs.Terminals.{optimize_word, open_bracket, close_bracket}
use Rattle.cpp_syntax.proofs.SingleTerminals.{passed, refused}
use Rattle.cpp_syntax.proofs.LongestMatches.{word_none, mark_none, seq_none}
use Rattle.cpp_syntax.proofs.Readers.{none_node}
use Rattle.cpp_parse_expr.proofs.ReaderAnswers.{none_second, none_second_mark}
use Rattle.cpp_parse.proofs.SpecifierReaders.{attribute_there}
use Rattle.cpp_parse.proofs.specifiers.behind_attribute.Goals as goal

pub returns-then-not-is_at : goal.returns-then-not-is_at
returns-then-not-is_at c = none_node (seq_none (word_none (refused open_bracket terminal.OpenBracket refl _ (c.if-not-is_at.ensures.no refl))))

pub returns-then-not-is_at-2 : goal.returns-then-not-is_at-2
returns-then-not-is_at-2 c =
    none_node (none_second (seq_none (word_none (refused open_bracket terminal.OpenBracket refl _ (c.if-not-is_at-2.ensures.no refl)))))

pub returns-then-not-is_at-3 : goal.returns-then-not-is_at-3
returns-then-not-is_at-3 c =
    none_node (none_second (none_second (seq_none (mark_none (refused optimize_word terminal.OptimizeForSynchronized refl _
    (c.if-not-is_at-3.ensures.no refl))))))

pub returns-then-not-is_at-4 : goal.returns-then-not-is_at-4
returns-then-not-is_at-4 c =
    none_node (none_second (none_second (none_second_mark (seq_none (word_none (refused close_bracket terminal.CloseBracket refl _
    (c.if-not-is_at-4.ensures.no refl)))))))

pub returns-then-not-is_at-5 : goal.returns-then-not-is_at-5
returns-then-not-is_at-5 c =
    none_node (none_second (none_second (none_second_mark (none_second (word_none (refused close_bracket terminal.CloseBracket refl _
    (c.if-not-is_at-5.ensures.no refl)))))))

pub returns : goal.returns
returns c =
    attribute_there c.args.text.now c.args.at (passed open_bracket terminal.OpenBracket refl _ (c.if-not-is_at.ensures.yes refl))
    (passed open_bracket terminal.OpenBracket refl _ (c.if-not-is_at-2.ensures.yes refl))
    (passed optimize_word terminal.OptimizeForSynchronized refl _ (c.if-not-is_at-3.ensures.yes refl))
    (passed close_bracket terminal.CloseBracket refl _ (c.if-not-is_at-4.ensures.yes refl))
    (passed close_bracket terminal.CloseBracket refl _ (c.if-not-is_at-5.ensures.yes refl)) (c.if-not-is_at-5.ensures.inside refl refl)
