use Rattle.std.proofs.Common.{refl, arith}
use Rattle.cpp_syntax.specs.declared.terminal.Terminal.TheVariants as terminal
use Rattle.cpp_syntax.specs.Terminals.{return_word, semicolon}
use Rattle.cpp_syntax.proofs.SingleTerminals.{passed, refused}
use Rattle.cpp_syntax.proofs.LongestMatches.{word_none}
use Rattle.cpp_syntax.proofs.Readers.{leaves_same, leaves_both, leaves_read, reads_seq, reads_word, none_behind, none_node}
use Rattle.cpp_syntax.proofs.ReaderLoops.{within}
use Rattle.cpp_parse_expr.proofs.ReaderAnswers.{made, mark_and, none_second_mark, parsed_err}
use Rattle.cpp_parse.proofs.statements.return_statement.Goals as goal

pub returned_value-requires : goal.returned_value-requires
returned_value-requires c = let i = within c.args.text.now c.args.at return_word refl c.requires.begins in omega (arith, i)

pub returns-then-not-is_at : goal.returns-then-not-is_at
returns-then-not-is_at c =
    let x = c.in_ok-close.ensures in (
      leaves_both (leaves_read x) (leaves_same c.expected_at.ensures),
      none_node (none_second_mark (none_behind x (word_none (refused semicolon terminal.Semicolon refl _ (c.if-not-is_at.ensures.no refl))) refl refl refl)),
    )

pub returns-in_err-node : goal.returns-in_err-node
returns-in_err-node c =
    parsed_err _ _ _ _ c.from_residual-in_err-node.result c.from_residual-in_err-node.ensures.0
    (leaves_both (leaves_read c.in_ok-close.ensures) (leaves_same c.in_err-node.ensures.memory))

pub returns : goal.returns
returns c =
    let v = passed semicolon terminal.Semicolon refl _ (c.if-not-is_at.ensures.yes refl) in
    made (mark_and c.requires.begins (within c.args.text.now c.args.at return_word refl c.requires.begins)
    (reads_seq c.in_ok-close.ensures (reads_word v (c.if-not-is_at.ensures.inside refl refl)) refl refl) refl refl) c.checkpoint-start.ensures
    c.in_ok-node.ensures.read
