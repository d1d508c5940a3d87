use Rattle.std.proofs.Common.{refl, arith}
use Rattle.cpp_syntax.specs.declared.terminal.Terminal.TheVariants as terminal
use Rattle.cpp_syntax.specs.Terminals.{open_paren, close_paren}
use Rattle.cpp_syntax.proofs.SingleTerminals.{passed, refused}
use Rattle.cpp_syntax.proofs.LongestMatches.{mark_none, word_none, seq_none, unless_none, unless_seen}
use Rattle.cpp_syntax.proofs.Readers.{leaves_none, leaves_same, leaves_both, leaves_read, reads_seq, reads_word, none_behind, none_seq, none_node}
use Rattle.cpp_syntax.proofs.ReaderLoops.{reads_unless}
use Rattle.cpp_parse_expr.proofs.ReaderAnswers.{made, mark_and, none_second_mark, parsed_err}
use Rattle.cpp_parse.proofs.initializers.parenthesized_initializer.Goals as goal

pub returns-then-not-is_at : goal.returns-then-not-is_at
returns-then-not-is_at c = (
  leaves_same c.expected_at.ensures,
  unless_none (none_node (seq_none (mark_none (refused open_paren terminal.OpenParen refl _
      (c.if-not-is_at.ensures.no refl))))),
)

pub returns-then-lookahead_parameters : goal.returns-then-lookahead_parameters
returns-then-lookahead_parameters c = (leaves_none _, unless_seen (c.if-lookahead_parameters.ensures.yes refl))

pub returns-in_err-descend : goal.returns-in_err-descend
returns-in_err-descend c = parsed_err _ _ _ _ c.from_residual.result c.from_residual.ensures.0 (leaves_none _)

pub expressions-requires : goal.expressions-requires
expressions-requires c = let i = c.if-not-is_at.ensures.inside refl refl in omega (arith, i)

pub returns-in_default : goal.returns-in_default
returns-in_default c =
    let x = rw c.in_default.is at c.in_ok-close.ensures in
    (x.0, unless_none (none_node (none_second_mark (none_seq x.1))))

pub returns-then-not-is_at-2 : goal.returns-then-not-is_at-2
returns-then-not-is_at-2 c =
    let x = rw c.in-Some.is at c.in_ok-close.ensures in (
      leaves_both (leaves_read x) (leaves_same c.expected_at-then-not-is_at-2.ensures),
      unless_none (none_node (none_second_mark (none_behind x (word_none (refused close_paren terminal.CloseParen refl _
          (c.if-not-is_at-2.ensures.no refl))) refl refl refl))),
    )

pub returns-in_err-node : goal.returns-in_err-node
returns-in_err-node c =
    parsed_err _ _ _ _ c.from_residual-in_err-node.result c.from_residual-in_err-node.ensures.0
    (leaves_both (leaves_read (rw c.in-Some.is at c.in_ok-close.ensures)) (leaves_same c.in_err-node.ensures.memory))

pub returns : goal.returns
returns c =
    let u = passed open_paren terminal.OpenParen refl _ (c.if-not-is_at.ensures.yes refl) in
    let v = passed close_paren terminal.CloseParen refl _ (c.if-not-is_at-2.ensures.yes refl) in
    reads_unless (c.if-lookahead_parameters.ensures.no refl) (made (mark_and u (c.if-not-is_at.ensures.inside refl refl)
    (reads_seq (rw c.in-Some.is at c.in_ok-close.ensures) (reads_word v (c.if-not-is_at-2.ensures.inside refl refl)) refl refl) refl refl)
    c.checkpoint-start.ensures c.in_ok-node.ensures.read)
