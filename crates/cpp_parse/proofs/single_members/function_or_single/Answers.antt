use Rattle.std.proofs.Common.{refl}
use Rattle.cpp_syntax.specs.declared.terminal.Terminal.TheVariants as terminal
use Rattle.cpp_syntax.specs.Terminals.{open_brace, semicolon}
use Rattle.cpp_syntax.specs.Rules.{member_declarator}
use Rattle.cpp_syntax.proofs.SingleTerminals.{passed, refused}
use Rattle.cpp_syntax.proofs.LongestMatches.{word_none, seq_none, node_none, form_none, neither}
use Rattle.cpp_syntax.proofs.Readers.{leaves_same, leaves_both, leaves_read, reads_seq, reads_word, reads_form, reads_left, reads_right, none_behind}
use Rattle.cpp_parse_expr.proofs.ReaderAnswers.{parsed_err, none_unlike}
use Rattle.cpp_parse.proofs.NamedDeclarators.{member_made, none_grouped}
use Rattle.cpp_parse.proofs.MemberHeads.{leaves_front, leaves_head, none_single, none_function, single_made, function_made}
use Rattle.cpp_parse.proofs.single_members.function_or_single.Goals as goal

pub returns-in_err-end : goal.returns-in_err-end
returns-in_err-end c = λ before x.
    parsed_err _ _ _ _ c.from_residual.result c.from_residual.ensures.0
    (leaves_both (leaves_head x) c.in_err-end.ensures)

pub returns-in_err-next : goal.returns-in_err-next
returns-in_err-next c = λ before x.
    parsed_err _ _ _ _ c.from_residual-in_err-next.result c.from_residual-in_err-next.ensures.0
    (leaves_both (leaves_head x) (leaves_both (leaves_read c.in_ok-end.ensures) c.in_err-next.ensures))

pub returns-in_default : goal.returns-in_default
returns-in_default c = λ before x.
    let y = rw c.in_default.is at c.in_ok-next.ensures in (
      leaves_both (leaves_head x) (leaves_both (leaves_read c.in_ok-end.ensures) y.0),
      neither (none_single x (none_grouped (none_behind c.in_ok-end.ensures
          (none_unlike open_brace (passed open_brace terminal.OpenBrace refl _ (c.if-is_at.ensures.yes refl)) refl refl) refl refl refl)))
          (none_function x (none_behind c.in_ok-end.ensures y.1 refl refl refl)),
    )

pub returns-in_err-node_from : goal.returns-in_err-node_from
returns-in_err-node_from c = λ before x.
    parsed_err _ _ _ _ c.from_residual-in_err-node_from.result c.from_residual-in_err-node_from.ensures.0
    (leaves_both (leaves_head x) (leaves_both (leaves_read c.in_ok-end.ensures)
    (leaves_both (leaves_read (rw c.in-Some.is at c.in_ok-next.ensures)) (leaves_same c.in_err-node_from.ensures.memory))))

pub returns-then-is_at : goal.returns-then-is_at
returns-then-is_at c = λ before x.
    let read_next = rw c.in-Some.is at c.in_ok-next.ensures in
    reads_right (none_single x (none_grouped (none_behind c.in_ok-end.ensures
    (none_unlike open_brace (passed open_brace terminal.OpenBrace refl _ (c.if-is_at.ensures.yes refl)) refl refl) refl refl refl)))
    (reads_seq (function_made x c.requires.here (reads_seq c.in_ok-end.ensures read_next refl refl) c.in_ok-node_from.ensures.read)
    (c.semicolon_end.ensures _) refl refl)

pub returns-in_err-last : goal.returns-in_err-last
returns-in_err-last c = λ before x.
    parsed_err _ _ _ _ c.from_residual-in_err-last.result c.from_residual-in_err-last.ensures.0
    (leaves_both (leaves_head x) (leaves_both (leaves_read c.in_ok-end.ensures) c.in_err-last.ensures))

pub returns-in_err-member_node : goal.returns-in_err-member_node
returns-in_err-member_node c = λ before x.
    parsed_err _ _ _ _ c.from_residual-in_err-member_node.result c.from_residual-in_err-member_node.ensures.0
    (leaves_both (leaves_head x) (leaves_both (leaves_read c.in_ok-end.ensures)
    (leaves_both (leaves_read c.in_ok-last.ensures) (leaves_same c.in_err-member_node.ensures.memory))))

pub returns-then-not-is_at : goal.returns-then-not-is_at
returns-then-not-is_at c = λ before x.
    let one = (reads_form {f = member_declarator} (member_made x.rest.declared
    (reads_seq c.in_ok-end.ensures c.in_ok-last.ensures refl refl) refl refl refl x.rest.name x.rest.mark
    c.in_ok-member_node.ensures.read)) in (
      leaves_both (leaves_front x) (leaves_both (leaves_read one) (leaves_same c.expected_at.ensures)),
      neither (none_single x (none_behind (reads_seq c.in_ok-end.ensures c.in_ok-last.ensures refl refl)
          (word_none (refused semicolon terminal.Semicolon refl _ (c.if-not-is_at.ensures.no refl))) refl refl refl))
          (none_function x (none_behind c.in_ok-end.ensures
          (form_none (node_none (seq_none (word_none (refused open_brace terminal.OpenBrace refl _ (c.if-is_at.ensures.no refl)))))) refl refl refl)),
    )

pub returns-in_err-node_from-2 : goal.returns-in_err-node_from-2
returns-in_err-node_from-2 c = λ before x.
    let one = (reads_form {f = member_declarator} (member_made x.rest.declared
    (reads_seq c.in_ok-end.ensures c.in_ok-last.ensures refl refl) refl refl refl x.rest.name x.rest.mark
    c.in_ok-member_node.ensures.read)) in
    parsed_err _ _ _ _ c.from_residual-in_err-node_from-2.result c.from_residual-in_err-node_from-2.ensures.0
    (leaves_both (leaves_front x) (leaves_both (leaves_read one) (leaves_same c.in_err-node_from-2.ensures.memory)))

pub returns : goal.returns
returns c = λ before x.
    let one = (reads_form {f = member_declarator} (member_made x.rest.declared
    (reads_seq c.in_ok-end.ensures c.in_ok-last.ensures refl refl) refl refl refl x.rest.name x.rest.mark
    c.in_ok-member_node.ensures.read)) in
    reads_left (single_made x c.requires.here (reads_seq one (reads_word (passed semicolon terminal.Semicolon refl _ (c.if-not-is_at.ensures.yes refl))
    (c.if-not-is_at.ensures.inside refl refl)) refl refl) c.in_ok-node_from-2.ensures.read)
    (none_function x (none_behind c.in_ok-end.ensures
    (form_none (node_none (seq_none (word_none (refused open_brace terminal.OpenBrace refl _ (c.if-is_at.ensures.no refl)))))) refl refl refl))
