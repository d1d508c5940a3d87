-- What the readers of initializers answer.
use Rattle.std.proofs.Common.{refl, arith, None}
use Rattle.cpp_syntax.specs.declared.terminal.Terminal.TheVariants as terminal
use Rattle.cpp_syntax.specs.Terminals.{open_brace, close_brace, comma}
use Rattle.cpp_syntax.specs.Rules.{initializer}
use Rattle.cpp_syntax.proofs.SingleTerminals.{passed, refused}
use Rattle.cpp_syntax.proofs.CommaLists.{are_initializers}
use Rattle.cpp_syntax.proofs.LongestMatches.{mark_none, word_none, seq_none}
use Rattle.cpp_syntax.proofs.Readers.{leaves_none, leaves_same, leaves_both, leaves_read, reads_seq, reads_word, reads_form, reads_taken, reads_left_out}
use Rattle.cpp_syntax.proofs.Readers.{none_behind, none_form, none_node}
use Rattle.cpp_parse_expr.proofs.ReaderAnswers.{made, mark_and, word_and, none_unlike, none_second_mark, parsed_left, parsed_right, parsed_form, parsed_err}
use Rattle.cpp_parse_expr.proofs.ReaderAnswers.{always_err}
use Rattle.cpp_parse.proofs.TrailingCommas.{list_begins, list_more, leaves_listed, initializers_and_comma, initializers_alone}
use Rattle.cpp_parse.proofs.initializers.+initializers.Goals as goal

pub initializer-returns-then-is_at : goal.initializer-returns-then-is_at
initializer-returns-then-is_at t c =
    let u = passed open_brace terminal.OpenBrace refl _ (c.if-is_at.ensures.yes refl) in
    parsed_form _ initializer _ None _ _ c.braced_init_list.result (parsed_right _ _ _ _ _ _ _ c.braced_init_list.result
    (none_unlike open_brace u refl refl) c.braced_init_list.ensures)

pub initializer-returns : goal.initializer-returns
initializer-returns t c =
    let u = refused open_brace terminal.OpenBrace refl _ (c.if-is_at.ensures.no refl) in
    parsed_form _ initializer _ None _ _ c.assignment_expression.result (parsed_left _ _ _ _ _ _ _ c.assignment_expression.result
    (none_form (none_node (seq_none (mark_none u)))) c.assignment_expression.ensures)

pub braced_init_list-returns-then-not-is_at : goal.braced_init_list-returns-then-not-is_at
braced_init_list-returns-then-not-is_at t c = (
  leaves_same c.expected_at.ensures,
  none_form (none_node (seq_none (mark_none (refused open_brace terminal.OpenBrace refl _
      (c.if-not-is_at.ensures.no refl))))),
)

pub braced_init_list-returns-in_err-descend : goal.braced_init_list-returns-in_err-descend
braced_init_list-returns-in_err-descend t c = parsed_err _ _ _ _ c.from_residual.result c.from_residual.ensures.0 (leaves_none _)

pub braced_init_list-initializer_list-requires : goal.braced_init_list-initializer_list-requires
braced_init_list-initializer_list-requires t c = let i = c.if-not-is_at.ensures.inside refl refl in omega (arith, i)

pub braced_init_list-returns-then-not-is_at-2 : goal.braced_init_list-returns-then-not-is_at-2
braced_init_list-returns-then-not-is_at-2 t c =
    let x = c.in_ok-close.ensures in (
      leaves_both (leaves_read x) (leaves_same c.expected_at-then-not-is_at-2.ensures),
      none_form (none_node (none_second_mark (none_behind x (word_none (refused close_brace terminal.CloseBrace refl _
          (c.if-not-is_at-2.ensures.no refl))) refl refl refl))),
    )

pub braced_init_list-returns-in_err-node : goal.braced_init_list-returns-in_err-node
braced_init_list-returns-in_err-node t c =
    parsed_err _ _ _ _ c.from_residual-in_err-node.result c.from_residual-in_err-node.ensures.0
    (leaves_both (leaves_read c.in_ok-close.ensures) (leaves_same c.in_err-node.ensures.memory))

pub braced_init_list-returns : goal.braced_init_list-returns
braced_init_list-returns t c =
    let u = passed open_brace terminal.OpenBrace refl _ (c.if-not-is_at.ensures.yes refl) in
    let v = passed close_brace terminal.CloseBrace refl _ (c.if-not-is_at-2.ensures.yes refl) in
    reads_form (made (mark_and u (c.if-not-is_at.ensures.inside refl refl) (reads_seq c.in_ok-close.ensures
    (reads_word v (c.if-not-is_at-2.ensures.inside refl refl)) refl refl) refl refl) c.checkpoint-start.ensures c.in_ok-node.ensures.read)

pub initializer_list-returns-in_default : goal.initializer_list-returns-in_default
initializer_list-returns-in_default t c =
    let x = rw c.in_default.is at c.in_ok-first.ensures in
    reads_left_out (seq_none (seq_none x.1)) c.requires.here (c.cut.ensures _ _ c.checkpoint-mark.ensures (x.0).gained)

pub initializer_list-items-init : goal.initializer_list-items-init
initializer_list-items-init t c = list_begins are_initializers (rw c.in-Some.is at c.in_ok-first.ensures)

pub initializer_list-returns-in_err-behind : goal.initializer_list-returns-in_err-behind
initializer_list-returns-in_err-behind t c =
    always_err _ _ _ _ c.from_residual-in_err-behind.result c.from_residual-in_err-behind.ensures.0
    (leaves_both (leaves_listed c.items.invariant) c.in_err-behind.ensures)

pub initializer_list-returns-in_default-2 : goal.initializer_list-returns-in_default-2
initializer_list-returns-in_default-2 t c =
    let x = rw c.in_default-2.is at c.in_ok-behind.ensures in
    let u = passed comma terminal.Comma refl _ (c.items-test.ensures.yes refl) in
    reads_taken (initializers_and_comma c.items.invariant u (c.items-test.ensures.inside refl refl) x.1
    (c.cut-in_default-2.ensures _ _ c.checkpoint-mark-in-items.ensures (x.0).gained)) refl

pub initializer_list-items-preserved : goal.initializer_list-items-preserved
initializer_list-items-preserved t c =
    let x = rw c.in-Some-2.is at c.in_ok-behind.ensures in
    let u = passed comma terminal.Comma refl _ (c.items-test.ensures.yes refl) in
    list_more are_initializers c.items.invariant (word_and u (c.items-test.ensures.inside refl refl) x refl refl) refl

pub initializer_list-returns : goal.initializer_list-returns
initializer_list-returns t c = reads_taken (initializers_alone c.items.invariant (refused comma terminal.Comma refl _ (c.items-test.ensures.no refl)) refl) refl
