use Rattle.std.proofs.Common.{refl}
use Rattle.cpp_syntax.specs.declared.terminal.Terminal.TheVariants as terminal
use Rattle.cpp_syntax.specs.Terminals.{open_brace, semicolon}
use Rattle.cpp_syntax.proofs.SingleTerminals.{passed, refused}
use Rattle.cpp_syntax.proofs.LongestMatches.{word_none, seq_none, node_none, form_none, neither}
use Rattle.cpp_syntax.proofs.Readers.{leaves_same, leaves_both, leaves_read, reads_seq, reads_word, reads_left, reads_right, none_behind, none_seq}
use Rattle.cpp_syntax.proofs.ReaderLoops.{reads_mark_next}
use Rattle.cpp_parse_expr.proofs.ReaderAnswers.{parsed_err, made_at_name, reads_from}
use Rattle.cpp_parse.proofs.LongestAlone.{none_marked, reached}
use Rattle.cpp_parse.proofs.DefinitionKinds.{no_objects}
use Rattle.cpp_parse.proofs.functions.ordinary_declaration.Goals as goal

pub returns-in_default : goal.returns-in_default
returns-in_default c =
    let x = rw c.in_default.is at c.in_ok-declared.ensures in
    (x.0, neither (node_none (none_marked (none_seq x.1))) (node_none (none_marked (none_seq x.1))))

pub returns-in_err-behind : goal.returns-in_err-behind
returns-in_err-behind c =
    parsed_err _ _ _ _ c.from_residual-in_err-behind.result c.from_residual-in_err-behind.ensures.0
    (leaves_both (leaves_read (rw c.in-Some.is at c.in_ok-declared.ensures)) c.in_err-behind.ensures)

pub returns-in_default-2 : goal.returns-in_default-2
returns-in_default-2 c =
    let read_declared = rw c.in-Some.is at c.in_ok-declared.ensures in
    let y = rw c.in_default-2.is at c.in_ok-behind.ensures in (
      leaves_both (leaves_read read_declared) y.0,
      neither (node_none (none_marked (none_behind read_declared
          (seq_none (seq_none (form_none (node_none (seq_none y.1))))) refl refl refl))) (node_none
          (none_marked (none_behind read_declared (none_seq y.1) refl refl refl))),
    )

pub returns-in_err-next : goal.returns-in_err-next
returns-in_err-next c =
    parsed_err _ _ _ _ c.from_residual-in_err-next.result c.from_residual-in_err-next.ensures.0
    (leaves_both (leaves_read (rw c.in-Some.is at c.in_ok-declared.ensures)) (leaves_both (leaves_read (rw c.in-Some-2.is at c.in_ok-behind.ensures))
    c.in_err-next.ensures))

pub returns-in_default-3 : goal.returns-in_default-3
returns-in_default-3 c =
    let read_declared = rw c.in-Some.is at c.in_ok-declared.ensures in
    let read_behind = rw c.in-Some-2.is at c.in_ok-behind.ensures in
    let z = rw c.in_default-3.is at c.in_ok-next.ensures in (
      leaves_both (leaves_read read_declared) (leaves_both (leaves_read read_behind) z.0),
      neither
          (node_none (none_marked (none_behind read_declared (no_objects (reached read_behind)
          (passed open_brace terminal.OpenBrace refl _ (c.if-is_at.ensures.yes refl))) refl refl refl)))
          (node_none (none_marked (none_behind read_declared (none_behind read_behind z.1 refl refl refl) refl refl refl))),
    )

pub returns-in_err-node_from : goal.returns-in_err-node_from
returns-in_err-node_from c =
    let read_declared = rw c.in-Some.is at c.in_ok-declared.ensures in
    let read_behind = rw c.in-Some-2.is at c.in_ok-behind.ensures in
    let read_next = rw c.in-Some-3.is at c.in_ok-next.ensures in
    parsed_err _ _ _ _ c.from_residual-in_err-node_from.result c.from_residual-in_err-node_from.ensures.0
    (leaves_both (leaves_read read_declared) (leaves_both (leaves_read read_behind)
    (leaves_both (leaves_read read_next) (leaves_same c.in_err-node_from.ensures.memory))))

pub returns-then-is_at : goal.returns-then-is_at
returns-then-is_at c =
    let read_declared = rw c.in-Some.is at c.in_ok-declared.ensures in
    let read_behind = rw c.in-Some-2.is at c.in_ok-behind.ensures in
    let read_next = rw c.in-Some-3.is at c.in_ok-next.ensures in
    reads_right (node_none (none_marked (none_behind read_declared (no_objects (reached read_behind)
    (passed open_brace terminal.OpenBrace refl _ (c.if-is_at.ensures.yes refl))) refl refl refl)))
    (made_at_name (reads_seq (reads_mark_next c.requires.here) (reads_seq read_declared (reads_seq read_behind read_next refl refl) refl refl)
    refl refl) c.checkpoint-start.ensures c.in_ok-node_from.ensures.read)

pub returns-in_err-end : goal.returns-in_err-end
returns-in_err-end c =
    let read_declared = rw c.in-Some.is at c.in_ok-declared.ensures in
    let read_behind = rw c.in-Some-2.is at c.in_ok-behind.ensures in
    parsed_err _ _ _ _ c.from_residual-in_err-end.result c.from_residual-in_err-end.ensures.0
    (leaves_both (leaves_read read_declared) (leaves_both (leaves_same (c.cut.ensures _ (read_behind).got c.checkpoint-mark.ensures
    (read_behind).gained)) c.in_err-end.ensures))

pub returns-in_default-4 : goal.returns-in_default-4
returns-in_default-4 c =
    let read_declared = rw c.in-Some.is at c.in_ok-declared.ensures in
    let read_behind = rw c.in-Some-2.is at c.in_ok-behind.ensures in
    let z = rw c.in_default-4.is at c.in_ok-end.ensures in (
      leaves_both (leaves_read read_declared) (leaves_both (leaves_same (c.cut.ensures _ (read_behind).got c.checkpoint-mark.ensures
          (read_behind).gained)) z.0),
      neither (node_none (none_marked (none_behind read_declared (none_seq z.1) refl refl refl)))
          (node_none (none_marked (none_behind read_declared (none_behind read_behind (form_none
          (node_none (seq_none (word_none (refused open_brace terminal.OpenBrace refl _ (c.if-is_at.ensures.no refl)))))) refl refl refl) refl refl
          refl))),
    )

pub returns-then-not-is_at : goal.returns-then-not-is_at
returns-then-not-is_at c =
    let read_declared = rw c.in-Some.is at c.in_ok-declared.ensures in
    let read_behind = rw c.in-Some-2.is at c.in_ok-behind.ensures in
    let read_end = rw c.in-Some-4.is at c.in_ok-end.ensures in (
      leaves_both (leaves_read read_declared) (leaves_both (leaves_same (c.cut.ensures _ (read_behind).got c.checkpoint-mark.ensures
          (read_behind).gained)) (leaves_both (leaves_read read_end) (leaves_same c.expected_at.ensures))),
      neither
          (node_none (none_marked (none_behind read_declared (none_behind read_end (word_none
          (refused semicolon terminal.Semicolon refl _ (c.if-not-is_at.ensures.no refl))) refl refl refl) refl refl refl)))
          (node_none (none_marked (none_behind read_declared (none_behind read_behind (form_none
          (node_none (seq_none (word_none (refused open_brace terminal.OpenBrace refl _ (c.if-is_at.ensures.no refl)))))) refl refl refl) refl refl
          refl))),
    )

pub returns-in_err-node_from-2 : goal.returns-in_err-node_from-2
returns-in_err-node_from-2 c =
    let read_declared = rw c.in-Some.is at c.in_ok-declared.ensures in
    let read_behind = rw c.in-Some-2.is at c.in_ok-behind.ensures in
    let read_end = rw c.in-Some-4.is at c.in_ok-end.ensures in
    parsed_err _ _ _ _ c.from_residual-in_err-node_from-2.result c.from_residual-in_err-node_from-2.ensures.0
    (leaves_both (leaves_read read_declared) (leaves_both (leaves_same (c.cut.ensures _ (read_behind).got c.checkpoint-mark.ensures
    (read_behind).gained)) (leaves_both (leaves_read read_end) (leaves_same c.in_err-node_from-2.ensures.memory))))

pub returns : goal.returns
returns c =
    let read_declared = rw c.in-Some.is at c.in_ok-declared.ensures in
    let read_behind = rw c.in-Some-2.is at c.in_ok-behind.ensures in
    let read_end = rw c.in-Some-4.is at c.in_ok-end.ensures in
    reads_left (made_at_name (reads_seq (reads_mark_next c.requires.here) (reads_seq read_declared
    (reads_seq (reads_from (c.cut.ensures _ (read_behind).got c.checkpoint-mark.ensures (read_behind).gained) read_end)
    (reads_word (passed semicolon terminal.Semicolon refl _ (c.if-not-is_at.ensures.yes refl)) (c.if-not-is_at.ensures.inside refl refl)) refl
    refl) refl refl) refl refl) c.checkpoint-start.ensures c.in_ok-node_from-2.ensures.read)
    (node_none (none_marked (none_behind read_declared (none_behind read_behind (form_none
    (node_none (seq_none (word_none (refused open_brace terminal.OpenBrace refl _ (c.if-is_at.ensures.no refl)))))) refl refl refl) refl refl
    refl)))
