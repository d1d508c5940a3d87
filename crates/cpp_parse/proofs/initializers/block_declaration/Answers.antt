use Rattle.std.proofs.Common.{refl}
use Rattle.cpp_syntax.specs.declared.terminal.Terminal.TheVariants as terminal
use Rattle.cpp_syntax.specs.Terminals.{semicolon}
use Rattle.cpp_syntax.proofs.SingleTerminals.{passed, refused}
use Rattle.cpp_syntax.proofs.LongestMatches.{word_none}
use Rattle.cpp_syntax.proofs.Readers.{leaves_same, leaves_both, leaves_read, reads_seq, reads_word, reads_form, none_behind, none_seq}
use Rattle.cpp_syntax.proofs.ReaderLoops.{reads_mark_next}
use Rattle.cpp_parse_expr.proofs.ReaderAnswers.{made_at_name, parsed_err}
use Rattle.cpp_parse.proofs.StatementParts.{none_declared}
use Rattle.cpp_parse.proofs.initializers.block_declaration.Goals as goal

pub returns-in_default : goal.returns-in_default
returns-in_default c =
    let x = rw c.in_default.is at c.in_ok-behind.ensures in
    (x.0, none_declared c.requires.here (none_seq x.1))

pub returns-in_err-close : goal.returns-in_err-close
returns-in_err-close c =
    parsed_err _ _ _ _ c.from_residual-in_err-close.result c.from_residual-in_err-close.ensures.0
    (leaves_both (leaves_read (rw c.in-Some.is at c.in_ok-behind.ensures)) c.in_err-close.ensures)

pub returns-in_default-2 : goal.returns-in_default-2
returns-in_default-2 c =
    let x = rw c.in-Some.is at c.in_ok-behind.ensures in
    let y = rw c.in_default-2.is at c.in_ok-close.ensures in
    (leaves_both (leaves_read x) y.0, none_declared c.requires.here (none_behind x (none_seq y.1) refl refl refl))

pub returns-then-not-is_at : goal.returns-then-not-is_at
returns-then-not-is_at c =
    let x = rw c.in-Some.is at c.in_ok-behind.ensures in
    let y = rw c.in-Some-2.is at c.in_ok-close.ensures in (
      leaves_both (leaves_read x) (leaves_both (leaves_read y) (leaves_same c.expected_at.ensures)),
      none_declared c.requires.here (none_behind x (none_behind y (word_none (refused semicolon terminal.Semicolon refl _
          (c.if-not-is_at.ensures.no refl))) refl refl refl) refl refl refl),
    )

pub returns-in_err-node_at_name : goal.returns-in_err-node_at_name
returns-in_err-node_at_name c =
    parsed_err _ _ _ _ c.from_residual-in_err-node_at_name.result c.from_residual-in_err-node_at_name.ensures.0
    (leaves_both (leaves_read (rw c.in-Some.is at c.in_ok-behind.ensures)) (leaves_both (leaves_read (rw c.in-Some-2.is at c.in_ok-close.ensures))
    (leaves_same c.in_err-node_at_name.ensures.memory)))

pub returns : goal.returns
returns c =
    let x = rw c.in-Some.is at c.in_ok-behind.ensures in
    let y = rw c.in-Some-2.is at c.in_ok-close.ensures in
    let v = passed semicolon terminal.Semicolon refl _ (c.if-not-is_at.ensures.yes refl) in
    reads_form (made_at_name (reads_seq (reads_mark_next c.requires.here) (reads_seq x
    (reads_seq y (reads_word v (c.if-not-is_at.ensures.inside refl refl)) refl refl) refl refl) refl refl) c.checkpoint-start.ensures
    c.in_ok-node_at_name.ensures.read)
