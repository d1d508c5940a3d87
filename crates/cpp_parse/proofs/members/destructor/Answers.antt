use Rattle.std.proofs.Common.{refl}
use Rattle.cpp_syntax.specs.declared.terminal.Terminal.TheVariants as terminal
use Rattle.cpp_syntax.specs.Terminals.{semicolon}
use Rattle.cpp_syntax.proofs.SingleTerminals.{passed, refused}
use Rattle.cpp_syntax.proofs.LongestMatches.{word_none, node_none, neither, seq_ends, node_long}
use Rattle.cpp_syntax.proofs.Readers.{leaves_same, leaves_both, leaves_read, reads_seq, reads_word, reads_left, reads_right, none_behind, none_seq}
use Rattle.cpp_syntax.proofs.ReaderLoops.{reads_mark_next}
use Rattle.cpp_parse_expr.proofs.ReaderAnswers.{parsed_err, made_at_name, none_unlike}
use Rattle.cpp_parse.proofs.LongestAlone.{none_marked}
use Rattle.cpp_parse.proofs.members.destructor.Goals as goal

pub returns-in_err-named : goal.returns-in_err-named
returns-in_err-named c = parsed_err _ _ _ _ c.from_residual.result c.from_residual.ensures.0 c.in_err-named.ensures

pub returns-in_err-behind : goal.returns-in_err-behind
returns-in_err-behind c =
    parsed_err _ _ _ _ c.from_residual-in_err-behind.result c.from_residual-in_err-behind.ensures.0
    (leaves_both (leaves_read c.in_ok-named.ensures) (c.in_err-behind.ensures))

pub returns-in_default : goal.returns-in_default
returns-in_default c =
    let x = rw c.in_default.is at c.in_ok-behind.ensures in (
      leaves_both (leaves_read c.in_ok-named.ensures) (x.0),
      neither (none_seq (node_none
          (none_marked (none_behind c.in_ok-named.ensures (none_seq x.1) refl refl refl))))
          (none_seq (node_none (none_marked (none_behind c.in_ok-named.ensures (none_seq x.1) refl refl refl)))),
    )

pub returns-in_err-end : goal.returns-in_err-end
returns-in_err-end c =
    parsed_err _ _ _ _ c.from_residual-in_err-end.result c.from_residual-in_err-end.ensures.0
    (leaves_both (leaves_read c.in_ok-named.ensures) (leaves_both (leaves_read (rw c.in-Some.is at c.in_ok-behind.ensures)) (c.in_err-end.ensures)))

pub returns-in_err-node_from : goal.returns-in_err-node_from
returns-in_err-node_from c =
    let read_behind = rw c.in-Some.is at c.in_ok-behind.ensures in
    parsed_err _ _ _ _ c.from_residual-in_err-node_from.result c.from_residual-in_err-node_from.ensures.0
    (leaves_both (leaves_read c.in_ok-named.ensures) (leaves_both (leaves_read read_behind)
    (leaves_both (leaves_read c.in_ok-end.ensures) (leaves_same c.in_err-node_from.ensures.memory))))

pub returns-then-is_at : goal.returns-then-is_at
returns-then-is_at c =
    let read_behind = rw c.in-Some.is at c.in_ok-behind.ensures in
    reads_left (reads_seq (made_at_name (reads_seq (reads_mark_next c.requires.here) (reads_seq c.in_ok-named.ensures
    (reads_seq read_behind (c.in_ok-end.ensures) refl refl) refl refl) refl refl) c.checkpoint-start.ensures c.in_ok-node_from.ensures.read)
    (reads_word (passed semicolon terminal.Semicolon refl _ (c.if-is_at.ensures.yes refl)) (c.if-is_at.ensures.inside refl refl)) refl refl)
    (none_seq (node_none (none_marked (none_behind c.in_ok-named.ensures (none_behind read_behind
    (none_behind c.in_ok-end.ensures (none_unlike semicolon (passed semicolon terminal.Semicolon refl _ (c.if-is_at.ensures.yes refl)) refl refl)
    refl refl refl) refl refl refl) refl refl refl))))

pub returns-in_err-next : goal.returns-in_err-next
returns-in_err-next c =
    parsed_err _ _ _ _ c.from_residual-in_err-next.result c.from_residual-in_err-next.ensures.0
    (leaves_both (leaves_read c.in_ok-named.ensures) (leaves_both (leaves_read (rw c.in-Some.is at c.in_ok-behind.ensures))
    (leaves_both (leaves_read c.in_ok-end.ensures) (c.in_err-next.ensures))))

pub returns-in_default-2 : goal.returns-in_default-2
returns-in_default-2 c =
    let read_behind = rw c.in-Some.is at c.in_ok-behind.ensures in
    let y = rw c.in_default-2.is at c.in_ok-next.ensures in (
      leaves_both (leaves_read c.in_ok-named.ensures) (leaves_both (leaves_read read_behind) (leaves_both (leaves_read c.in_ok-end.ensures) (y.0))),
      neither (seq_ends (node_long (reads_seq (reads_mark_next c.requires.here) (reads_seq c.in_ok-named.ensures
          (reads_seq read_behind (c.in_ok-end.ensures) refl refl) refl refl) refl refl).long)
          (word_none (refused semicolon terminal.Semicolon refl _ (c.if-is_at.ensures.no refl))) refl refl)
          (none_seq (node_none (none_marked (none_behind c.in_ok-named.ensures (none_behind read_behind
          (none_behind c.in_ok-end.ensures (y.1) refl refl refl) refl refl refl) refl refl refl)))),
    )

pub returns-in_err-node_from-2 : goal.returns-in_err-node_from-2
returns-in_err-node_from-2 c =
    let read_behind = rw c.in-Some.is at c.in_ok-behind.ensures in
    let read_next = rw c.in-Some-2.is at c.in_ok-next.ensures in
    parsed_err _ _ _ _ c.from_residual-in_err-node_from-2.result c.from_residual-in_err-node_from-2.ensures.0
    (leaves_both (leaves_read c.in_ok-named.ensures) (leaves_both (leaves_read read_behind)
    (leaves_both (leaves_read c.in_ok-end.ensures) (leaves_both (leaves_read read_next) (leaves_same c.in_err-node_from-2.ensures.memory)))))

pub returns : goal.returns
returns c =
    let read_behind = rw c.in-Some.is at c.in_ok-behind.ensures in
    let read_next = rw c.in-Some-2.is at c.in_ok-next.ensures in
    reads_right (seq_ends (node_long (reads_seq (reads_mark_next c.requires.here) (reads_seq c.in_ok-named.ensures
    (reads_seq read_behind (c.in_ok-end.ensures) refl refl) refl refl) refl refl).long)
    (word_none (refused semicolon terminal.Semicolon refl _ (c.if-is_at.ensures.no refl))) refl refl)
    (reads_seq (made_at_name (reads_seq (reads_mark_next c.requires.here) (reads_seq c.in_ok-named.ensures
    (reads_seq read_behind (reads_seq c.in_ok-end.ensures (read_next) refl refl) refl refl) refl refl) refl refl) c.checkpoint-start.ensures
    c.in_ok-node_from-2.ensures.read) (c.semicolon_end.ensures _) refl refl)
