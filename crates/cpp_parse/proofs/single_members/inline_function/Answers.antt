use Rattle.std.proofs.Common.{refl}
use Rattle.cpp_syntax.proofs.LongestMatches.{seq_none, node_none}
use Rattle.cpp_syntax.proofs.Readers.{leaves_same, leaves_both, leaves_read, reads_seq, none_behind, none_seq}
use Rattle.cpp_syntax.proofs.ReaderLoops.{reads_mark_next}
use Rattle.cpp_parse_expr.proofs.ReaderAnswers.{parsed_err, made_at_name}
use Rattle.cpp_parse.proofs.LongestAlone.{none_marked}
use Rattle.cpp_parse.proofs.single_members.inline_function.Goals as goal

pub returns-in_err-typed : goal.returns-in_err-typed
returns-in_err-typed c = λ before first after m p q.
    parsed_err _ _ _ _ c.from_residual.result c.from_residual.ensures.0
    (leaves_both (leaves_read p) (leaves_both (leaves_read q) (c.in_err-typed.ensures)))

pub returns-in_err-named : goal.returns-in_err-named
returns-in_err-named c = λ before first after m p q.
    parsed_err _ _ _ _ c.from_residual-in_err-named.result c.from_residual-in_err-named.ensures.0
    (leaves_both (leaves_read p) (leaves_both (leaves_read q)
    (leaves_both (leaves_read c.in_ok-typed.ensures) (c.in_err-named.ensures))))

pub returns-in_default : goal.returns-in_default
returns-in_default c = λ before first after m p q.
    let x = rw c.in_default.is at c.in_ok-named.ensures in (
      leaves_both (leaves_read p) (leaves_both (leaves_read q)
          (leaves_both (leaves_read c.in_ok-typed.ensures) (x.0))),
      none_seq (node_none (none_marked
          (none_behind p (none_behind q (none_behind c.in_ok-typed.ensures (seq_none (x.1)) refl refl refl)
          refl refl refl) refl refl refl))),
    )

pub returns-in_err-end : goal.returns-in_err-end
returns-in_err-end c = λ before first after m p q.
    let read_named = rw c.in-Some.is at c.in_ok-named.ensures in
    parsed_err _ _ _ _ c.from_residual-in_err-end.result c.from_residual-in_err-end.ensures.0
    (leaves_both (leaves_read p) (leaves_both (leaves_read q)
    (leaves_both (leaves_read c.in_ok-typed.ensures) (leaves_both (leaves_read read_named) (c.in_err-end.ensures)))))

pub returns-in_default-2 : goal.returns-in_default-2
returns-in_default-2 c = λ before first after m p q.
    let read_named = rw c.in-Some.is at c.in_ok-named.ensures in
    let x = rw c.in_default-2.is at c.in_ok-end.ensures in (
      leaves_both (leaves_read p) (leaves_both (leaves_read q)
          (leaves_both (leaves_read c.in_ok-typed.ensures) (leaves_both (leaves_read read_named) (x.0)))),
      none_seq (node_none
          (none_marked (none_behind p (none_behind q
          (none_behind c.in_ok-typed.ensures (none_behind read_named (seq_none (x.1)) refl refl refl) refl refl refl) refl refl refl) refl refl refl))),
    )

pub returns-in_err-body : goal.returns-in_err-body
returns-in_err-body c = λ before first after m p q.
    let read_named = rw c.in-Some.is at c.in_ok-named.ensures in
    let read_end = rw c.in-Some-2.is at c.in_ok-end.ensures in
    parsed_err _ _ _ _ c.from_residual-in_err-body.result c.from_residual-in_err-body.ensures.0
    (leaves_both (leaves_read p) (leaves_both (leaves_read q)
    (leaves_both (leaves_read c.in_ok-typed.ensures) (leaves_both (leaves_read read_named)
    (leaves_both (leaves_read read_end) (c.in_err-body.ensures))))))

pub returns-in_err-next : goal.returns-in_err-next
returns-in_err-next c = λ before first after m p q.
    let read_named = rw c.in-Some.is at c.in_ok-named.ensures in
    let read_end = rw c.in-Some-2.is at c.in_ok-end.ensures in
    parsed_err _ _ _ _ c.from_residual-in_err-next.result c.from_residual-in_err-next.ensures.0
    (leaves_both (leaves_read p) (leaves_both (leaves_read q)
    (leaves_both (leaves_read c.in_ok-typed.ensures) (leaves_both (leaves_read read_named)
    (leaves_both (leaves_read read_end) (leaves_both (leaves_read c.in_ok-body.ensures) (c.in_err-next.ensures)))))))

pub returns-in_default-3 : goal.returns-in_default-3
returns-in_default-3 c = λ before first after m p q.
    let read_named = rw c.in-Some.is at c.in_ok-named.ensures in
    let read_end = rw c.in-Some-2.is at c.in_ok-end.ensures in
    let x = rw c.in_default-3.is at c.in_ok-next.ensures in (
      leaves_both (leaves_read p) (leaves_both (leaves_read q)
          (leaves_both (leaves_read c.in_ok-typed.ensures) (leaves_both (leaves_read read_named)
          (leaves_both (leaves_read read_end) (leaves_both (leaves_read c.in_ok-body.ensures) (x.0)))))),
      none_seq (node_none
          (none_marked (none_behind p (none_behind q
          (none_behind c.in_ok-typed.ensures (none_behind read_named (none_behind read_end (none_behind c.in_ok-body.ensures (x.1) refl refl refl) refl
          refl refl) refl refl refl) refl refl refl) refl refl refl) refl refl refl))),
    )

pub returns-in_err-node_from : goal.returns-in_err-node_from
returns-in_err-node_from c = λ before first after m p q.
    let read_named = rw c.in-Some.is at c.in_ok-named.ensures in
    let read_end = rw c.in-Some-2.is at c.in_ok-end.ensures in
    let read_next = rw c.in-Some-3.is at c.in_ok-next.ensures in
    parsed_err _ _ _ _ c.from_residual-in_err-node_from.result c.from_residual-in_err-node_from.ensures.0
    (leaves_both (leaves_read p) (leaves_both (leaves_read q)
    (leaves_both (leaves_read c.in_ok-typed.ensures) (leaves_both (leaves_read read_named)
    (leaves_both (leaves_read read_end) (leaves_both (leaves_read c.in_ok-body.ensures)
    (leaves_both (leaves_read read_next) (leaves_same c.in_err-node_from.ensures.memory))))))))

pub returns : goal.returns
returns c = λ before first after m p q.
    let read_named = rw c.in-Some.is at c.in_ok-named.ensures in
    let read_end = rw c.in-Some-2.is at c.in_ok-end.ensures in
    let read_next = rw c.in-Some-3.is at c.in_ok-next.ensures in
    reads_seq (made_at_name (reads_seq (reads_mark_next c.requires.here) (reads_seq p
    (reads_seq q (reads_seq c.in_ok-typed.ensures (reads_seq read_named
    (reads_seq read_end (reads_seq c.in_ok-body.ensures (read_next) refl refl) refl refl) refl refl) refl refl) refl refl) refl refl) refl refl)
    m c.in_ok-node_from.ensures.read) (c.semicolon_end.ensures _) refl refl
