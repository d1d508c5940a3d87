use Rattle.std.proofs.Common.{refl}
use Rattle.cpp_syntax.proofs.LongestMatches.{seq_none, seq_ends}
use Rattle.cpp_syntax.proofs.Readers.{leaves_same, leaves_both, leaves_read, reads_form, none_form}
use Rattle.cpp_syntax.proofs.ReaderLoops.{seq_behind}
use Rattle.cpp_parse_expr.proofs.ReaderAnswers.{parsed_err}
use Rattle.cpp_parse_expr.proofs.WrappedOperands.{no_wrap, round_both}
use Rattle.cpp_parse.proofs.constructors.plain_destructor.Goals as goal

pub returns-in_default : goal.returns-in_default
returns-in_default c =
    let x = rw c.in_default.is at c.in_ok-behind.ensures in
    (x.0, none_form (seq_none x.1))

pub returns-in_err-next : goal.returns-in_err-next
returns-in_err-next c =
    parsed_err _ _ _ _ c.from_residual-in_err-next.result c.from_residual-in_err-next.ensures.0
    (leaves_both (leaves_read (rw c.in-Some.is at c.in_ok-behind.ensures)) c.in_err-next.ensures)

pub returns-in_default-2 : goal.returns-in_default-2
returns-in_default-2 c =
    let read_behind = rw c.in-Some.is at c.in_ok-behind.ensures in
    let y = rw c.in_default-2.is at c.in_ok-next.ensures in
    (leaves_both (leaves_read read_behind) y.0, none_form (seq_ends (read_behind).long (no_wrap y.1 refl _) refl refl))

pub returns-in_err-wrap_parameters : goal.returns-in_err-wrap_parameters
returns-in_err-wrap_parameters c =
    let read_behind = rw c.in-Some.is at c.in_ok-behind.ensures in
    parsed_err _ _ _ _ c.from_residual-in_err-wrap_parameters.result c.from_residual-in_err-wrap_parameters.ensures.0
    (leaves_both (leaves_read read_behind) (leaves_both (leaves_read (rw c.in-Some-2.is at c.in_ok-next.ensures))
    (leaves_same c.in_err-wrap_parameters.ensures.memory)))

pub returns : goal.returns
returns c =
    let x = (rw c.in-Some.is at c.in_ok-behind.ensures) in
    let y = (rw c.in-Some-2.is at c.in_ok-next.ensures) in
    reads_form (seq_behind x (round_both x y refl refl c.checkpoint-start.ensures c.in_ok-wrap_parameters.ensures.read) refl)
