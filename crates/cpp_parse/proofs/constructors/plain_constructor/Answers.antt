use Rattle.std.proofs.Common.{refl}
use Rattle.cpp_syntax.specs.declared.terminal.Terminal.TheVariants as terminal
use Rattle.cpp_syntax.specs.Terminals.{is_type_name}
use Rattle.cpp_syntax.proofs.SingleTerminals.{passed, refused}
use Rattle.cpp_syntax.proofs.LongestMatches.{mark_none, seq_none, seq_ends}
use Rattle.cpp_syntax.proofs.Readers.{leaves_same, leaves_both, leaves_read, reads_form, none_form, none_node}
use Rattle.cpp_syntax.proofs.ReaderLoops.{seq_behind}
use Rattle.cpp_parse_expr.proofs.ReaderAnswers.{parsed_err, leaf_there}
use Rattle.cpp_parse_expr.proofs.WrappedOperands.{no_wrap, round_both}
use Rattle.cpp_parse.proofs.LongestAlone.{leaves_gained}
use Rattle.cpp_parse.proofs.constructors.plain_constructor.Goals as goal

pub returns-then-not-is_at : goal.returns-then-not-is_at
returns-then-not-is_at c = (
  leaves_same c.expected_at.ensures,
  none_form (seq_none (none_node (mark_none (refused is_type_name terminal.TypeName refl _
      (c.if-not-is_at.ensures.no refl))))),
)

pub returns-in_err-behind : goal.returns-in_err-behind
returns-in_err-behind c = parsed_err _ _ _ _ c.from_residual.result c.from_residual.ensures.0 (leaves_same c.in_err-behind.ensures)

pub returns-in_err-next : goal.returns-in_err-next
returns-in_err-next c =
    parsed_err _ _ _ _ c.from_residual-in_err-next.result c.from_residual-in_err-next.ensures.0
    (leaves_both (leaves_gained _ c.in_ok-behind.ensures.1) c.in_err-next.ensures)

pub returns-in_default : goal.returns-in_default
returns-in_default c =
    let x = (leaf_there (passed is_type_name terminal.TypeName refl _ (c.if-not-is_at.ensures.yes refl)) (c.if-not-is_at.ensures.inside refl refl)
    c.in_ok-behind.ensures) in
    let y = rw c.in_default.is at c.in_ok-next.ensures in
    (leaves_both (leaves_gained _ c.in_ok-behind.ensures.1) y.0, none_form (seq_ends (x.long) (no_wrap y.1 refl _) refl refl))

pub returns-in_err-wrap_parameters : goal.returns-in_err-wrap_parameters
returns-in_err-wrap_parameters c =
    let read_next = rw c.in-Some.is at c.in_ok-next.ensures in
    parsed_err _ _ _ _ c.from_residual-in_err-wrap_parameters.result c.from_residual-in_err-wrap_parameters.ensures.0
    (leaves_both (leaves_gained _ c.in_ok-behind.ensures.1) (leaves_both (leaves_read read_next)
    (leaves_same c.in_err-wrap_parameters.ensures.memory)))

pub returns : goal.returns
returns c =
    let read_next = rw c.in-Some.is at c.in_ok-next.ensures in
    let x = (leaf_there (passed is_type_name terminal.TypeName refl _ (c.if-not-is_at.ensures.yes refl)) (c.if-not-is_at.ensures.inside refl refl)
    c.in_ok-behind.ensures) in
    let y = read_next in
    reads_form (seq_behind x (round_both x y refl refl c.checkpoint-start.ensures c.in_ok-wrap_parameters.ensures.read) refl)
