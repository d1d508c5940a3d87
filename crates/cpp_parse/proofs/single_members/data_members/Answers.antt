use Rattle.std.proofs.Common.{refl, sym as back}
use Rattle.cpp_syntax.specs.declared.terminal.Terminal.TheVariants as terminal
use Rattle.cpp_syntax.specs.Terminals.{comma, equal}
use Rattle.cpp_syntax.proofs.SingleTerminals.{passed, refused}
use Rattle.cpp_syntax.proofs.LongestMatches.{mark_none, seq_none, node_none, where_none, neither}
use Rattle.cpp_syntax.proofs.Readers.{leaves_same, leaves_both, leaves_read, reads_taken, reads_left_out, none_seq}
use Rattle.cpp_syntax.proofs.ReaderLoops.{reads_where}
use Rattle.cpp_parse_expr.proofs.ReaderAnswers.{parsed_err, parsed_left, parsed_right, made, mark_and, none_second_mark}
use Rattle.cpp_parse.proofs.LongestAlone.{reached}
use Rattle.cpp_parse.proofs.MemberShapes.{not_closed, comma_open, no_more, no_value, none_but_zero}
use Rattle.cpp_parse.proofs.MemberStarts.{initialized_none, listed_none}
use Rattle.cpp_parse.proofs.MemberHeads.{leaves_typed, none_initialized, none_listed}
use Rattle.cpp_parse.proofs.single_members.data_members.Goals as goal

pub returns-then-not-is_at : goal.returns-then-not-is_at
returns-then-not-is_at c = λ before m x.
    parsed_right _ _ _ _ _ _ _ c.several_members.result
    (initialized_none (none_initialized x (none_seq (node_none (seq_none (mark_none (refused equal terminal.Equal refl _ (c.if-not-is_at.ensures.no refl))))))))
    (c.several_members.ensures before _ m x (reads_left_out
    (node_none (seq_none (mark_none (refused equal terminal.Equal refl _ (c.if-not-is_at.ensures.no refl)))))
    c.requires.behind refl))

pub returns-in_err-next : goal.returns-in_err-next
returns-in_err-next c = λ before m x.
    parsed_err _ _ _ _ c.from_residual.result c.from_residual.ensures.0 (leaves_both (leaves_typed x) c.in_err-next.ensures)

pub returns-in_default : goal.returns-in_default
returns-in_default c = λ before m x.
    let z = rw c.in_default.is at c.in_ok-next.ensures in (
      leaves_both (leaves_typed x) z.0,
      neither (initialized_none (none_initialized x (none_seq (node_none (none_second_mark (where_none z.1))))))
          (listed_none (none_listed x (no_value (passed equal terminal.Equal refl _ (c.if-not-is_at.ensures.yes refl)) z.1))),
    )

pub returns-in_err-node : goal.returns-in_err-node
returns-in_err-node c = λ before m x.
    parsed_err _ _ _ _ c.from_residual-in_err-node.result c.from_residual-in_err-node.ensures.0
    (leaves_both (leaves_typed x) (leaves_both (leaves_read (rw c.in-Some.is at c.in_ok-next.ensures)) (leaves_same c.in_err-node.ensures.memory)))

pub returns-then-is_at : goal.returns-then-is_at
returns-then-is_at c = λ before m x.
    let read_next = rw c.in-Some.is at c.in_ok-next.ensures in
    parsed_right _ _ _ _ _ _ _ c.several_members-then-is_at.result
    (initialized_none (none_initialized x (not_closed (reached read_next) (comma_open _ (passed comma terminal.Comma refl _ (c.if-is_at.ensures.yes refl))))))
    (c.several_members-then-is_at.ensures before _ m x (reads_taken
    (made (mark_and (passed equal terminal.Equal refl _ (c.if-not-is_at.ensures.yes refl)) (c.if-not-is_at.ensures.inside refl refl) read_next refl refl)
    c.checkpoint-mark.ensures c.in_ok-node.ensures.read) refl))

pub returns-then-is_zero_alone : goal.returns-then-is_zero_alone
returns-then-is_zero_alone c = λ before m x.
    let read_next = rw c.in-Some.is at c.in_ok-next.ensures in
    let valued = made (mark_and {test = equal} (passed equal terminal.Equal refl _ (c.if-not-is_at.ensures.yes refl))
    (c.if-not-is_at.ensures.inside refl refl) read_next refl refl)
    c.checkpoint-mark.ensures c.in_ok-node.ensures.read in (
      leaves_both (leaves_typed x) (leaves_both (leaves_read valued) (leaves_same c.expected_at.ensures)),
      neither (initialized_none (none_initialized x (none_seq
          (node_none (none_second_mark (none_but_zero (reached read_next) (back c.if-is_zero_alone.ensures)))))))
          (listed_none (none_listed x (no_more (passed equal terminal.Equal refl _ (c.if-not-is_at.ensures.yes refl)) (reached read_next)
          (refused comma terminal.Comma refl _ (c.if-is_at.ensures.no refl))))),
    )

pub returns : goal.returns
returns c = λ before m x.
    let read_next = rw c.in-Some.is at c.in_ok-next.ensures in
    parsed_left _ _ _ _ _ _ _ c.initialized_member.result
    (listed_none (none_listed x (no_more (passed equal terminal.Equal refl _ (c.if-not-is_at.ensures.yes refl)) (reached read_next)
    (refused comma terminal.Comma refl _ (c.if-is_at.ensures.no refl)))))
    (c.initialized_member.ensures before _ m x (made (mark_and (passed equal terminal.Equal refl _ (c.if-not-is_at.ensures.yes refl))
    (c.if-not-is_at.ensures.inside refl refl) (reads_where read_next (back c.if-is_zero_alone.ensures)) refl refl) c.checkpoint-mark.ensures
    c.in_ok-node.ensures.read))
