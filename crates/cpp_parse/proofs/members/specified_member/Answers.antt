use Rattle.std.proofs.Common.{refl}
use Rattle.cpp_syntax.specs.declared.terminal.Terminal.TheVariants as terminal
use Rattle.cpp_syntax.specs.Terminals.{inline_word}
use Rattle.cpp_syntax.proofs.SingleTerminals.{passed, refused}
use Rattle.cpp_syntax.proofs.LongestMatches.{mark_none, node_none, form_none, neither}
use Rattle.cpp_syntax.proofs.Readers.{leaves_both, leaves_read, none_behind, none_seq}
use Rattle.cpp_parse_expr.proofs.ReaderAnswers.{parsed_err, none_unlike, parsed_right}
use Rattle.cpp_parse.specs.declared.single_members.MemberHead.{MemberHead}
use Rattle.cpp_parse.proofs.LongestAlone.{none_marked, none_skipped}
use Rattle.cpp_parse.proofs.MemberHeads.{typed_head, typed_until, full_head}
use Rattle.cpp_parse.proofs.members.specified_member.Goals as goal

pub returns-in_err-after : goal.returns-in_err-after
returns-in_err-after c = parsed_err _ _ _ _ c.from_residual.result c.from_residual.ensures.0 c.in_err-after.ensures

pub returns-in_err-typed : goal.returns-in_err-typed
returns-in_err-typed c =
    parsed_err _ _ _ _ c.from_residual-in_err-typed.result c.from_residual-in_err-typed.ensures.0
    (leaves_both (leaves_read c.in_ok-after.ensures) (c.in_err-typed.ensures))

pub returns-then-is_at : goal.returns-then-is_at
returns-then-is_at c =
    parsed_right _ _ _ _ _ _ _ c.inline_function.result (node_none (none_marked (none_behind c.in_ok-after.ensures
    (none_behind c.in_ok-typed.ensures (none_unlike inline_word (passed inline_word terminal.Inline refl _ (c.if-is_at.ensures.yes refl)) refl refl)
    refl refl refl) refl refl refl))) (c.inline_function.ensures _ _ _ c.checkpoint-start.ensures c.in_ok-after.ensures c.in_ok-typed.ensures)

pub returns-in_err-named : goal.returns-in_err-named
returns-in_err-named c =
    parsed_err _ _ _ _ c.from_residual-in_err-named.result c.from_residual-in_err-named.ensures.0
    (leaves_both (leaves_read c.in_ok-after.ensures) (leaves_both (leaves_read c.in_ok-typed.ensures) (c.in_err-named.ensures)))

pub returns-in_default : goal.returns-in_default
returns-in_default c =
    let y = rw c.in_default.is at c.in_ok-named.ensures in (
      leaves_both (leaves_read c.in_ok-after.ensures) (leaves_both (leaves_read c.in_ok-typed.ensures) y.0),
      neither (node_none (none_marked (none_behind c.in_ok-after.ensures (none_behind c.in_ok-typed.ensures (none_seq y.1) refl refl refl) refl refl refl)))
          (none_seq (node_none (none_marked (none_behind c.in_ok-after.ensures (none_behind c.in_ok-typed.ensures
          (none_skipped (node_none (mark_none (refused inline_word terminal.Inline refl _ (c.if-is_at.ensures.no refl)))) (none_seq y.1) refl refl) refl refl
          refl) refl refl refl)))),
    )

pub returns-in_err-behind : goal.returns-in_err-behind
returns-in_err-behind c =
    parsed_err _ _ _ _ c.from_residual-in_err-behind.result c.from_residual-in_err-behind.ensures.0
    (leaves_both (leaves_read c.in_ok-after.ensures) (leaves_both (leaves_read c.in_ok-typed.ensures)
    (leaves_both (leaves_read (rw c.in-Some.is at c.in_ok-named.ensures)) c.in_err-behind.ensures)))

pub returns-in_default-2 : goal.returns-in_default-2
returns-in_default-2 c =
    let read_named = rw c.in-Some.is at c.in_ok-named.ensures in
    let y = rw c.in_default-2.is at c.in_ok-behind.ensures in (
      leaves_both (leaves_read c.in_ok-after.ensures) (leaves_both (leaves_read c.in_ok-typed.ensures) (leaves_both (leaves_read read_named) y.0)),
      neither (node_none (none_marked (none_behind c.in_ok-after.ensures (none_behind c.in_ok-typed.ensures
          (none_behind read_named (none_seq (form_none (node_none (none_seq y.1)))) refl refl refl) refl refl refl) refl refl refl)))
          (none_seq (node_none (none_marked (none_behind c.in_ok-after.ensures (none_behind c.in_ok-typed.ensures
          (none_skipped (node_none (mark_none (refused inline_word terminal.Inline refl _ (c.if-is_at.ensures.no refl))))
          (none_behind read_named (none_seq y.1) refl refl refl) refl refl) refl refl refl) refl refl refl)))),
    )

pub returns-in_err-note_values : goal.returns-in_err-note_values
returns-in_err-note_values c =
    parsed_err _ _ _ _ c.from_residual-in_err-note_values.result c.from_residual-in_err-note_values.ensures.0
    (leaves_both (leaves_read c.in_ok-after.ensures) (leaves_both (leaves_read c.in_ok-typed.ensures)
    (leaves_both (leaves_read (rw c.in-Some.is at c.in_ok-named.ensures)) (leaves_both (leaves_read (rw c.in-Some-2.is at c.in_ok-behind.ensures))
    c.in_err-note_values.ensures.leaves))))

pub returns : goal.returns
returns c =
    let read_named = rw c.in-Some.is at c.in_ok-named.ensures in
    let read_behind = rw c.in-Some-2.is at c.in_ok-behind.ensures in
    let head : MemberHead = record {
      at = c.args.at;
      start = c.checkpoint-start.result;
      named = c.in-Some.named;
      first = c.checkpoint-first.result;
      name = c.declared_token-name.result;
      behind = c.in-Some-2.behind;
    } in
    c.function_or_single.ensures _ (full_head head c.checkpoint-start.ensures c.in_ok-after.ensures c.in_ok-typed.ensures
    (refused inline_word terminal.Inline refl _ (c.if-is_at.ensures.no refl)) (typed_until c.in_ok-note_values.ensures.same
    (typed_head head read_named c.checkpoint-first.ensures read_behind
    (c.declared_token-name.ensures _ _ c.checkpoint-first.ensures (read_behind).gained))))
