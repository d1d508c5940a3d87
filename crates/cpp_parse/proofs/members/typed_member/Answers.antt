use Rattle.std.proofs.Common.{refl}
use Rattle.cpp_syntax.proofs.LongestMatches.{node_none, form_none, neither}
use Rattle.cpp_syntax.proofs.Readers.{leaves_both, leaves_read, none_behind, none_seq}
use Rattle.cpp_parse_expr.proofs.ReaderAnswers.{parsed_err}
use Rattle.cpp_parse_expr.proofs.PostfixReaders.{parsed_instead, with_none_before, with_none_behind, with_same_before}
use Rattle.cpp_parse.specs.declared.single_members.MemberHead.{MemberHead}
use Rattle.cpp_parse.proofs.MemberStarts.{single_none, function_none, initialized_none, listed_none}
use Rattle.cpp_parse.proofs.MemberHeads.{typed_head, bare_head, none_single, none_function, none_initialized, none_listed, as_it_is}
use Rattle.cpp_parse.proofs.members.typed_member.Goals as goal

pub returns-in_err-named : goal.returns-in_err-named
returns-in_err-named c = parsed_err _ _ _ _ c.from_residual.result c.from_residual.ensures.0 c.in_err-named.ensures

pub returns-in_default : goal.returns-in_default
returns-in_default c =
    let y = rw c.in_default.is at c.in_ok-named.ensures in (
      y.0,
      neither (single_none c.requires.begins (none_seq y.1)) (neither (initialized_none (none_seq y.1)) (neither (listed_none (none_seq y.1))
          (function_none c.requires.begins (none_seq y.1)))),
    )

pub returns-in_err-behind : goal.returns-in_err-behind
returns-in_err-behind c =
    parsed_err _ _ _ _ c.from_residual-in_err-behind.result c.from_residual-in_err-behind.ensures.0
    (leaves_both (leaves_read (rw c.in-Some.is at c.in_ok-named.ensures)) c.in_err-behind.ensures)

pub returns-in_default-2 : goal.returns-in_default-2
returns-in_default-2 c =
    let read_named = rw c.in-Some.is at c.in_ok-named.ensures in
    let y = rw c.in_default-2.is at c.in_ok-behind.ensures in (
      leaves_both (leaves_read read_named) y.0,
      neither (single_none c.requires.begins (none_behind read_named (none_seq (form_none (node_none (none_seq y.1)))) refl refl refl))
          (neither (initialized_none (none_behind read_named (none_seq (form_none (node_none (none_seq y.1)))) refl refl refl))
          (neither (listed_none (none_behind read_named (none_seq (form_none (node_none (none_seq y.1)))) refl refl refl))
          (function_none c.requires.begins (none_behind read_named (none_seq y.1) refl refl refl)))),
    )

pub returns-then-begins_values : goal.returns-then-begins_values
returns-then-begins_values c =
    let read_named = rw c.in-Some.is at c.in_ok-named.ensures in
    let read_behind = rw c.in-Some-2.is at c.in_ok-behind.ensures in
    let head : MemberHead = record {
      at = c.args.at;
      start = c.checkpoint-start.result;
      named = c.in-Some.named;
      first = c.checkpoint-first.result;
      name = c.declared_token-name.result;
      behind = c.in-Some-2.behind;
    } in
    let x = typed_head head read_named c.checkpoint-first.ensures read_behind
    (c.declared_token-name.ensures _ _ c.checkpoint-first.ensures (read_behind).gained) in
    let h = bare_head head c.requires.here c.requires.begins c.checkpoint-start.ensures x in
    let v = c.if-begins_values.ensures in
    parsed_instead _ _ _ _ _ _ _ c.data_members.result
    (with_none_before (none_single h v.0) (with_same_before (with_none_behind (none_function h v.1)))) refl
    (c.data_members.ensures _ c.checkpoint-start.ensures x)

pub returns : goal.returns
returns c =
    let read_named = rw c.in-Some.is at c.in_ok-named.ensures in
    let read_behind = rw c.in-Some-2.is at c.in_ok-behind.ensures in
    let head : MemberHead = record {
      at = c.args.at;
      start = c.checkpoint-start.result;
      named = c.in-Some.named;
      first = c.checkpoint-first.result;
      name = c.declared_token-name.result;
      behind = c.in-Some-2.behind;
    } in
    let x = typed_head head read_named c.checkpoint-first.ensures read_behind
    (c.declared_token-name.ensures _ _ c.checkpoint-first.ensures (read_behind).gained) in
    let v = c.if-begins_values.ensures in
    parsed_instead _ _ _ _ _ _ _ c.function_or_single.result
    (with_same_before (with_none_before (initialized_none (none_initialized x v.0)) (with_none_before (listed_none (none_listed x v.1)) as_it_is))) refl
    (c.function_or_single.ensures _ (bare_head head c.requires.here c.requires.begins c.checkpoint-start.ensures x))
