use Rattle.std.proofs.Common.{refl}
use Rattle.cpp_syntax.specs.declared.terminal.Terminal.TheVariants as terminal
use Rattle.cpp_syntax.specs.Terminals.{semicolon}
use Rattle.cpp_syntax.specs.Rules.{initialized_member}
use Rattle.cpp_syntax.proofs.SingleTerminals.{passed, refused}
use Rattle.cpp_syntax.proofs.LongestMatches.{word_none, node_none}
use Rattle.cpp_syntax.proofs.Readers.{leaves_same, leaves_both, leaves_read, reads_seq, reads_word, reads_form, none_behind}
use Rattle.cpp_syntax.proofs.ReaderLoops.{reads_mark_next}
use Rattle.cpp_parse_expr.proofs.ReaderAnswers.{parsed_err, made_at_name}
use Rattle.cpp_parse.proofs.LongestAlone.{none_marked}
use Rattle.cpp_parse.proofs.NamedDeclarators.{member_made}
use Rattle.cpp_parse.proofs.MemberHeads.{leaves_typed}
use Rattle.cpp_parse.proofs.single_members.initialized_member.Goals as goal

pub returns-in_err-member_node : goal.returns-in_err-member_node
returns-in_err-member_node c = λ before between m x y.
    parsed_err _ _ _ _ c.from_residual.result c.from_residual.ensures.0
    (leaves_both (leaves_typed x) (leaves_both (leaves_read y) (leaves_same c.in_err-member_node.ensures.memory)))

pub returns-then-not-is_at : goal.returns-then-not-is_at
returns-then-not-is_at c = λ before between m x y.
    let one = reads_form {f = initialized_member} (member_made x.declared y refl refl refl x.name x.mark c.in_ok-member_node.ensures.read) in (
      leaves_both (leaves_read x.typed) (leaves_both (leaves_read one) (leaves_same c.expected_at.ensures)),
      node_none (none_marked (none_behind x.typed (none_behind one (word_none (refused semicolon terminal.Semicolon refl _ (c.if-not-is_at.ensures.no refl)))
          refl refl refl) refl refl refl)),
    )

pub returns-in_err-node_from : goal.returns-in_err-node_from
returns-in_err-node_from c = λ before between m x y.
    let one = reads_form {f = initialized_member} (member_made x.declared y refl refl refl x.name x.mark c.in_ok-member_node.ensures.read) in
    parsed_err _ _ _ _ c.from_residual-in_err-node_from.result c.from_residual-in_err-node_from.ensures.0
    (leaves_both (leaves_read x.typed) (leaves_both (leaves_read one) (leaves_same c.in_err-node_from.ensures.memory)))

pub returns : goal.returns
returns c = λ before between m x y.
    let one = reads_form {f = initialized_member} (member_made x.declared y refl refl refl x.name x.mark c.in_ok-member_node.ensures.read) in
    made_at_name (reads_seq (reads_mark_next c.requires.here) (reads_seq x.typed (reads_seq one
    (reads_word (passed semicolon terminal.Semicolon refl _ (c.if-not-is_at.ensures.yes refl)) (c.if-not-is_at.ensures.inside refl refl)) refl refl) refl
    refl) refl refl) m c.in_ok-node_from.ensures.read
