use Rattle.std.proofs.Common.{rules, ◌+◌, refl, sym as back, ◌∙◌, ap, Some}
use Rattle.cpp_ast.specs.declared.arena.At.{At}
use Rattle.cpp_ast.specs.declared.kinds.NodeKind.TheVariants.{ReferenceCapture}
use Rattle.cpp_syntax.specs.Derivations.{no_read, reads_node}
use Rattle.cpp_syntax.specs.View.{appended}
use Rattle.cpp_syntax.specs.declared.terminal.Terminal.TheVariants as terminal
use Rattle.cpp_syntax.specs.Terminals.{is_name, amp, this_word}
use Rattle.cpp_syntax.proofs.SingleTerminals.{passed, refused}
use Rattle.cpp_syntax.proofs.LongestMatches.{mark_none, word_none, node_none, seq_none, neither}
use Rattle.cpp_syntax.proofs.Readers.{leaves_same, reads_left, reads_right}
use Rattle.cpp_parse_expr.proofs.ReaderAnswers.{leaf_there, none_unlike, none_second}
use Rattle.cpp_parse_expr.proofs.Captures.{reference_there}
use Rattle.cpp_parse_expr.proofs.lambdas.capture.Goals as goal

pub returns-in_err-leaf : goal.returns-in_err-leaf
returns-in_err-leaf c = search (rules, leaves_same)

pub returns-then-is_name_at : goal.returns-then-is_name_at
returns-then-is_name_at c =
    let t = back c.if-is_name_at.ensures.test in
    reads_left (leaf_there t (c.if-is_name_at.ensures.inside refl) c.in_ok-leaf.ensures) (none_unlike is_name t refl refl)

pub returns-in_err-leaf-2 : goal.returns-in_err-leaf-2
returns-in_err-leaf-2 c = search (rules, leaves_same)

pub returns-then-is_at : goal.returns-then-is_at
returns-then-is_at c =
    let t = passed this_word terminal.This refl _ (c.if-is_at.ensures.yes refl) in
    reads_right (none_unlike this_word t refl refl) (reads_right (none_unlike this_word t refl refl)
    (leaf_there t (c.if-is_at.ensures.inside refl refl) c.in_ok-leaf-2.ensures))

pub returns-then-not-is_at : goal.returns-then-not-is_at
returns-then-not-is_at c = (
  leaves_same c.expected_at.ensures,
  neither
      (node_none (mark_none (back c.if-is_name_at.ensures.test)))
      (neither (node_none (seq_none (word_none (refused amp terminal.Amp refl _ (c.if-not-is_at.ensures.no refl)))))
      (node_none (mark_none (refused this_word terminal.This refl _ (c.if-is_at.ensures.no refl))))),
)

pub returns-then-not-is_name_at : goal.returns-then-not-is_name_at
returns-then-not-is_name_at c = (
  leaves_same c.expected_at-then-not-is_name_at.ensures,
  neither
      (node_none (mark_none (back c.if-is_name_at.ensures.test)))
      (neither (node_none (none_second (mark_none (back c.if-not-is_name_at.ensures.test))))
      (node_none (mark_none (refused this_word terminal.This refl _ (c.if-is_at.ensures.no refl))))),
)

pub returns-in_err-leaf-3 : goal.returns-in_err-leaf-3
returns-in_err-leaf-3 c = search (rules, leaves_same)

pub returns : goal.returns
returns c =
    let t = passed amp terminal.Amp refl _ (c.if-not-is_at.ensures.yes refl) in
    let e = c.in_ok-leaf-3.ensures.added ∙ ap (λ (z : At). appended c.args.out.now (reads_node ReferenceCapture z (Some (c.args.at + 1)) no_read))
    c.position.ensures.position in
    reads_right (node_none (mark_none (back c.if-is_name_at.ensures.test)))
    (reads_left (reference_there t (back c.if-not-is_name_at.ensures.test) (c.if-not-is_name_at.ensures.inside refl) e) (none_unlike amp t refl refl))
