use Rattle.std.proofs.Common.{rules, refl, sym as back}
use Rattle.cpp_ast.specs.declared.kinds.NodeKind.TheVariants.{CaptureDefault}
use Rattle.cpp_syntax.specs.Terminals.{is_capture_default}
use Rattle.cpp_syntax.specs.Types.{is_before_no_name}
use Rattle.cpp_syntax.specs.Rules.{where_}
use Rattle.cpp_syntax.specs.Grammar.{leaf, capture}
use Rattle.cpp_syntax.proofs.LongestMatches.{mark_none, node_none, where_none, neither}
use Rattle.cpp_syntax.proofs.Readers.{leaves_same, reads_left}
use Rattle.cpp_syntax.proofs.ReaderLoops.{reads_where}
use Rattle.cpp_parse_expr.proofs.ReaderAnswers.{leaf_there, none_unlike, none_second, parsed_right}
use Rattle.cpp_parse_expr.proofs.Captures.{no_default_before, before_no_name}
use Rattle.cpp_parse_expr.proofs.lambdas.first_capture.Goals as goal

pub returns-then-not-is_capture_default_at : goal.returns-then-not-is_capture_default_at
returns-then-not-is_capture_default_at c =
    parsed_right _ (where_ is_before_no_name (leaf CaptureDefault is_capture_default)) capture _ _ _ _ _
    (where_none (node_none (mark_none (back c.if-not-is_capture_default_at.ensures.test)))) c.capture.ensures

pub returns-then-is_name_at : goal.returns-then-is_name_at
returns-then-is_name_at c =
    parsed_right _ (where_ is_before_no_name (leaf CaptureDefault is_capture_default)) capture _ _ _ _ _
    (no_default_before (back c.if-is_name_at.ensures.test)) c.capture-then-is_name_at.ensures

pub returns-in_err-leaf : goal.returns-in_err-leaf
returns-in_err-leaf c = search (rules, leaves_same)

pub returns : goal.returns
returns c =
    let t = back c.if-not-is_capture_default_at.ensures.test in
    let n = back c.if-is_name_at.ensures.test in
    reads_left (reads_where (leaf_there t (c.if-not-is_capture_default_at.ensures.inside refl) c.in_ok-leaf.ensures)
    (before_no_name c.args.text.now c.args.at c.in_ok-leaf.field-0 c.in_ok-leaf.ensures.0 n))
    (neither (none_unlike is_capture_default t refl refl) (neither (node_none (none_second (mark_none n))) (none_unlike is_capture_default t refl refl)))
