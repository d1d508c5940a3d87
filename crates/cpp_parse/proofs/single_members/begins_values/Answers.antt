use Rattle.std.proofs.Common.{refl, sym as back, ◌∙◌, true≢false}
use Rattle.cpp_syntax.specs.declared.terminal.Terminal.TheVariants as terminal
use Rattle.cpp_syntax.specs.Terminals.{is_zero, semicolon, comma, equal}
use Rattle.cpp_syntax.proofs.SingleTerminals.{passed, refused}
use Rattle.cpp_syntax.proofs.LongestMatches.{mark_none, seq_none, node_none}
use Rattle.cpp_syntax.proofs.Readers.{none_seq}
use Rattle.cpp_parse_expr.proofs.ReaderAnswers.{none_unlike}
use Rattle.cpp_parse.proofs.MemberShapes.{not_pure, zero_alone, zero_unlisted, no_equal_listed}
use Rattle.cpp_parse.proofs.single_members.begins_values.Goals as goal

pub returns-then-is_at : goal.returns-then-is_at
returns-then-is_at c = (
  none_unlike comma (passed comma terminal.Comma refl _ (c.if-is_at.ensures.yes refl)) refl refl,
  none_unlike comma
      (passed comma terminal.Comma refl _ (c.if-is_at.ensures.yes refl)) refl refl,
)

pub returns-then-not-is_at : goal.returns-then-not-is_at
returns-then-not-is_at c = (
  none_seq (node_none (seq_none (mark_none (refused equal terminal.Equal refl _ (c.if-not-is_at.ensures.no refl))))),
  no_equal_listed (refused equal terminal.Equal refl _ (c.if-not-is_at.ensures.no refl)) (refused comma terminal.Comma refl _ (c.if-is_at.ensures.no refl)),
)

pub returns-then-not-is_at-2 : goal.returns-then-not-is_at-2
returns-then-not-is_at-2 c = (
  not_pure (passed equal terminal.Equal refl _ (c.if-not-is_at.ensures.yes refl))
      (λ t u. true≢false (back t ∙ refused is_zero terminal.Zero refl _ (c.if-not-is_at-2.ensures.no refl))),
  none_unlike equal (passed equal terminal.Equal refl _ (c.if-not-is_at.ensures.yes refl)) refl refl,
)

pub returns-then-not-is_at-3 : goal.returns-then-not-is_at-3
returns-then-not-is_at-3 c = (
  not_pure (passed equal terminal.Equal refl _ (c.if-not-is_at.ensures.yes refl))
      (λ t u. true≢false (back u ∙ refused semicolon terminal.Semicolon refl _ (c.if-not-is_at-3.ensures.no refl))),
  none_unlike equal (passed equal terminal.Equal refl _ (c.if-not-is_at.ensures.yes refl)) refl refl,
)

pub returns : goal.returns
returns c =
    let zero = passed is_zero terminal.Zero refl _ (c.if-not-is_at-2.ensures.yes refl) in
    let end = passed semicolon terminal.Semicolon refl _ (c.if-not-is_at-3.ensures.yes refl) in
    let inside = c.if-not-is_at-2.ensures.inside refl refl in
    (zero_alone zero end inside, zero_unlisted (passed equal terminal.Equal refl _ (c.if-not-is_at.ensures.yes refl)) zero end inside)
