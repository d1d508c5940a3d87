use Rattle.std.proofs.Common.{refl}
use Rattle.cpp_syntax.specs.declared.terminal.Terminal.TheVariants as terminal
use Rattle.cpp_syntax.specs.Terminals.{semicolon}
use Rattle.cpp_syntax.proofs.SingleTerminals.{passed, refused}
use Rattle.cpp_syntax.proofs.LongestMatches.{word_none}
use Rattle.cpp_syntax.proofs.Readers.{leaves_same, leaves_both, leaves_read, reads_seq, reads_word, none_behind, none_seq}
use Rattle.cpp_parse.proofs.loops.expression_and_semicolon.Goals as goal

pub returns-in_default : goal.returns-in_default
returns-in_default c =
    let x = rw c.in_default.is at c.in_ok-close.ensures in
    (x.0, none_seq x.1)

pub returns-then-not-is_at : goal.returns-then-not-is_at
returns-then-not-is_at c =
    let x = rw c.in-Some.is at c.in_ok-close.ensures in (
      leaves_both (leaves_read x) (leaves_same c.expected_at.ensures),
      none_behind x (word_none
          (refused semicolon terminal.Semicolon refl _ (c.if-not-is_at.ensures.no refl))) refl refl refl,
    )

pub returns : goal.returns
returns c =
    let v = passed semicolon terminal.Semicolon refl _ (c.if-not-is_at.ensures.yes refl) in
    reads_seq (rw c.in-Some.is at c.in_ok-close.ensures) (reads_word v (c.if-not-is_at.ensures.inside refl refl)) refl refl
