use Rattle.std.proofs.Common.{ℕ, Option, None, refl, ap}
use Rattle.cpp_syntax.specs.declared.terminal.Terminal.TheVariants as terminal
use Rattle.cpp_syntax.specs.Terminals.{comma}
use Rattle.cpp_syntax.specs.Derivations.{first_or}
use Rattle.cpp_syntax.proofs.SingleTerminals.{passed, refused}
use Rattle.cpp_syntax.proofs.LongestMatches.{word_none, seq_none}
use Rattle.cpp_syntax.proofs.Readers.{leaves_both, reads_taken, reads_left_out}
use Rattle.cpp_syntax.proofs.ReaderLoops.{loop_begins, loop_more}
use Rattle.cpp_parse_expr.proofs.ReaderAnswers.{always_err, word_and, none_second, leaves_chain, chain_done}
use Rattle.cpp_parse_expr.proofs.lambdas.captures.Goals as goal

pub returns-in_default : goal.returns-in_default
returns-in_default c =
    let x = rw c.in_default.is at c.in_ok-first.ensures in
    reads_left_out (seq_none x.1) c.requires.here (c.cut.ensures _ _ c.checkpoint-mark.ensures (x.0).gained)

pub captures-init : goal.captures-init
captures-init c = (loop_begins (rw c.in-Some.is at c.in_ok-first.ensures) refl, refl)

pub returns-in_err-behind : goal.returns-in_err-behind
returns-in_err-behind c =
    always_err _ _ _ _ c.from_residual-in_err-behind.result c.from_residual-in_err-behind.ensures.0
    (leaves_both (leaves_chain c.captures-2.invariant.0) c.in_err-behind.ensures)

pub returns-in_default-2 : goal.returns-in_default-2
returns-in_default-2 c =
    let x = rw c.in_default-2.is at c.in_ok-behind.ensures in
    reads_taken (chain_done c.captures-2.invariant.0 c.captures-2.invariant.1 (none_second x.1) refl
    (c.cut-in_default-2.ensures _ _ c.checkpoint-mark-in-captures.ensures (x.0).gained)) refl

pub captures-preserved : goal.captures-preserved
captures-preserved c =
    let x = rw c.in-Some-2.is at c.in_ok-behind.ensures in
    let t = passed comma terminal.Comma refl _ (c.captures-test.ensures.yes refl) in (
      loop_more c.captures-2.invariant.0 (word_and t (c.captures-test.ensures.inside refl refl) x refl refl) refl refl refl,
      ap
          (λ (k : Option ℕ). first_or k None) c.captures-2.invariant.1,
    )

pub returns : goal.returns
returns c =
    reads_taken (chain_done c.captures-2.invariant.0 c.captures-2.invariant.1 (seq_none
    (word_none (refused comma terminal.Comma refl _ (c.captures-test.ensures.no refl)))) refl refl) refl
