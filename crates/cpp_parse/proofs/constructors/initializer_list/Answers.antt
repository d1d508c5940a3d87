use Rattle.std.proofs.Common.{ℕ, Option, None, refl, ap}
use Rattle.cpp_syntax.specs.declared.terminal.Terminal.TheVariants as terminal
use Rattle.cpp_syntax.specs.Terminals.{comma}
use Rattle.cpp_syntax.specs.Derivations.{first_or}
use Rattle.cpp_syntax.proofs.SingleTerminals.{passed, refused}
use Rattle.cpp_syntax.proofs.LongestMatches.{word_none, seq_none}
use Rattle.cpp_syntax.proofs.Readers.{leaves_both, none_seq}
use Rattle.cpp_syntax.proofs.ReaderLoops.{loop_begins, loop_more}
use Rattle.cpp_parse_expr.proofs.ReaderAnswers.{parsed_err, word_and, none_second, leaves_chain, chain_done}
use Rattle.cpp_parse.proofs.constructors.initializer_list.Goals as goal

pub returns-in_default : goal.returns-in_default
returns-in_default c =
    let x = rw c.in_default.is at c.in_ok-first.ensures in
    (x.0, none_seq x.1)

pub items-init : goal.items-init
items-init c = (loop_begins (rw c.in-Some.is at c.in_ok-first.ensures) refl, refl)

pub returns-in_err-behind : goal.returns-in_err-behind
returns-in_err-behind c =
    parsed_err _ _ _ _ c.from_residual-in_err-behind.result c.from_residual-in_err-behind.ensures.0
    (leaves_both (leaves_chain c.items.invariant.0) c.in_err-behind.ensures)

pub returns-in_default-2 : goal.returns-in_default-2
returns-in_default-2 c =
    let y = rw c.in_default-2.is at c.in_ok-behind.ensures in
    chain_done c.items.invariant.0 c.items.invariant.1 (none_second y.1) refl (c.cut.ensures _ _ c.checkpoint-mark.ensures (y.0).gained)

pub items-preserved : goal.items-preserved
items-preserved c = (
  loop_more c.items.invariant.0 (word_and (passed comma terminal.Comma refl _ (c.items-test.ensures.yes refl))
      (c.items-test.ensures.inside refl refl) (rw c.in-Some-2.is at c.in_ok-behind.ensures) refl refl) refl refl refl,
  ap
      (λ (k : Option ℕ). first_or k None) c.items.invariant.1,
)

pub returns : goal.returns
returns c =
    chain_done c.items.invariant.0 c.items.invariant.1 (seq_none (word_none (refused comma terminal.Comma refl _ (c.items-test.ensures.no refl))))
    refl refl
