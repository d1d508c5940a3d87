use Rattle.std.proofs.Common.{refl}
use Rattle.cpp_syntax.specs.declared.terminal.Terminal.TheVariants as terminal
use Rattle.cpp_syntax.specs.Terminals.{comma}
use Rattle.cpp_syntax.specs.Names.{naming_of}
use Rattle.cpp_syntax.proofs.SingleTerminals.{passed, refused}
use Rattle.cpp_syntax.proofs.IndependentDerivations.{free_none}
use Rattle.cpp_syntax.proofs.LongestMatches.{word_none, seq_none}
use Rattle.cpp_syntax.proofs.ReaderLoops.{loop_begins, loop_more}
use Rattle.cpp_syntax.proofs.Readers.{leaves_both, none_seq}
use Rattle.cpp_parse_expr.proofs.ReaderAnswers.{word_and, none_second, leaves_chain, parsed_err}
use Rattle.cpp_parse_expr.proofs.PostfixReaders.{ended}
use Rattle.cpp_parse_expr.proofs.UnmarkedRules.{reads_unmarked}
use Rattle.cpp_parse.proofs.InitDeclarators.{declared_apart, more_apart}
use Rattle.cpp_parse.proofs.initializers.init_declarators.Goals as goal

pub returns-in_default : goal.returns-in_default
returns-in_default c =
    let x = rw c.in_default.is at c.in_ok-first.ensures in
    (x.0, none_seq x.1)

pub items-init : goal.items-init
items-init c = loop_begins (rw c.in-Some.is at c.in_ok-first.ensures) (declared_apart (naming_of c.args.naming) c.requires.named)

pub returns-in_err-behind : goal.returns-in_err-behind
returns-in_err-behind c =
    parsed_err _ _ _ _ c.from_residual-in_err-behind.result c.from_residual-in_err-behind.ensures.0
    (leaves_both (leaves_chain c.items.invariant) c.in_err-behind.ensures)

pub returns-in_default-2 : goal.returns-in_default-2
returns-in_default-2 c =
    let x = rw c.in_default-2.is at c.in_ok-behind.ensures in
    reads_unmarked (ended c.items.invariant (free_none refl (none_second x.1)) (c.cut.ensures _ _ c.checkpoint-mark.ensures (x.0).gained)) refl

pub items-preserved : goal.items-preserved
items-preserved c =
    let x = rw c.in-Some-2.is at c.in_ok-behind.ensures in
    let u = passed comma terminal.Comma refl _ (c.items-test.ensures.yes refl) in
    loop_more c.items.invariant (word_and u (c.items-test.ensures.inside refl refl) x refl refl) refl refl
    (more_apart (naming_of c.args.naming) c.requires.named)

pub returns : goal.returns
returns c = reads_unmarked (ended c.items.invariant (λ r. seq_none (word_none (refused comma terminal.Comma refl _ (c.items-test.ensures.no refl)))) refl) refl
