use Rattle.std.proofs.Common.{refl}
use Rattle.cpp_syntax.specs.declared.terminal.Terminal.TheVariants as terminal
use Rattle.cpp_syntax.specs.Terminals.{comma}
use Rattle.cpp_syntax.proofs.SingleTerminals.{passed, refused}
use Rattle.cpp_syntax.proofs.Readers.{leaves_both, none_seq}
use Rattle.cpp_parse_expr.proofs.ReaderAnswers.{parsed_err}
use Rattle.cpp_parse.proofs.Enumerators.{enumerators_begin, enumerators_more, enumerators_open, enumerators_end, leaves_enumerators}
use Rattle.cpp_parse.proofs.classes.enumerators.Goals as goal

pub returns-in_default : goal.returns-in_default
returns-in_default c =
    let x = rw c.in_default.is at c.in_ok-first.ensures in
    (x.0, none_seq (none_seq x.1))

pub items-init : goal.items-init
items-init c = enumerators_begin (rw c.in-Some.is at c.in_ok-first.ensures)

pub returns-in_err-behind : goal.returns-in_err-behind
returns-in_err-behind c =
    parsed_err _ _ _ _ c.from_residual-in_err-behind.result c.from_residual-in_err-behind.ensures.0
    (leaves_both (leaves_enumerators c.items.invariant) c.in_err-behind.ensures)

pub returns-in_default-2 : goal.returns-in_default-2
returns-in_default-2 c =
    let y = rw c.in_default-2.is at c.in_ok-behind.ensures in
    enumerators_open c.items.invariant (passed comma terminal.Comma refl _ (c.items-test.ensures.yes refl)) (c.items-test.ensures.inside refl refl)
    y.1 (c.cut.ensures _ _ c.checkpoint-mark.ensures (y.0).gained)

pub items-preserved : goal.items-preserved
items-preserved c =
    enumerators_more c.items.invariant (passed comma terminal.Comma refl _ (c.items-test.ensures.yes refl)) (c.items-test.ensures.inside refl refl)
    (rw c.in-Some-2.is at c.in_ok-behind.ensures)

pub returns : goal.returns
returns c = enumerators_end c.items.invariant (refused comma terminal.Comma refl _ (c.items-test.ensures.no refl))
