use Rattle.std.proofs.Common.{ℕ, Option, None, refl, ap, arith}
use Rattle.cpp_syntax.specs.Derivations.{first_or}
use Rattle.cpp_syntax.proofs.Readers.{leaves_both, reads_form, appended_none}
use Rattle.cpp_syntax.proofs.ReaderLoops.{any_begins, any_more}
use Rattle.cpp_syntax.proofs.FirstTerminals.{not_empty}
use Rattle.cpp_parse_expr.proofs.ReaderAnswers.{always_err}
use Rattle.cpp_parse.proofs.LongestAlone.{many_read, leaves_any}
use Rattle.cpp_parse.proofs.declarations.translation_unit.Goals as goal

pub declarations-init : goal.declarations-init
declarations-init c = (any_begins (appended_none c.args.out.now) c.requires.here, refl)

pub returns-in_err-behind : goal.returns-in_err-behind
returns-in_err-behind c =
    always_err _ _ _ _ c.from_residual.result c.from_residual.ensures.0 (leaves_both (leaves_any c.declarations.invariant.0) c.in_err-behind.ensures)

pub returns-in_default : goal.returns-in_default
returns-in_default c =
    let x = rw c.in_default.is at c.in_ok-behind.ensures in
    reads_form (many_read c.declarations.invariant.0 c.declarations.invariant.1 x.1 refl (c.cut.ensures _ _ c.checkpoint-mark.ensures (x.0).gained))

pub declarations-preserved : goal.declarations-preserved
declarations-preserved c =
    let x = rw c.in-Some.is at c.in_ok-behind.ensures in
    (any_more c.declarations.invariant.0 x refl refl refl, ap (λ (k : Option ℕ). first_or k None) c.declarations.invariant.1)

pub declarations-smaller : goal.declarations-smaller
declarations-smaller c =
    let x = rw c.in-Some.is at c.in_ok-behind.ensures in
    let h = not_empty (x.long).derives refl in
    let i = x.inside in
    omega (arith, h, i)
