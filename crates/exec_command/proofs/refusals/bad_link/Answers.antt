use Rattle.std.proofs.Common.{◌++◌, map, codes, subst, sym}
use Rattle.std.specs.Prelude.{IfOk}
use Rattle.command_io.specs.Writes.{written_of}
use Rattle.tx_answers.specs.Ends.{Refuses}
use Rattle.tx_answers.specs.declared.answer.Status.TheVariants as status
use Rattle.exec_command.specs.Exec.{RefusesLink}
use Rattle.exec_command.proofs.refusals.bad_link.Goals as goal

pub returns-in-OdrDiffers : goal.returns-in-OdrDiffers
returns-in-OdrDiffers c =
    subst (λ f. IfOk c.bad_symbol-in-OdrDiffers.result (λ d. RefusesLink f d.answer (map written_of d.writes.items))) (sym c.in-OdrDiffers.is)
    (subst (λ s. IfOk c.bad_symbol-in-OdrDiffers.result
    (λ d. Refuses 8 (codes "Link OdrDiffers " ++ s) status.Refused d.answer
    (map written_of d.writes.items))) c.as_slice-in-OdrDiffers.ensures.value c.bad_symbol-in-OdrDiffers.ensures)

pub returns-in-UnsafeSymbol : goal.returns-in-UnsafeSymbol
returns-in-UnsafeSymbol c =
    subst (λ f. IfOk c.bad_symbol-in-UnsafeSymbol.result (λ d. RefusesLink f d.answer (map written_of d.writes.items))) (sym c.in-UnsafeSymbol.is)
    (subst (λ s. IfOk c.bad_symbol-in-UnsafeSymbol.result
    (λ d. Refuses 8 (codes "Link UnsafeSymbol " ++ s) status.Refused d.answer
    (map written_of d.writes.items))) c.as_slice-in-UnsafeSymbol.ensures.value c.bad_symbol-in-UnsafeSymbol.ensures)
