use Rattle.source_verdict.specs.Verdict.{unsafe_part}
use Rattle.source_verdict.proofs.judging.checked.Goals as goal

pub returns-in_ok-refuse_unsafe-in-Err-Unsafe : goal.returns-in_ok-refuse_unsafe-in-Err-Unsafe
returns-in_ok-refuse_unsafe-in-Err-Unsafe c =
    unsafe_part c.args.units.now c.args.program c.in-Err-Unsafe.at c.in-Err-Unsafe.reason c.requires.read c.requires.elaborated
    (rw c.in-Err-Unsafe.field-0-is at c.in-Err-Unsafe.ensures) c.in_ok-refuse_unsafe-in-Err-Unsafe.ensures
