use Rattle.program_fold.proofs.Findings.{nothing_found}
use Rattle.program_fold.proofs.checking.checked.Goals as goal

pub unreachable-requires : goal.unreachable-requires
unreachable-requires c = nothing_found c.args.program c.in-Err-Unsafe.field-0 c.in-Err-Unsafe.field-0-0 c.in-Err-Unsafe.field-0-1 c.requires.safe
    c.in-Err-Unsafe.field-0-is c.in-Err-Unsafe.ensures
