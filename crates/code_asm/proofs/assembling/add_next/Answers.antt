use Rattle.code_asm.proofs.RunLaws.{took_stop}
use Rattle.code_asm.proofs.assembling.add_next.Goals as goal

pub returns-in-Err : goal.returns-in-Err
returns-in-Err c = took_stop _ _ _ _ c.in-Err.stop (rw c.in-Some.is at c.in_ok-read.ensures) (rw c.is_empty.ensures at c.in-Err.ensures)
