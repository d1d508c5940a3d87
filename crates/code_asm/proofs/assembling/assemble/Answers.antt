use Rattle.code_asm.proofs.RunLaws.{written, that, fault}
use Rattle.code_asm.proofs.assembling.assemble.Goals as goal

pub returns-clause-object : goal.returns-clause-object
returns-clause-object c = written _ _ c.run.ensures

pub returns-clause-only : goal.returns-clause-only
returns-clause-only c = λ o w. that _ _ o c.run.ensures w

pub returns-clause-fault : goal.returns-clause-fault
returns-clause-fault c = fault _ _ c.run.ensures
