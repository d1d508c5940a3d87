use Rattle.std.proofs.Common.{arith}
use Rattle.object_file.proofs.ReadLaws.{is_spelled, is_read, is_first}
use Rattle.object_file.proofs.reading.read.Goals as goal

pub returns-clause-object : goal.returns-clause-object
returns-clause-object c = is_spelled _ _ (λ i. omega (arith, c.type_inv.bytes i)) c.read_all.ensures

pub returns-clause-only : goal.returns-clause-only
returns-clause-only c = λ o s. is_read _ _ o c.read_all.ensures s

pub returns-clause-fault : goal.returns-clause-fault
returns-clause-fault c = is_first _ _ c.read_all.ensures
