use Rattle.code_asm.proofs.Complete.{leads_to_end}
use Rattle.code_asm.proofs.RunLaws.{one_written, not_wrong}
use Rattle.code_asm.proofs.laws.written_texts.Goals as goal

pub returns-clause-leads : goal.returns-clause-leads
returns-clause-leads c = leads_to_end

pub returns-clause-object : goal.returns-clause-object
returns-clause-object c = one_written

pub returns-clause-apart : goal.returns-clause-apart
returns-clause-apart c = not_wrong
