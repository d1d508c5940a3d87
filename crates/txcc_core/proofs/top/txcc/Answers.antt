use Rattle.std.proofs.Common.{Ok, ap}
use Rattle.txcc_core.specs.TopCall.{says, usage}
use Rattle.txcc_core.proofs.Options.{can_do}
use Rattle.txcc_core.proofs.top.txcc.Goals as goal

pub execute-requires : goal.execute-requires
execute-requires g c = can_do _ c.in-Ok-Some.command (rw c.in-Ok-Some.field-0-is at c.in-Ok-Some.ensures.says)

pub returns-in-Ok-Some : goal.returns-in-Ok-Some
returns-in-Ok-Some g c = record {
  answers = says c.in-Ok-Some.command (rw c.in-Ok-Some.field-0-is at c.in-Ok-Some.ensures.says) c.execute.ensures;
}

pub returns-in-Ok-None : goal.returns-in-Ok-None
returns-in-Ok-None g c = record { answers = usage (c.in-Ok-None.ensures.refused (ap Ok c.in-Ok-None.field-0-is)) c.usage.ensures }
