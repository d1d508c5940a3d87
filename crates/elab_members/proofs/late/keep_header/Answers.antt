use Rattle.std.proofs.Common.{ap}
use Rattle.elab_entry.specs.elab_ctx.Ctx.{Ctx}
use Rattle.elab_members.proofs.late.keep_header.Goals as goal

pub returns-clause-labels : goal.returns-clause-labels
returns-clause-labels c = ap (λ (z : Ctx). z.labels) c.in_ok-define_function.ensures
