use Rattle.std.proofs.Common.{subst, map}
use Rattle.std.specs.Prelude.{IfOk}
use Rattle.command_io.specs.Writes.{written_of}
use Rattle.tx_answers.specs.Ends.{Refuses}
use Rattle.tx_answers.specs.declared.answer.Status.TheVariants as status
use Rattle.source_verdict.proofs.limits.too_many_sources.Goals as goal

pub returns : goal.returns
returns c = subst (λ l. IfOk c.refusal.result (λ d. Refuses 7 l status.Limit d.answer (map written_of d.writes.items))) c.in_ok-line.ensures c.refusal.ensures
