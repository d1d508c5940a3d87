use Rattle.elab_aggregates.proofs.Relocation.{only_other}
use Rattle.elab_aggregates.proofs.relocating.is_only_first.Goals as goal

pub returns-else-kids-eq1 : goal.returns-else-kids-eq1
returns-else-kids-eq1 c = only_other _ c.args.kids.now c.if-kids-eq1.false
