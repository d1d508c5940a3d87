use Rattle.elab_consts.proofs.Kids.{only_none}
use Rattle.elab_consts.proofs.constants.only_global.Goals as goal

pub returns-else-kids-eq1 : goal.returns-else-kids-eq1
returns-else-kids-eq1 c = only_none _ c.args.kids.now c.if-kids-eq1.false
