use Rattle.elab_stmt.proofs.Small.{one_stays, several}
use Rattle.elab_stmt.proofs.simple.only.Goals as goal

pub returns-in-Some : goal.returns-in-Some
returns-in-Some c = one_stays _ _ _ c.in-Some.id c.args.at c.requires c.deref.ensures.value c.in-Some.ensures

pub returns-in-None : goal.returns-in-None
returns-in-None c = several _ _ _ _ _ c.args.at c.deref.ensures.value c.in-None.ensures c.block.ensures
