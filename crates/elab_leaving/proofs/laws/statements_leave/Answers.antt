use Rattle.elab_leaving.proofs.Statements.{statements_kept}
use Rattle.elab_leaving.proofs.laws.statements_leave.Goals as goal

pub returns : goal.returns
returns c = λ lams q s st ts. statements_kept lams q s st ts
