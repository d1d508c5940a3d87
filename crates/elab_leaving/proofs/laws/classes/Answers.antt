use Rattle.elab_leaving.proofs.Classes.{class_same}
use Rattle.elab_leaving.proofs.laws.classes.Goals as goal

pub returns : goal.returns
returns c = λ lams q s st at name kids e. class_same lams q s st at name kids e
