use Rattle.elab_laws.proofs.Assigning.{commas_law}
use Rattle.elab_laws.proofs.choice_laws.commas.Goals as goal

pub returns : goal.returns
returns c = commas_law
