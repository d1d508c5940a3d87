use Rattle.elab_laws.proofs.Naming.{hides_law, others_stay_law, gives_back_law}
use Rattle.elab_laws.proofs.naming_laws.blocks.Goals as goal

pub returns-clause-hides : goal.returns-clause-hides
returns-clause-hides c = hides_law

pub returns-clause-others_stay : goal.returns-clause-others_stay
returns-clause-others_stay c = others_stay_law

pub returns-clause-gives_back : goal.returns-clause-gives_back
returns-clause-gives_back c = gives_back_law
