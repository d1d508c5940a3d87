use Rattle.elab_laws.proofs.Primary.{integers_law, characters_law, booleans_law, pointers_law, texts_law}
use Rattle.elab_laws.proofs.primary_laws.literals.Goals as goal

pub returns-clause-integers : goal.returns-clause-integers
returns-clause-integers c = integers_law

pub returns-clause-characters : goal.returns-clause-characters
returns-clause-characters c = characters_law

pub returns-clause-booleans : goal.returns-clause-booleans
returns-clause-booleans c = booleans_law

pub returns-clause-pointers : goal.returns-clause-pointers
returns-clause-pointers c = pointers_law

pub returns-clause-texts : goal.returns-clause-texts
returns-clause-texts c = texts_law
