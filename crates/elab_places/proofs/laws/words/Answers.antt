use Rattle.elab_places.proofs.Words.{words_law, free_law}
use Rattle.elab_places.proofs.laws.words.Goals as goal

pub returns-clause-counted : goal.returns-clause-counted
returns-clause-counted c = words_law

pub returns-clause-free : goal.returns-clause-free
returns-clause-free c = free_law
