use Rattle.tx_code.proofs.LawfulThreads.{lawful, first_in}
use Rattle.tx_code.proofs.standing.threads_are_lawful.Goals as goal

pub returns-clause-laws : goal.returns-clause-laws
returns-clause-laws c = lawful

pub returns-clause-starts : goal.returns-clause-starts
returns-clause-starts c = λ i image sound. first_in i sound image
