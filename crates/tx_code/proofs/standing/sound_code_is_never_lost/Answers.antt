use Rattle.tx_code.proofs.LawfulThreads.{not_lost, in_shape}
use Rattle.tx_code.proofs.standing.sound_code_is_never_lost.Goals as goal

pub returns-clause-here : goal.returns-clause-here
returns-clause-here c = not_lost

pub returns-clause-ever : goal.returns-clause-ever
returns-clause-ever c = λ i image sound s d. not_lost i sound s (in_shape i sound image d)
