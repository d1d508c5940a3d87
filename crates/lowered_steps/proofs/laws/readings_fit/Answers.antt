use Rattle.lowered_steps.proofs.Moving.{step_moves, none_moves}
use Rattle.lowered_steps.proofs.laws.readings_fit.Goals as goal

pub returns-clause-later : goal.returns-clause-later
returns-clause-later c = λ p b book h g m n items others d chain e outer steps rank index instr rereads moves.
    step_moves p b book h g d chain e outer steps rank index instr rereads moves

pub returns-clause-at_once : goal.returns-clause-at_once
returns-clause-at_once c = λ p b book h g m n items others d chain e outer steps rank index instr rereads moves.
    none_moves p b book h g d chain e outer steps rank index instr rereads moves
