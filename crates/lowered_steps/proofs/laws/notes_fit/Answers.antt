use Rattle.lowered_steps.proofs.Moving.{note_fits}
use Rattle.lowered_steps.proofs.laws.notes_fit.Goals as goal

pub returns : goal.returns
returns c = λ p b book h g m items d chain lead rank index instr moves is short. note_fits p b book h g d chain lead rank index instr moves is short
