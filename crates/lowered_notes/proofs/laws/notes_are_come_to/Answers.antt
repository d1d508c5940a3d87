use Rattle.lowered_notes.proofs.Landing.{lands}
use Rattle.lowered_notes.proofs.laws.notes_are_come_to.Goals as goal

pub returns : goal.returns
returns c = λ p f g m items d chain v es ts all so b notes thrown known answers lag index rank types k comes t q o place_is outcome_is going.
    lands p f g d chain v es ts all so b notes thrown known answers lag index rank types k comes t q o place_is outcome_is going
