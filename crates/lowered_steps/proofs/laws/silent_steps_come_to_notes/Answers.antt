use Rattle.lowered_steps.proofs.Landings.{quiet_landing}
use Rattle.lowered_steps.proofs.laws.silent_steps_come_to_notes.Goals as goal

pub returns : goal.returns
returns c = λ p b book h g m items d chain v es ts known f lead lag rank index after a short on q o place_is outcome_is.
    quiet_landing p b book h g d chain v es ts known f lead lag rank index after a short on q o place_is outcome_is
