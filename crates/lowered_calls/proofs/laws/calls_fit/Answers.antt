use Rattle.lowered_calls.proofs.Whole.{named_call_fits, pointed_call_fits, slotted_call_fits}
use Rattle.lowered_calls.proofs.laws.calls_fit.Goals as goal

pub returns-clause-by_name : goal.returns-clause-by_name
returns-clause-by_name c = λ p b book h g m items d n id way chain rank index after name entered a wide v es ts known lead func named takes e out f.
    named_call_fits p b book h g d n id way chain rank index after name entered a wide v es ts known lead func named takes e out f

pub returns-clause-by_pointer : goal.returns-clause-by_pointer
returns-clause-by_pointer c = λ p b book h g m items d n id way chain rank index after name entered a wide v es ts known lead sig gives is takes e out f.
    pointed_call_fits p b book h g d n id way chain rank index after name entered a wide v es ts known lead sig gives is takes e out f

pub returns-clause-by_slot : goal.returns-clause-by_slot
returns-clause-by_slot c = λ p b book h g m items d n id way chain rank index after name entered a wide v es ts known lead class slot gives is takes among e out f.
    slotted_call_fits p b book h g d n id way chain rank index after name entered a wide v es ts known lead class slot gives is takes among e out f
