use Rattle.lowered_calls.proofs.Returns.{return_fits, return_nothing_fits}
use Rattle.lowered_calls.proofs.laws.returns_fit.Goals as goal

pub returns-clause-with_word : goal.returns-clause-with_word
returns-clause-with_word c = λ p b book h g m n items outer d o origin junk at chain v es ts known lead rank index out gives.
    return_fits p b book h g d o origin junk at chain v es ts known lead rank index out gives

pub returns-clause-with_nothing : goal.returns-clause-with_nothing
returns-clause-with_nothing c = λ p b book h g m n items outer d o origin junk at chain v es ts known lead rank index out gives.
    return_nothing_fits p b book h g d o origin junk at chain v es ts known lead rank index out gives
