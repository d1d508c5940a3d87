use Rattle.lowered_calls.proofs.Builtins.{output_fits}
use Rattle.lowered_calls.proofs.laws.output_fits.Goals as goal

pub returns : goal.returns
returns c = λ p b book h g items d id way chain v es ts known lead rank index after told f a.
    output_fits p b book h g d id way chain v es ts known lead rank index after told f a
