use Rattle.lowered_calls.proofs.Backs.{left_behind}
use Rattle.lowered_calls.proofs.laws.calls_come_back.Goals as goal

pub returns : goal.returns
returns c = λ p b book h g m items d chain v es ts ws known gives stops index after e entered f a wide out.
    left_behind p b book h g d chain v es ts ws known gives stops index after e entered f a wide out
