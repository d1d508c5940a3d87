use Rattle.lowered_frames.proofs.Replaced.{frames_in, operands_in, temporaries_in, caught_in}
use Rattle.lowered_frames.proofs.laws.what_is_left_is_replaced.Goals as goal

pub returns-clause-frames : goal.returns-clause-frames
returns-clause-frames c = λ g number r m items d chain es ts. frames_in g number r d chain es ts

pub returns-clause-operands : goal.returns-clause-operands
returns-clause-operands c = λ g r m items d chain v ts. operands_in g r d chain v ts

pub returns-clause-temporaries : goal.returns-clause-temporaries
returns-clause-temporaries c = λ g r m items d chain ts. temporaries_in g r d chain ts

pub returns-clause-exceptions : goal.returns-clause-exceptions
returns-clause-exceptions c = λ g r m items d es. caught_in g r d es
