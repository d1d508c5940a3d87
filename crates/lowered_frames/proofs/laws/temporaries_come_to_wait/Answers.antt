use Rattle.lowered_frames.proofs.Entered.{frames_put, below_put, temporaries_put}
use Rattle.lowered_frames.proofs.laws.temporaries_come_to_wait.Goals as goal

pub returns-clause-frames : goal.returns-clause-frames
returns-clause-frames c = λ g number offset id first m items d chain w es ts. frames_put offset id first g number d chain w es ts

pub returns-clause-operands : goal.returns-clause-operands
returns-clause-operands c = λ g offset id first m items d chain w ts. below_put offset id first g d chain w ts

pub returns-clause-temporaries : goal.returns-clause-temporaries
returns-clause-temporaries c = λ g offset id first m items d chain w ts. temporaries_put offset id first g d chain w ts
