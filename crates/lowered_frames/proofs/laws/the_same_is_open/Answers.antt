use Rattle.lowered_frames.proofs.Opened.{blocks_are, handlers_are}
use Rattle.lowered_frames.proofs.laws.the_same_is_open.Goals as goal

pub returns-clause-blocks : goal.returns-clause-blocks
returns-clause-blocks c = λ g number m items d chain es ts e. blocks_are g number d chain es ts e

pub returns-clause-handlers : goal.returns-clause-handlers
returns-clause-handlers c = λ g number m items d chain es ts. handlers_are g number d chain es ts
