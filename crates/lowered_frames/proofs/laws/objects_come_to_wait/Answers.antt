use Rattle.lowered_frames.proofs.Entered.{variable_waits, member_waits, deferred_waits, argument_waits}
use Rattle.lowered_frames.proofs.laws.objects_come_to_wait.Goals as goal

pub returns-clause-variables : goal.returns-clause-variables
returns-clause-variables c = λ g number offset id first always m items d chain es ts w. variable_waits g number offset id first always d chain es ts w

pub returns-clause-members : goal.returns-clause-members
returns-clause-members c = λ g number t offset id first always m items d chain es ts w. member_waits g number t offset id first always d chain es ts w

pub returns-clause-deferred : goal.returns-clause-deferred
returns-clause-deferred c = λ g number other id first always m items d chain es ts w. deferred_waits g number other id first always d chain es ts w

pub returns-clause-arguments : goal.returns-clause-arguments
returns-clause-arguments c = λ g number offset id first always m items d chain es ts w. argument_waits g number offset id first always d chain es ts w
