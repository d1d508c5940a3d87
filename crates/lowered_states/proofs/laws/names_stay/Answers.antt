use Rattle.lowered_states.proofs.Running.{same_number, number_stays, name_stays}
use Rattle.lowered_states.proofs.laws.names_stay.Goals as goal

pub returns-clause-there : goal.returns-clause-there
returns-clause-there c = λ from to k name l. same_number from.names to.names k.names name l

pub returns-clause-number : goal.returns-clause-number
returns-clause-number c = λ name s to b. number_stays name s to b

pub returns-clause-name : goal.returns-clause-name
returns-clause-name c = λ name s to b. name_stays name s to b
