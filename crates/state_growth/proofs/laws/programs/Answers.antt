use Rattle.state_growth.proofs.Programs.{programs_law, show_law, stay_law}
use Rattle.state_growth.proofs.laws.programs.Goals as goal

pub returns-clause-go : goal.returns-clause-go
returns-clause-go c = programs_law

pub returns-clause-show : goal.returns-clause-show
returns-clause-show c = show_law

pub returns-clause-stay : goal.returns-clause-stay
returns-clause-stay c = stay_law
