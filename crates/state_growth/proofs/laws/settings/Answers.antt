use Rattle.state_growth.proofs.Settings.{stand_law, reached_law, works_law, states_law, left_law, shown_law, begun_law}
use Rattle.state_growth.proofs.laws.settings.Goals as goal

pub returns-clause-stand : goal.returns-clause-stand
returns-clause-stand c = stand_law

pub returns-clause-reached : goal.returns-clause-reached
returns-clause-reached c = reached_law

pub returns-clause-works : goal.returns-clause-works
returns-clause-works c = works_law

pub returns-clause-states : goal.returns-clause-states
returns-clause-states c = states_law

pub returns-clause-left : goal.returns-clause-left
returns-clause-left c = left_law

pub returns-clause-shown : goal.returns-clause-shown
returns-clause-shown c = shown_law

pub returns-clause-begun : goal.returns-clause-begun
returns-clause-begun c = begun_law
