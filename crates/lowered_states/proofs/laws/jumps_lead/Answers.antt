use Rattle.lowered_states.proofs.Aiming.{bind_leads, other_leads, other_again_leads, step_leads}
use Rattle.lowered_states.proofs.laws.jumps_lead.Goals as goal

pub returns-clause-bind : goal.returns-clause-bind
returns-clause-bind c = λ g j s h to a r. bind_leads g j s h to a r

pub returns-clause-other : goal.returns-clause-other
returns-clause-other c = λ g o j s e h to a r. other_leads g o j s e h to a r

pub returns-clause-other_again : goal.returns-clause-other_again
returns-clause-other_again c = λ g o j s e h to a r. other_again_leads g o j s e h to a r

pub returns-clause-step : goal.returns-clause-step
returns-clause-step c = λ g turn j s e h to a r. step_leads g turn j s e h to a r
