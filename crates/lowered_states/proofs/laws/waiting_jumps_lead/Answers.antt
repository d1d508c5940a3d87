use Rattle.lowered_states.proofs.Aiming.{body_leads, test_leads, past_leads, body_gone, test_gone, past_gone, places_gone}
use Rattle.lowered_states.proofs.laws.waiting_jumps_lead.Goals as goal

pub returns-clause-next_turn : goal.returns-clause-next_turn
returns-clause-next_turn c = λ g turn index s w h to a r. body_leads g turn index s w h to a r

pub returns-clause-behind_loop : goal.returns-clause-behind_loop
returns-clause-behind_loop c = λ g turn index s w h to a r. test_leads g turn index s w h to a r

pub returns-clause-behind : goal.returns-clause-behind
returns-clause-behind c = λ g scope index s w h to a r. past_leads g scope index s w h to a r

pub returns-clause-next_turn_gone : goal.returns-clause-next_turn_gone
returns-clause-next_turn_gone c = λ g turn s h. body_gone g turn s h

pub returns-clause-behind_loop_gone : goal.returns-clause-behind_loop_gone
returns-clause-behind_loop_gone c = λ g turn s h. test_gone g turn s h

pub returns-clause-behind_gone : goal.returns-clause-behind_gone
returns-clause-behind_gone c = λ g scope s h. past_gone g scope s h

pub returns-clause-gone : goal.returns-clause-gone
returns-clause-gone c = λ g from to h a r scope sort l e. places_gone g from to h a r scope sort l e
