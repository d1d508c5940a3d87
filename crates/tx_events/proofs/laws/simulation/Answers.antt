use Rattle.tx_events.proofs.SimulationLemmas.{simulated, simulated_within}
use Rattle.tx_events.proofs.laws.simulation.Goals as goal

pub returns-clause-same : goal.returns-clause-same
returns-clause-same g c = λ rate most patience credit s r sim.
    simulated (record { first = g.A.Actor.thread; second = g.B.Actor.thread; rate = rate; most = most }) patience credit s r sim

pub returns-clause-within : goal.returns-clause-within
returns-clause-within g c = λ rate most patience credit s r sim.
    simulated_within (record { first = g.A.Actor.thread; second = g.B.Actor.thread; rate = rate; most = most }) patience credit s r sim
