use Rattle.turn_traces.proofs.KeptRuns as runs
use Rattle.turn_traces.proofs.keeps_the_trace.Goals as goal

pub returns : goal.returns
returns g c =
    λ p memory input main slots small reached free. runs.keeps_the_trace g.A.Actor.is_reached g.A.Actor.thread g.met.A.Actor.laws p small memory input main
    reached free slots
