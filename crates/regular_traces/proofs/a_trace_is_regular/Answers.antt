use Rattle.regular_traces.proofs.TraceItems as trace
use Rattle.regular_traces.proofs.a_trace_is_regular.Goals as goal

pub returns : goal.returns
returns g c = λ p memory input main order items few small h. trace.regular g.A.Actor.thread p few small memory input main order items h
