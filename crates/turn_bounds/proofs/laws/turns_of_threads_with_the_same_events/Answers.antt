use Rattle.turn_bounds.proofs.SameBounds.{bound_ends, bound_only, bound_quiet}
use Rattle.turn_bounds.proofs.laws.turns_of_threads_with_the_same_events.Goals as goal

pub returns-clause-ends : goal.returns-clause-ends
returns-clause-ends g c = λ main code many more reached free same some within p small memory input n out end run slots few.
    bound_ends g.A.Actor.thread g.B.Actor.is_reached g.B.Actor.thread g.met.B.Actor.laws main code reached free same many more some within p small memory input
    n out end run slots few

pub returns-clause-no_other_end : goal.returns-clause-no_other_end
returns-clause-no_other_end g c = λ main code many more reached free same some within p small memory input n out end run slots other is.
    bound_only g.A.Actor.thread g.B.Actor.is_reached g.B.Actor.thread g.met.B.Actor.laws main code reached free same many more some within p small memory input
    n out end run slots other is

pub returns-clause-never_waits : goal.returns-clause-never_waits
returns-clause-never_waits g c = λ main code many more reached free same some within p small memory input n out end run slots answer t.
    bound_quiet g.A.Actor.thread g.B.Actor.is_reached g.B.Actor.thread g.met.B.Actor.laws main code reached free same many more some within p small memory input
    n out end run slots answer t
