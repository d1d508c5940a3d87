use Rattle.lockstep.specs.Moves.{Kept}
use Rattle.lockstep.proofs.Walk.{moves_same, moves_within}
use Rattle.lockstep.proofs.laws.moves.Goals as goal

pub returns-clause-same : goal.returns-clause-same
returns-clause-same g c = λ most longest related move rank s t low h. moves_same g.A.Actor.thread g.B.Actor.thread most longest
    (Kept related) move rank s t low h

pub returns-clause-within : goal.returns-clause-within
returns-clause-within g c = λ most longest related move rank s t low h. moves_within g.A.Actor.thread g.B.Actor.thread most longest
    (Kept related) move rank s t low h
