use Rattle.tx_serial.proofs.WaitCircles.{eldest_stays, youngest_goes, no_circle}
use Rattle.tx_serial.proofs.waits.no_circle_of_waits.Goals as goal

pub returns-clause-eldest : goal.returns-clause-eldest
returns-clause-eldest g c =
    λ p answer m t word holder small sound rule first is. eldest_stays g.A.Actor.is_reached g.A.Actor.thread p m sound g.met.A.Actor.laws small answer t rule
    word holder first is

pub returns-clause-youngest : goal.returns-clause-youngest
returns-clause-youngest g c =
    λ p answer m t word holder small sound rule last is. youngest_goes g.A.Actor.is_reached g.A.Actor.thread p m sound g.met.A.Actor.laws small answer t rule
    word holder last is

pub returns-clause-circle : goal.returns-clause-circle
returns-clause-circle g c =
    λ p answer m t small sound rule circle. no_circle g.A.Actor.is_reached g.A.Actor.thread p m sound g.met.A.Actor.laws small answer rule t circle
