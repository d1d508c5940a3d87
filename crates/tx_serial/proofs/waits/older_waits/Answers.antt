use Rattle.tx_serial.proofs.WaitCircles.{rolled_by, waited_by}
use Rattle.tx_serial.proofs.waits.older_waits.Goals as goal

pub returns-clause-rolled : goal.returns-clause-rolled
returns-clause-rolled g c =
    λ p answer m t word holder small sound rule is. rolled_by g.A.Actor.is_reached g.A.Actor.thread p m sound g.met.A.Actor.laws small answer t rule word
    holder is

pub returns-clause-waited : goal.returns-clause-waited
returns-clause-waited g c =
    λ p answer m t word holder small sound rule inside is u blocks. waited_by g.A.Actor.is_reached g.A.Actor.thread p m sound g.met.A.Actor.laws small answer t
    rule word holder inside is u blocks
