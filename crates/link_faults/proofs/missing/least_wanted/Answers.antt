use Rattle.link_faults.proofs.ToldFaults.{unsafe_first}
use Rattle.link_faults.proofs.missing.least_wanted.Goals as goal

pub returns : goal.returns
returns c = unsafe_first c.args.tables.now c.requires c.in_ok-least.least (rw c.deref-2.ensures.value at c.in_ok-least.ensures.least)
    (rw c.deref.ensures.value at c.in_ok-least.ensures.within)
