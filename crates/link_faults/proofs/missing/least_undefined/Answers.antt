use Rattle.link_faults.proofs.ToldFaults.{undefined_first}
use Rattle.link_faults.proofs.missing.least_undefined.Goals as goal

pub returns : goal.returns
returns c =
    undefined_first c.args.tables.now c.requires c.lesser.result
    (c.lesser.ensures.least _ _ (c.lesser-entries.ensures.least _ _
    (rw c.deref-2.ensures.value at c.in_ok-funcs.ensures.least)
    (rw c.deref-4.ensures.value at c.in_ok-globals.ensures.least))
    (rw c.deref-5.ensures.value at c.in_ok-unlisted.ensures.least))
    (c.lesser.ensures.within _ (c.lesser-entries.ensures.within _
    (rw c.deref.ensures.value at c.in_ok-funcs.ensures.within)
    (rw c.deref-3.ensures.value at c.in_ok-globals.ensures.within))
    (rw c.deref-5.ensures.value at c.in_ok-unlisted.ensures.within))
