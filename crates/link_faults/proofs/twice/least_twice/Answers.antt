use Rattle.std.proofs.Common.{◌∙◌}
use Rattle.link_faults.proofs.ToldFaults.{twice_first}
use Rattle.link_faults.proofs.twice.least_twice.Goals as goal

pub returns : goal.returns
returns c =
    twice_first c.args.tables.now c.requires c.lesser.result
    (c.lesser.ensures.least _ _ (rw c.deref.ensures.value at c.in_ok-of_funcs.ensures.least) (rw c.deref-2.ensures.value at c.in_ok-of_globals.ensures.least))
    (c.lesser.ensures.within _ (rw (c.len.ensures ∙ c.args.tables.now.names.ok.0) at c.in_ok-of_funcs.ensures.within)
    (rw (c.len-2.ensures ∙ c.args.tables.now.names.ok.0) at c.in_ok-of_globals.ensures.within))
