use Rattle.std.proofs.Common.{◌∙◌}
use Rattle.link_faults.proofs.ToldFaults.{different_first}
use Rattle.link_faults.proofs.twice.least_different.Goals as goal

pub returns : goal.returns
returns c =
    let n = c.args.tables.now.names.ok.0 in
    different_first c.args.tables.now c.requires c.lesser.result
    (c.lesser.ensures.least _ _ (c.lesser-with_funcs.ensures.least _ _ (c.lesser-definitions.ensures.least _ _
    (rw c.deref.ensures.value at c.in_ok-classes.ensures.least)
    (rw c.deref-2.ensures.value at c.in_ok-texts.ensures.least))
    (rw c.deref-3.ensures.value at c.in_ok-funcs.ensures.least))
    (rw c.deref-4.ensures.value at c.in_ok-globals.ensures.least))
    (c.lesser.ensures.within _ (c.lesser-with_funcs.ensures.within _ (c.lesser-definitions.ensures.within _
    (rw (c.len.ensures ∙ n) at c.in_ok-classes.ensures.within)
    (rw (c.len-2.ensures ∙ n) at c.in_ok-texts.ensures.within))
    (rw (c.len-3.ensures ∙ n) at c.in_ok-funcs.ensures.within))
    (rw (c.len-4.ensures ∙ n) at c.in_ok-globals.ensures.within))
