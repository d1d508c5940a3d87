use Rattle.std.proofs.Common.{ap, not}
use Rattle.std.proofs.lemmas.List.{drop_more}
use Rattle.src_bind.proofs.Steps.{kept_loop}
use Rattle.src_bind.proofs.defs.kept.Goals as goal

pub loop-def-preserved : goal.loop-def-preserved
loop-def-preserved c = kept_loop c.args.all.now c.loop-def.def-index _ _ c.deref.result.now _ _
    (drop_more c.args.all.now c.loop-def.def-index _ c.loop-def-test.true) c.deref.ensures.value
    (ap not c.has_same-new.ensures) c.in_ok-add_if.ensures c.loop-def.invariant
