use Rattle.std.proofs.Common.{◌∙◌, map, ap}
use Rattle.elab_entry.specs.elab_scopes.States.{body_of}
use Rattle.elab_implicit.specs.Marks.{table_of}
use Rattle.elab_implicit.proofs.Implying.{table_first, table_size}
use Rattle.elab_implicit.proofs.implicit.with_implied.Goals as goal

pub implied_below-requires-clause-table : goal.implied_below-requires-clause-table
implied_below-requires-clause-table c = table_first _ _ c.args.st.now c.in-Ok.count
    (c.in_ok-marks.ensures ∙ ap (λ z. table_of c.in-Ok.count (map body_of z)) c.deref.ensures.value) c.mark_slots.ensures

pub implied_below-requires-clause-size : goal.implied_below-requires-clause-size
implied_below-requires-clause-size c = table_size _ _ c.args.st.now c.in-Ok.count
    (c.in_ok-marks.ensures ∙ ap (λ z. table_of c.in-Ok.count (map body_of z)) c.deref.ensures.value) c.mark_slots.ensures
