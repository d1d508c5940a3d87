use Rattle.std.proofs.Common.{◌∙◌, ◌++◌, ap}
use Rattle.elab_aggregates.proofs.StringParts.{both_parts}
use Rattle.elab_aggregates.proofs.strings.string_pieces.Goals as goal

pub returns : goal.returns
returns c = both_parts _ _ _ _ _ _ _ _ c.in_ok-kids.ensures c.in_ok-rest.ensures
    (c.in_ok-keep_all.ensures ∙ ap (λ z. c.in_ok-kids.kids.items ++ z) c.deref.ensures.value)
