use Rattle.std.proofs.Common.{◌∙◌, ap, ◌*◌}
use Rattle.elab_make.specs.elab_ctx.Ctx.{ctx_of}
use Rattle.elab_aggregates.proofs.Aggregated.{nothing_same}
use Rattle.elab_aggregates.proofs.rest.elements_from.Goals as goal

pub returns : goal.returns
returns c = nothing_same (ctx_of c.args.env.now) _ _ _ _ _ _ c.args.at _ _ _
    (c.in_ok-offset.ensures ∙ ap (λ z. c.args.index * z) c.in_ok-size.ensures) c.in_ok-ty.ensures c.piece_from_nothing.ensures
