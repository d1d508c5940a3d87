use Rattle.elab_make.specs.cpp_types.Typ.{typ_of}
use Rattle.elab_make.specs.elab_ctx.Ctx.{ctx_of}
use Rattle.elab_aggregates.proofs.Aggregated.{rest_made}
use Rattle.elab_aggregates.proofs.rest.rest_of_array.Goals as goal

pub returns : goal.returns
returns c = rest_made (ctx_of c.args.env.now) _ _
    (typ_of c.args.element.now) c.args.index c.args.count c.args.at _ _ _ c.if-count-eq0.false c.elements_from.ensures
