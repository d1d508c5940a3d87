use Rattle.std.proofs.Common.{List, Some, ap}
use Rattle.std.proofs.lemmas.List.{map-set}
use Rattle.elab_scopes.specs.elab_ctx.Ctx.{Variable, ctx_of, variable_of}
use Rattle.elab_locals.proofs.autos.set_variable.Goals as goal

pub returns : goal.returns
returns c = ap (λ (z : List Variable). record (ctx_of c.args.env.now) { variables = z })
    (map-set variable_of c.args.env.now.variables.items c.args.index (record { ty = Some c.args.ty; place = c.args.place }))
