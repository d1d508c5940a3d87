use Rattle.std.proofs.Common.{◌∙◌, ◌∷◌, ap}
use Rattle.elab_scopes.specs.cpp_types.Typ.{typ_of}
use Rattle.elab_scopes.specs.elab_ctx.Ctx.{ctx_of}
use Rattle.elab_locals.proofs.Made.{init_ok}
use Rattle.elab_locals.proofs.inits.init_node.Goals as goal

pub returns : goal.returns
returns c = init_ok (ctx_of c.args.env.now) _ _ _ _ c.args.variable c.args.init c.in_ok-init.init _ _ _
    (typ_of c.args.ty.now) c.args.at c.args.whole c.requires.variable c.in_ok-init.ensures c.in_ok-ends.ensures
    (c.in_ok-kids.ensures ∙ ap (λ z. c.args.variable ∷ c.in_ok-init.init ∷ z) c.deref.ensures.value) c.statement.ensures
