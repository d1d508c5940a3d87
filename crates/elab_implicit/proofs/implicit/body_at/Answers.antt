use Rattle.elab_entry.specs.elab_ctx.Ctx.{func_of}
use Rattle.elab_implicit.proofs.Implying.{body_at_same}
use Rattle.elab_implicit.proofs.implicit.body_at.Goals as goal

pub returns-clause-is : goal.returns-clause-is
returns-clause-is c = body_at_same c.args.st.now _ _ c.args.func c.args.class
    (func_of c.in-Some.found.now) _ c.in-Some.ensures c.in_ok-param.ensures c.body_implied.ensures.is
