use Rattle.std.proofs.Common.{rules}
use Rattle.elab_expr.specs.elab_ctx.Ctx.{ctx_of}
use Rattle.elab_scopes.proofs.Choices.{declared_twice}
use Rattle.elab_scopes.proofs.scopes.declare.Goals as goal

pub returns-in-Err-Twice : goal.returns-in-Err-Twice
returns-in-Err-Twice c = rw c.ill.ensures (declared_twice (ctx_of c.args.env.now) c.args.at c.args.name.now c.in-Err-Twice.field-0-0
    ((c.in-Err-Twice.ensures.twice c.in-Err-Twice.field-0-0).0 (search (rules, c.in-Err-Twice.field-0-is))))
