use Rattle.std.proofs.Common.{map}
use Rattle.elab_init.specs.cpp_types.Typ.{typ_of}
use Rattle.elab_init.specs.elab_ctx.Ctx.{ctx_of, capture_of}
use Rattle.lambda_captures.proofs.Captured.{variable_captured}
use Rattle.lambda_captures.proofs.captures.capture_variable.Goals as goal

pub returns : goal.returns
returns c = variable_captured _ _ (ctx_of c.args.env.now) (map capture_of c.args.captures.now.items) c.args.at c.args.variable c.args.by_ref
    (typ_of c.in_ok-ty.ty.now) c.in_ok-ty.ensures c.capture_typed.ensures
