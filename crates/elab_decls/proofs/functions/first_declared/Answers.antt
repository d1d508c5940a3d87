use Rattle.std.proofs.Common.{◌≡◌, ◌∙◌, ◌∷◌, ◌++◌, [], rules, Err, ap}
use Rattle.elab_expr.specs.elab_ctx.Ctx.{Func, ctx_of}
use Rattle.elab_expr.specs.elab_rules.Functions.{name_declared}
use Rattle.class_members.specs.Shown.{header_of}
use Rattle.elab_decls.specs.Says.{placed_at, newly_declared}
use Rattle.elab_decls.proofs.Steps.{faults_then, says_refused}
use Rattle.elab_decls.proofs.FunctionSteps.{newly_is}
use Rattle.elab_decls.proofs.functions.first_declared.Goals as goal

pub returns-in_err-name_declared : goal.returns-in_err-name_declared
returns-in_err-name_declared c =
    let is_error : c.from_residual-in_err-name_declared.result ≡ Err c.in_err-name_declared.field-0.0 = search rules in
    says_refused (placed_at c.name_declared.new.env) c.from_residual-in_err-name_declared.result c.in_err-name_declared.field-0.0
    (newly_declared (ctx_of c.args.env.now) (header_of c.args.header.now)) is_error
    (faults_then c.in_err-name_declared.field-0.0 (name_declared (ctx_of c.args.env.now)
    (header_of c.args.header.now) c.args.header.now.class) _ c.in_err-name_declared.ensures)

pub returns : goal.returns
returns c =
    newly_is (ctx_of c.args.env.now) (ctx_of c.name_declared.new.env) (ctx_of c.add_function.new.env)
    (header_of c.args.header.now) c.in_ok-place.place c.in_ok-place.ensures c.in_ok-name_declared.ensures
    (c.in_ok-add_function.ensures ∙ ap (λ (z : Func).
    record (ctx_of c.name_declared.new.env) { funcs = (ctx_of c.name_declared.new.env).funcs ++ z ∷ [] }) c.in_ok-made.ensures)
