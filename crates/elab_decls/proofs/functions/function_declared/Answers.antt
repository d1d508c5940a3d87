use Rattle.std.proofs.Common.{◌≡◌, ◌∙◌, None, map, sym}
use Rattle.elab_expr.specs.elab_ctx.Ctx.{ctx_of, func_of}
use Rattle.elab_expr.specs.elab_rules.Functions.{first_from, is_same_function, function_declared}
use Rattle.class_members.specs.Shown.{header_of}
use Rattle.elab_decls.specs.Says.{placed_at, newly_declared}
use Rattle.elab_decls.proofs.Steps.{says_same}
use Rattle.elab_decls.proofs.FunctionSteps.{declared_is}
use Rattle.elab_decls.proofs.functions.function_declared.Goals as goal

pub returns-in-None : goal.returns-in-None
returns-in-None c =
    let none : first_from (is_same_function (header_of c.args.header.now)) 0 (map func_of c.args.env.now.funcs) ≡ None = sym c.first_same.ensures
    ∙ c.in-None.is in
    says_same (placed_at c.first_declared.new.env) c.first_declared.result (newly_declared (ctx_of c.args.env.now) (header_of c.args.header.now))
    (function_declared (ctx_of c.args.env.now) (header_of c.args.header.now) c.args.defines)
    (declared_is (ctx_of c.args.env.now) (header_of c.args.header.now) c.args.defines c.in_ok-main_fits.field-0 c.in_ok-words_fit.field-0
    c.in_ok-header_sized.field-0 None c.in_ok-main_fits.ensures c.in_ok-words_fit.ensures c.in_ok-header_sized.ensures none)
    c.first_declared.ensures
