use Rattle.std.proofs.Common.{◌∙◌, List, map, true, ap}
use Rattle.elab_expr.specs.elab_types.declared.records.Parameter.{Parameter}
use Rattle.elab_expr.specs.elab_types.Shown.{parameter_of}
use Rattle.elab_expr.specs.elab_ctx.Ctx.{Func, ctx_of, func_of}
use Rattle.elab_expr.specs.elab_ctx.declared.env.FuncDecl.{FuncDecl}
use Rattle.elab_expr.specs.cpp_tree.Units.{Param}
use Rattle.elab_expr.specs.elab_rules.Functions.{defined_function, param_of}
use Rattle.elab_expr.specs.elab_rules.Initialising.{no_function}
use Rattle.elab_expr.proofs.elab_ctx.Searches.{changed_shown}
use Rattle.class_members.specs.Shown.{header_of}
use Rattle.elab_decls.proofs.functions.define_function.Goals as goal

pub returns : goal.returns
returns c =
    let header = header_of c.args.header.now in
    ap (λ (z : List Func). record (ctx_of c.args.env.now) { funcs = z }) (ap (map func_of) c.define.ensures
    ∙ changed_shown func_of (λ (f : FuncDecl). record f { is_defined = true; params = c.in_ok-params.params; text = c.args.text; closed_at = c.args.closed_at })
    (λ (z : Func). defined_function z header c.args.text.items c.args.closed_at) c.args.env.now.funcs c.args.place no_function
    (λ (f : FuncDecl). ap (λ (z : List Param). record (func_of f) { is_defined = true; params = z; text = c.args.text.items; closed_at = c.args.closed_at })
    (c.in_ok-params.ensures ∙ ap (λ (z : List Parameter). map param_of (map parameter_of z)) c.deref.ensures.value)))
