use Rattle.std.proofs.Common.{◌∙◌, Ok, ap, sym}
use Rattle.elab_expr.specs.cpp_lex.Tokens.{lexemes_of}
use Rattle.cpp_types.specs.Typ.{typ_of}
use Rattle.elab_expr.specs.elab_ctx.Ctx.{ctx_of, work_of}
use Rattle.elab_expr.specs.elab_rules.Statements.{State}
use Rattle.elab_expr.specs.elab_types.Syntax.{syntax_of, trees_at}
use Rattle.elab_decls.specs.Says.{changed, counted}
use Rattle.elab_decls.proofs.EnumSteps.{enum_is}
use Rattle.elab_decls.proofs.enums.enum_with.Goals as goal

pub returns : goal.returns
returns c bodies =
    enum_is (lexemes_of c.args.tokens.now) (changed (ctx_of c.args.env.now) (work_of c.args.work.now) bodies) c.args.at c.args.name.now c.args.scoped
    (trees_at (syntax_of c.args.nodes.now) c.args.ids.now) (ctx_of c.enum_named.new.env) c.in_ok-from.from (typ_of c.in_ok-ty.ty)
    (counted (ctx_of c.enumerators_declared.new.env) (work_of c.enumerators_declared.new.work) bodies c.in_ok-enumerators_declared.field-0)
    c.in_ok-enum_named.ensures.done c.in_ok-enum_named.ensures.behind c.in_ok-from.ensures c.in_ok-ty.ensures (c.in_ok-enumerators_declared.ensures bodies)
    ∙ ap (λ (z : State). Ok z) (sym (c.in_ok-close_enum.ensures (work_of c.enumerators_declared.new.work) bodies))
