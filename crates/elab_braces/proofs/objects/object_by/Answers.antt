use Rattle.elab_expr.specs.cpp_lex.Tokens.{lexemes_of}
use Rattle.elab_expr.specs.cpp_types.Typ.{typ_of}
use Rattle.elab_expr.specs.elab_ctx.Ctx.{ctx_of}
use Rattle.elab_expr.specs.elab_types.Syntax.{syntax_of, trees_at}
use Rattle.elab_braces.proofs.Initials.{form_makes, lower_within}
use Rattle.elab_braces.proofs.objects.object_by.Goals as goal

pub by_written-requires-clause-form : goal.by_written-requires-clause-form
by_written-requires-clause-form c = lower_within _ _ _ c.read_initialiser-form.ensures.lower c.requires.within

pub returns : goal.returns
returns c = form_makes (lexemes_of c.args.tokens.now) (ctx_of c.args.env.now) _ _ _ (typ_of c.args.ty.now) c.args.at
    (trees_at (syntax_of c.args.nodes.now) c.args.ids.now) _ _ _ _ c.read_initialiser-form.ensures.is c.by_written.ensures
