use Rattle.std.proofs.Common.{◌≡◌, Err, ap, map, rules}
use Rattle.elab_expr.specs.cpp_lex.Tokens.{lexemes_of}
use Rattle.elab_expr.specs.cpp_types.Typ.{typ_of}
use Rattle.elab_expr.specs.elab_ctx.Ctx.{ctx_of, closure_of}
use Rattle.elab_expr.proofs.elab_make.Calling.{refused_made}
use Rattle.elab_expr.specs.elab_types.Syntax.{syntax_of, tree_at, trees_at}
use Rattle.elab_braces.proofs.Answering.{values_given, values_refused}
use Rattle.elab_braces.proofs.objects.by_values.Goals as goal

pub returns-in_err-os : goal.returns-in_err-os
returns-in_err-os c =
    let is_error : c.from_residual.result ≡ Err c.in_err-os.field-0.0 = search rules in
    refused_made _ _ _ _ _ _ is_error (values_refused (lexemes_of c.args.tokens.now) (ctx_of c.args.env.now) _ (typ_of c.args.ty.now) c.args.at _
    (tree_at (syntax_of c.args.nodes.now) c.args.id) _ _ _ _ _ _ (ap (map closure_of) c.deref.ensures.value)
    (ap (trees_at (syntax_of c.args.nodes.now)) c.deref-2.ensures.value) c.node_at.ensures.node c.in_err-os.ensures)

pub returns : goal.returns
returns c = values_given (lexemes_of c.args.tokens.now) (ctx_of c.args.env.now) _ _ _ (typ_of c.args.ty.now) c.args.at _
    (tree_at (syntax_of c.args.nodes.now) c.args.id) _ _ _ _ _ _ _ _ _ _ _ (ap (map closure_of) c.deref.ensures.value)
    (ap (trees_at
    (syntax_of c.args.nodes.now)) c.deref-2.ensures.value) c.node_at.ensures.node c.deref-3.ensures.value c.in_ok-os.ensures c.directly_initialised.ensures
