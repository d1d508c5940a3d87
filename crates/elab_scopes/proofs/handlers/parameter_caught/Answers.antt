use Rattle.std.proofs.Common.{◌≡◌, Err, rules}
use Rattle.elab_expr.specs.cpp_lex.Tokens.{lexemes_of}
use Rattle.elab_expr.specs.cpp_types.Typ.{typ_of}
use Rattle.elab_expr.specs.elab_types.Shown.{declared_of}
use Rattle.elab_expr.specs.elab_types.Syntax.{syntax_of, tree_at}
use Rattle.elab_scopes.proofs.Catching.{declared_catches, declared_uncaught}
use Rattle.elab_scopes.proofs.handlers.parameter_caught.Goals as goal

pub returns : goal.returns
returns c = declared_catches c.args.st.now _ c.specified.new.work c.declared_by.new.work _ (lexemes_of c.args.tokens.now) c.args.at c.args.place
    (tree_at (syntax_of c.args.nodes.now) c.args.base) (tree_at (syntax_of c.args.nodes.now) c.args.declarator) (typ_of c.in_ok-ty.ty)
    (declared_of c.in_ok-found.found) c.in_ok-ty.ensures.says c.in_ok-ty.ensures.kept c.in_ok-found.ensures.says c.in_ok-found.ensures.kept
    c.typed_handler.ensures

pub returns-in_err-found : goal.returns-in_err-found
returns-in_err-found c =
    let is_error : c.from_residual-in_err-found.result ≡ Err c.in_err-found.field-0.0 = search rules in
    declared_uncaught c.args.st.now _ c.specified.new.work _ (lexemes_of c.args.tokens.now) c.args.at c.args.place
    (tree_at (syntax_of c.args.nodes.now) c.args.base) (tree_at (syntax_of c.args.nodes.now) c.args.declarator) (typ_of c.in_ok-ty.ty) _
    is_error c.in_ok-ty.ensures.says c.in_ok-ty.ensures.kept c.in_err-found.ensures.says
