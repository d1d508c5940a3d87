use Rattle.std.proofs.Common.{◌≡◌, ◌∙◌, Err, refl, ap, rules}
use Rattle.elab_scopes.specs.cpp_lex.Tokens.{lexemes_of}
use Rattle.elab_scopes.specs.cpp_types.Typ.{typ_of}
use Rattle.elab_scopes.specs.elab_types.Syntax.{syntax_of, tree_at, trees_at}
use Rattle.elab_scopes.specs.States.{state_of}
use Rattle.elab_scopes.proofs.Choices.{does_fail}
use Rattle.elab_locals.proofs.Made.{values_done, values_fail}
use Rattle.elab_locals.proofs.written.values_read.Goals as goal

pub returns-in_err-os : goal.returns-in_err-os
returns-in_err-os c =
    let is_error : c.from_residual.result ≡ Err c.in_err-os.field-0.0 = search rules in
    does_fail _ _ _ _ _ is_error (values_fail (lexemes_of c.args.tokens.now) (state_of c.args.st.now) _ (typ_of c.args.ty.now) c.args.at
    (tree_at (syntax_of c.args.nodes.now) c.args.id) _ _ _ _ (trees_at (syntax_of c.args.nodes.now) c.deref.result.now) _ c.node_at-node.ensures.node
    (ap (trees_at (syntax_of c.args.nodes.now)) c.deref.ensures.value) c.in_err-os.ensures)

pub returns : goal.returns
returns c = values_done (lexemes_of c.args.tokens.now) c.args.st.now _ _ c.args.variable (typ_of c.args.ty.now) c.args.at _
    (tree_at (syntax_of c.args.nodes.now) c.args.id) _ _ _ _
    (trees_at (syntax_of c.args.nodes.now) c.deref.result.now) _ _ _ c.requires.variable c.node_at-node.ensures.node
    (ap (trees_at (syntax_of c.args.nodes.now)) c.deref.ensures.value) c.place.ensures c.in_ok-os.ensures refl c.deref-2.ensures.value c.values_made.ensures
