use Rattle.std.proofs.Common.{◌≡◌, ◌∙◌, Err, refl, sym, ap, rules}
use Rattle.elab_locals.specs.cpp_lex.Tokens.{lexemes_of}
use Rattle.elab_locals.specs.elab_types.Syntax.{syntax_of, tree_at, trees_at}
use Rattle.elab_locals.specs.elab_scopes.States.{state_of}
use Rattle.elab_stmt.proofs.Small.{last_one, part_declared, part_plain}
use Rattle.elab_stmt.proofs.simple.one_part.Goals as goal

pub returns-in-SimpleDeclaration : goal.returns-in-SimpleDeclaration
returns-in-SimpleDeclaration c = last_one c.args.st.now _ _ _ _
    (part_declared (lexemes_of c.args.tokens.now) c.args.at _ (tree_at (syntax_of c.args.nodes.now) c.args.id) _ _ _ _ _
    (state_of c.args.st.now) c.node_at.ensures.node c.in-SimpleDeclaration.is c.beginning-begins.ensures) refl c.block.ensures

pub returns-in_default : goal.returns-in_default
returns-in_default c = last_one c.args.st.now _ _ _ _
    (part_plain (lexemes_of c.args.tokens.now) c.args.at (tree_at (syntax_of c.args.nodes.now) c.args.id) _ _ _ _ _
    (state_of c.args.st.now) c.node_at.ensures.node c.in_default.not-SimpleDeclaration) refl c.only.ensures
