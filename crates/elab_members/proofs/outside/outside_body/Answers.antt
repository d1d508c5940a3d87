use Rattle.std.proofs.Common.{refl}
use Rattle.elab_entry.specs.cpp_lex.Tokens.{lexemes_of}
use Rattle.elab_entry.specs.elab_types.Syntax.{syntax_of, tree_at, trees_at}
use Rattle.class_members.specs.Shown.{header_of}
use Rattle.elab_members.proofs.OutsideSteps.{body_behind}
use Rattle.elab_members.proofs.outside.outside_body.Goals as goal

pub returns : goal.returns
returns g c = body_behind (g.L.MakeLambdas.lambdas c.args.lams.now)
    (lexemes_of c.args.tokens.now) c.args.st.now _ _ c.args.class c.args.kind c.args.first c.args.last (header_of c.args.header.now)
    (trees_at (syntax_of c.args.nodes.now) c.args.rest.now)
    (tree_at (syntax_of c.args.nodes.now) c.args.body) _ _ c.in_ok-func.ensures.is refl refl c.in_ok-func.ensures.labels c.method_body.ensures
