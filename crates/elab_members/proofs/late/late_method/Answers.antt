use Rattle.std.proofs.Common.{refl, ap}
use Rattle.elab_entry.specs.cpp_lex.Tokens.{lexemes_of}
use Rattle.elab_entry.specs.elab_types.Syntax.{syntax_of, tree_at, trees_at}
use Rattle.class_table.specs.Written.{method_shown}
use Rattle.elab_members.proofs.ClassSteps.{with_place}
use Rattle.elab_members.proofs.late.late_method.Goals as goal

pub returns : goal.returns
returns g c = with_place (g.L.MakeLambdas.lambdas c.args.lams.now) (lexemes_of c.args.tokens.now) c.args.st.now _ _ c.args.class c.args.kind
    (method_shown (syntax_of c.args.nodes.now) c.args.kids.now c.args.method.now) _ (tree_at (syntax_of c.args.nodes.now) c.args.body) _ _ _ c.in_ok-func.ensures
    c.in_ok-keep_header.ensures.is refl refl c.in_ok-keep_header.ensures.labels (ap (trees_at (syntax_of c.args.nodes.now)) c.rest_from.ensures.rest)
    c.method_body.ensures
