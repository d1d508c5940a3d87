use Rattle.std.proofs.Common.{ap, drop, map}
use Rattle.elab_entry.specs.cpp_lex.Tokens.{lexemes_of}
use Rattle.elab_entry.specs.elab_types.Syntax.{syntax_of, tree_at, trees_at}
use Rattle.elab_entry.specs.elab_rules.Statements.{State}
use Rattle.elab_entry.specs.elab_scopes.States.{body_of}
use Rattle.class_members.specs.Shown.{header_of, storage_of}
use Rattle.class_table.specs.Written.{method_shown}
use Rattle.elab_members.specs.Outside.{outside_body}
use Rattle.elab_members.proofs.DeclarationSteps.{changes_here}
use Rattle.elab_members.proofs.OutsideSteps.{member_so}
use Rattle.elab_members.proofs.outside.member_defined.Goals as goal

pub returns : goal.returns
returns g c = member_so (g.L.MakeLambdas.lambdas c.args.lams.now) (lexemes_of c.args.tokens.now) c.args.st.now _ c.args.at c.args.kind c.args.first
    c.body_end.result c.in-Some-class.class (storage_of c.args.storage) (storage_of c.started_from-started.result.storage)
    (trees_at (syntax_of c.args.nodes.now) c.args.kids.now)
    (trees_at (syntax_of c.args.nodes.now) (drop c.started_from-started.result.count c.args.kids.now))
    (trees_at (syntax_of c.args.nodes.now) c.rest_from.result.now) (method_shown (syntax_of c.args.nodes.now) c.args.kids.now c.in_ok-method.method)
    (tree_at (syntax_of c.args.nodes.now) c.in-Some.body) c.outside_body.result c.started_from-started.ensures.started
    (c.in_ok-method.ensures.method (map body_of c.args.st.now.bodies.items)) c.in-Some.ensures.body c.in-Some-class.is c.body_end.ensures
    (ap (trees_at (syntax_of c.args.nodes.now)) c.rest_from.ensures.rest)
    (changes_here c.args.st.now _ c.outside_method.new.work c.outside_body.result
    (λ (z : State). outside_body (g.L.MakeLambdas.lambdas c.args.lams.now) (lexemes_of c.args.tokens.now) z c.in-Some-class.class c.args.kind c.args.first
    c.body_end.result (header_of c.in_ok-method.method.header) (trees_at (syntax_of c.args.nodes.now) c.rest_from.result.now)
    (tree_at (syntax_of c.args.nodes.now) c.in-Some.body)) c.in_ok-method.ensures.kept c.outside_body.ensures)
