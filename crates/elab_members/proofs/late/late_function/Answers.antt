use Rattle.std.proofs.Common.{◌∙◌, ℕ, slice_get, map, ap}
use Rattle.elab_entry.specs.cpp_lex.Tokens.{lexemes_of}
use Rattle.elab_entry.specs.elab_types.Syntax.{syntax_of, tree_at, trees_at}
use Rattle.elab_entry.specs.elab_scopes.States.{body_of}
use Rattle.elab_entry.specs.elab_rules.Classes.{token_end}
use Rattle.elab_entry.specs.elab_rules.Statements.{State}
use Rattle.class_table.specs.Written.{method_shown}
use Rattle.elab_members.specs.Whole.{late_with}
use Rattle.elab_members.proofs.ClassSteps.{late_body, late_bodiless}
use Rattle.elab_members.proofs.DeclarationSteps.{changed_here, changes_here}
use Rattle.elab_members.proofs.late.late_function.Goals as goal

pub returns-in_default : goal.returns-in_default
returns-in_default g c = changed_here c.args.st.now c.method_of.new.work _ c.in_ok-method.ensures.kept
    (late_bodiless (g.L.MakeLambdas.lambdas c.args.lams.now) (lexemes_of c.args.tokens.now) c.args.st.now c.args.home.now.number c.args.home.now.name.items _
    c.args.at c.args.kind (trees_at (syntax_of c.args.nodes.now) c.args.kids.now)
    (method_shown (syntax_of c.args.nodes.now) c.args.kids.now c.in_ok-method.method) c.deref.ensures.value
    (c.in_ok-method.ensures.method (map body_of c.args.st.now.bodies.items)) c.in_default.ensures.body)

pub returns : goal.returns
returns g c = late_body (g.L.MakeLambdas.lambdas c.args.lams.now)
    (lexemes_of c.args.tokens.now) c.args.st.now _ c.args.home.now.number c.args.home.now.name.items _ c.args.at c.args.kind
    (trees_at (syntax_of c.args.nodes.now) c.args.kids.now) (method_shown (syntax_of c.args.nodes.now) c.args.kids.now c.in_ok-method.method)
    c.token_end.result (tree_at (syntax_of c.args.nodes.now) c.in-Some.body) c.late_method.result c.deref.ensures.value
    (c.in_ok-method.ensures.method (map body_of c.args.st.now.bodies.items)) c.in-Some.ensures.body
    (c.token_end.ensures ∙ ap (λ (z : ℕ). token_end (slice_get (lexemes_of c.args.tokens.now) z)) c.body_end.ensures)
    (changes_here c.args.st.now _ c.method_of.new.work c.late_method.result
    (λ (z : State). late_with (g.L.MakeLambdas.lambdas c.args.lams.now) (lexemes_of c.args.tokens.now) z c.args.home.now.number c.args.kind
    (method_shown (syntax_of c.args.nodes.now) c.args.kids.now c.in_ok-method.method) c.token_end.result
    (tree_at (syntax_of c.args.nodes.now) c.in-Some.body)) c.in_ok-method.ensures.kept c.late_method.ensures)
