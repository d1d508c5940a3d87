use Rattle.std.proofs.Common.{◌≡◌, ◌∙◌, List, Err, ap, refl, rules}
use Rattle.elab_entry.specs.cpp_types.Typ.{typ_of}
use Rattle.elab_entry.specs.cpp_lex.Tokens.{lexemes_of}
use Rattle.elab_entry.specs.cpp_tree.Trees.{Tree}
use Rattle.elab_entry.specs.cpp_tree.Arena.{tree_at}
use Rattle.elab_entry.specs.elab_ctx.Ctx.{Ctx}
use Rattle.elab_entry.specs.elab_types.Syntax.{syntax_of, tree_at as syntax_at}
use Rattle.elab_entry.specs.elab_scopes.States.{state_of}
use Rattle.elab_entry.specs.Round.{round_of}
use Rattle.elab_members.proofs.ObjectBodies.{changes_fail}
use Rattle.elab_members.proofs.InitialiserSteps.{default_done, default_refused}
use Rattle.elab_members.proofs.defaults.default_typed.Goals as goal

pub returns : goal.returns
returns g c = default_done (g.L.MakeLambdas.lambdas c.args.lams.now)
    (lexemes_of c.args.tokens.now) c.args.st.now _ _ c.leave_function-inside.new.st _ c.args.class c.args.member (typ_of c.args.ty.now)
    (syntax_at (syntax_of c.args.nodes.now) c.args.id)
    (round_of c.in_ok-around.around) c.in_ok-made.field-0 _ _ c.in_ok-around.ensures.is c.in_ok-around.ensures.round c.in_ok-made.ensures
    c.leave_function-inside.ensures.is (c.leave_function-inside.ensures.trees ∙ c.in_ok-around.ensures.trees)
    (ap (λ (z : List Tree). tree_at z c.in_ok-made.field-0) c.leave_function-inside.ensures.nodes) c.leave_function-inside.ensures.frame refl
    (ap (λ (z : Ctx). record (state_of c.leave_function-inside.new.st) { ctx = z }) c.in_ok-keep_default.ensures)

pub returns-in_err-made : goal.returns-in_err-made
returns-in_err-made g c =
    let is_error : c.from_residual-in_err-made.result ≡ Err c.in_err-made.field-0.0 = search rules in
    changes_fail _ _ _ _ _ is_error (default_refused (g.L.MakeLambdas.lambdas c.args.lams.now) (lexemes_of c.args.tokens.now)
    (state_of c.args.st.now) _ c.args.class c.args.member (typ_of c.args.ty.now)
    (syntax_at (syntax_of c.args.nodes.now) c.args.id) _ c.in_ok-around.ensures.is c.in_err-made.ensures)
