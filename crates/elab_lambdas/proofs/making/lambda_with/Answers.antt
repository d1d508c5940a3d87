use Rattle.std.proofs.Common.{◌≡◌, Err, rules, List, map, ap, sym, ◌∙◌}
use Rattle.elab_entry.specs.cpp_lex.Tokens.{lexemes_of}
use Rattle.elab_entry.specs.cpp_types.Typ.{typ_of, signature_of}
use Rattle.elab_entry.specs.cpp_tree.Trees.{Tree}
use Rattle.elab_entry.specs.cpp_tree.Arena.{trees_of, tree_at}
use Rattle.elab_entry.specs.elab_ctx.Ctx.{returns_of}
use Rattle.elab_entry.specs.elab_types.Syntax.{syntax_of}
use Rattle.elab_entry.specs.Round.{round_of}
use Rattle.elab_entry.specs.elab_scopes.States.{state_of}
use Rattle.elab_lambdas.specs.Whole.{written_of, lambda_with}
use Rattle.elab_lambdas.proofs.Kept.{lambda_done, lambda_refused, lambda_oversized}
use Rattle.elab_lambdas.proofs.Refusals.{changes_fail}
use Rattle.elab_lambdas.proofs.making.lambda_with.Goals as goal

pub returns : goal.returns
returns c =
    let inside = c.leave_function-inside.result in
    lambda_done (lexemes_of c.args.tokens.now) c.args.st.now c.enter.new.st c.body_inside.new.st c.leave_function-inside.new.st c.body_made.new.st
    (written_of (syntax_of c.args.nodes.now) c.args.x.now) (typ_of c.args.ret.now) (signature_of c.args.function.now)
    (returns_of c.in_ok-returns.returns) c.in_ok-func.func (round_of c.in_ok-around.around) c.in_ok-made.made
    (tree_at (trees_of inside.nodes.items) c.in_ok-made.made) (map typ_of inside.frame.items) c.body_made.result
    (sym c.is_complete_type.ensures ∙ c.if-not-is_complete_type.false)
    (c.in_ok-around.ensures.sized (syntax_of c.args.nodes.now)) (c.in_ok-around.ensures.is
    (syntax_of c.args.nodes.now)) c.in_ok-returns.ensures c.in_ok-around.ensures.round c.in_ok-made.ensures c.leave_function-inside.ensures.is
    (c.leave_function-inside.ensures.trees ∙ c.in_ok-around.ensures.trees)
    (ap (λ (z : List Tree). tree_at z c.in_ok-made.made) c.leave_function-inside.ensures.nodes) c.leave_function-inside.ensures.frame c.in_ok-func.ensures
    c.body_made.ensures

pub returns-in_err-made : goal.returns-in_err-made
returns-in_err-made c =
    let is_error : c.from_residual-in_err-made.result ≡ Err c.in_err-made.field-0.0 = search rules in
    changes_fail c.args.st.now c.body_inside.new.st c.from_residual-in_err-made.result c.in_err-made.field-0.0
    (lambda_with (lexemes_of c.args.tokens.now) (state_of c.args.st.now) (written_of (syntax_of c.args.nodes.now) c.args.x.now) (typ_of c.args.ret.now)
    (signature_of c.args.function.now)) is_error
    (lambda_refused (lexemes_of c.args.tokens.now) (state_of c.args.st.now) (state_of c.enter.new.st) (written_of (syntax_of c.args.nodes.now) c.args.x.now)
    (typ_of c.args.ret.now) (signature_of c.args.function.now) (returns_of c.in_ok-returns.returns) c.in_err-made.field-0.0
    (sym c.is_complete_type.ensures ∙ c.if-not-is_complete_type.false) (c.in_ok-around.ensures.sized (syntax_of c.args.nodes.now))
    (c.in_ok-around.ensures.is (syntax_of c.args.nodes.now)) c.in_ok-returns.ensures c.in_err-made.ensures)

pub returns-in_err-around : goal.returns-in_err-around
returns-in_err-around c =
    let is_error : c.from_residual-in_err-around.result ≡ Err c.in_err-around.field-0.0 = search rules in
    changes_fail c.args.st.now c.enter.new.st c.from_residual-in_err-around.result c.in_err-around.field-0.0
    (lambda_with (lexemes_of c.args.tokens.now) (state_of c.args.st.now) (written_of (syntax_of c.args.nodes.now) c.args.x.now) (typ_of c.args.ret.now)
    (signature_of c.args.function.now)) is_error
    (lambda_oversized (lexemes_of c.args.tokens.now) (state_of c.args.st.now) (written_of (syntax_of c.args.nodes.now) c.args.x.now) (typ_of c.args.ret.now)
    (signature_of c.args.function.now) c.in_err-around.field-0.0 (sym c.is_complete_type.ensures ∙ c.if-not-is_complete_type.false)
    (c.in_err-around.ensures.large (syntax_of c.args.nodes.now)))
