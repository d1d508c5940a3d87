use Rattle.std.proofs.Common.{◌≡◌, Err, rules, None, refl, ◌∙◌}
use Rattle.elab_entry.specs.cpp_lex.Tokens.{lexemes_of}
use Rattle.elab_entry.specs.cpp_types.Typ.{typ_of, signature_of}
use Rattle.elab_entry.specs.elab_ctx.Ctx.{deduced, returns_of}
use Rattle.elab_entry.specs.elab_types.Syntax.{syntax_of}
use Rattle.elab_entry.specs.Round.{round_of}
use Rattle.elab_entry.specs.elab_scopes.States.{state_of}
use Rattle.elab_lambdas.specs.Whole.{written_of, result_read}
use Rattle.elab_lambdas.proofs.Kept.{read_done, read_refused, read_oversized}
use Rattle.elab_lambdas.proofs.Refusals.{deduces_fail}
use Rattle.elab_lambdas.proofs.making.read_for_result.Goals as goal

pub returns : goal.returns
returns c =
    let inside = c.leave_function-inside.result in
    read_done (lexemes_of c.args.tokens.now) c.args.st.now c.enter.new.st c.body_statements.new.st c.leave_function-inside.new.st
    (written_of (syntax_of c.args.nodes.now) c.args.x.now) (signature_of c.args.function.now) (deduced None) (returns_of inside.returns)
    (typ_of c.plain_type-ret.result) (round_of c.in_ok-around.around) c.in_ok-body_statements.field-0 c.in_ok-found.found
    (c.in_ok-around.ensures.sized (syntax_of c.args.nodes.now)) (c.in_ok-around.ensures.is (syntax_of c.args.nodes.now)) refl c.plain_type-ret.ensures
    c.in_ok-around.ensures.round c.in_ok-body_statements.ensures
    c.leave_function-inside.ensures.is (c.leave_function-inside.ensures.trees ∙ c.in_ok-around.ensures.trees) c.leave_function-inside.ensures.returns
    c.in_ok-found.ensures

pub returns-in_err-body_statements : goal.returns-in_err-body_statements
returns-in_err-body_statements c =
    let is_error : c.from_residual-in_err-body_statements.result ≡ Err c.in_err-body_statements.field-0.0 = search rules in
    deduces_fail c.args.st.now c.body_statements.new.st c.from_residual-in_err-body_statements.result c.in_err-body_statements.field-0.0
    (result_read (lexemes_of c.args.tokens.now) (state_of c.args.st.now) (written_of (syntax_of c.args.nodes.now) c.args.x.now)
    (signature_of c.args.function.now)) is_error
    (read_refused (lexemes_of c.args.tokens.now) (state_of c.args.st.now) (state_of c.enter.new.st) (written_of (syntax_of c.args.nodes.now) c.args.x.now)
    (signature_of c.args.function.now) (deduced None) (typ_of c.plain_type-ret.result) c.in_err-body_statements.field-0.0
    (c.in_ok-around.ensures.sized (syntax_of c.args.nodes.now)) (c.in_ok-around.ensures.is (syntax_of c.args.nodes.now)) refl c.plain_type-ret.ensures
    c.in_err-body_statements.ensures)

pub returns-in_err-around : goal.returns-in_err-around
returns-in_err-around c =
    let is_error : c.from_residual.result ≡ Err c.in_err-around.field-0.0 = search rules in
    deduces_fail c.args.st.now c.enter.new.st c.from_residual.result c.in_err-around.field-0.0
    (result_read (lexemes_of c.args.tokens.now) (state_of c.args.st.now) (written_of (syntax_of c.args.nodes.now) c.args.x.now)
    (signature_of c.args.function.now)) is_error
    (read_oversized (lexemes_of c.args.tokens.now) (state_of c.args.st.now) (written_of (syntax_of c.args.nodes.now) c.args.x.now)
    (signature_of c.args.function.now) c.in_err-around.field-0.0 (c.in_err-around.ensures.large (syntax_of c.args.nodes.now)))
