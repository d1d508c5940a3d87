use Rattle.std.proofs.Common.{◌≡◌, Err, rules, ap, refl}
use Rattle.elab_entry.specs.cpp_lex.Tokens.{lexemes_of}
use Rattle.elab_entry.specs.elab_ctx.Ctx.{Ctx}
use Rattle.elab_entry.specs.elab_types.Syntax.{syntax_of}
use Rattle.elab_entry.specs.elab_scopes.States.{state_of}
use Rattle.elab_lambdas.specs.Whole.{written_of, lambda_made}
use Rattle.elab_lambdas.proofs.Made.{made_is, made_refused}
use Rattle.elab_lambdas.proofs.Refusals.{changes_fail}
use Rattle.elab_lambdas.proofs.making.lambda_made.Goals as goal

pub returns : goal.returns
returns c =
    let st = c.lambda_known.new.st in
    made_is (lexemes_of c.args.tokens.now) c.args.st.now c.result_of.new.st st (record { env = c.keep_closure.new.env; work = st.work; bodies = st.bodies })
    (written_of (syntax_of c.args.nodes.now) c.args.x) c.in_ok-ret.ret c.in_ok-class.class
    c.in_ok-ret.ensures c.in_ok-class.ensures c.in_ok-lambda_known.ensures
    (ap (λ (z : Ctx). record (state_of st) { ctx = z }) c.in_ok-keep_closure.ensures) refl

pub returns-in_err-lambda_known : goal.returns-in_err-lambda_known
returns-in_err-lambda_known c =
    let is_error : c.from_residual-in_err-lambda_known.result ≡ Err c.in_err-lambda_known.field-0.0 = search rules in
    changes_fail c.args.st.now c.lambda_known.new.st c.from_residual-in_err-lambda_known.result c.in_err-lambda_known.field-0.0
    (lambda_made (lexemes_of c.args.tokens.now) (state_of c.args.st.now) (written_of (syntax_of c.args.nodes.now) c.args.x)) is_error
    (made_refused (lexemes_of c.args.tokens.now) c.args.st.now c.result_of.new.st
    (written_of (syntax_of c.args.nodes.now) c.args.x) c.in_ok-ret.ret c.in_err-lambda_known.field-0.0 c.in_ok-ret.ensures c.in_err-lambda_known.ensures)
