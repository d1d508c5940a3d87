use Rattle.std.proofs.Common.{◌≡◌, Err, rules}
use Rattle.elab_entry.specs.cpp_lex.Tokens.{lexemes_of}
use Rattle.elab_entry.specs.cpp_types.Typ.{typ_of, signature_of}
use Rattle.elab_entry.specs.elab_types.Syntax.{syntax_of}
use Rattle.elab_entry.specs.elab_scopes.States.{state_of}
use Rattle.elab_lambdas.specs.Whole.{written_of, result_deduced}
use Rattle.elab_lambdas.proofs.Made.{deduced_done, deduced_unsigned, deduced_refused}
use Rattle.elab_lambdas.proofs.Refusals.{deduces_fail}
use Rattle.elab_lambdas.proofs.Reading.{still_in_order}
use Rattle.elab_lambdas.proofs.making.result_deduced.Goals as goal

pub undo-requires : goal.undo-requires
undo-requires c = still_in_order (lexemes_of c.args.tokens.now) c.args.st.now c.read_for_result.new.st (written_of (syntax_of c.args.nodes.now) c.args.x.now)
    (signature_of c.in_ok-function.function) c.checkpoint_here-mark.result c.in_ok-found.found
    c.checkpoint_here-mark.ensures c.in_ok-found.ensures c.args.st.now.env.in_order

pub returns : goal.returns
returns c = deduced_done (lexemes_of c.args.tokens.now) c.args.st.now c.read_for_result.new.st c.undo.new.st
    (written_of (syntax_of c.args.nodes.now) c.args.x.now) (typ_of c.plain_type-ret.result)
    (signature_of c.in_ok-function.function) c.checkpoint_here-mark.result c.in_ok-found.found
    c.plain_type-ret.ensures c.in_ok-function.ensures c.checkpoint_here-mark.ensures c.in_ok-found.ensures c.undo.ensures.is c.undo.ensures.made

pub returns-in_err-function : goal.returns-in_err-function
returns-in_err-function c =
    let is_error : c.from_residual.result ≡ Err c.in_err-function.field-0.0 = search rules in
    deduces_fail c.args.st.now c.args.st.now c.from_residual.result c.in_err-function.field-0.0
    (result_deduced (lexemes_of c.args.tokens.now) (state_of c.args.st.now) (written_of (syntax_of c.args.nodes.now) c.args.x.now)) is_error
    (deduced_unsigned (lexemes_of c.args.tokens.now) (state_of c.args.st.now) (written_of (syntax_of c.args.nodes.now) c.args.x.now)
    (typ_of c.plain_type-ret.result) c.in_err-function.field-0.0 c.plain_type-ret.ensures c.in_err-function.ensures)

pub returns-in_err-found : goal.returns-in_err-found
returns-in_err-found c =
    let is_error : c.from_residual-in_err-found.result ≡ Err c.in_err-found.field-0.0 = search rules in
    deduces_fail c.args.st.now c.read_for_result.new.st c.from_residual-in_err-found.result c.in_err-found.field-0.0
    (result_deduced (lexemes_of c.args.tokens.now) (state_of c.args.st.now) (written_of (syntax_of c.args.nodes.now) c.args.x.now)) is_error
    (deduced_refused (lexemes_of c.args.tokens.now) (state_of c.args.st.now) (written_of (syntax_of c.args.nodes.now) c.args.x.now)
    (typ_of c.plain_type-ret.result)
    (signature_of c.in_ok-function.function) c.in_err-found.field-0.0 c.plain_type-ret.ensures c.in_ok-function.ensures c.in_err-found.ensures)
