use Rattle.std.proofs.Common.{◌≡◌, Err, rules}
use Rattle.elab_expr.specs.cpp_lex.Tokens.{lexemes_of}
use Rattle.elab_expr.specs.elab_types.Syntax.{syntax_of, tree_at}
use Rattle.elab_scopes.proofs.Choices.{does_fail}
use Rattle.elab_scopes.proofs.Labelling.{case_then, case_fails, unmoved_grown, unmoved_state}
use Rattle.elab_scopes.proofs.labels.case_label.Goals as goal

pub returns : goal.returns
returns c = case_then c.args.st.now (record c.args.st.now { work = c.case_word.new.work }) _ _ (lexemes_of c.args.tokens.now) c.args.at
    (tree_at (syntax_of c.args.nodes.now) c.args.id) _ c.in_ok-word.word c.in_ok-label_here.ensures c.in_ok-word.ensures.word
    (unmoved_grown c.args.st.now c.case_word.new.work c.in_ok-word.ensures.kept)
    (unmoved_state c.args.st.now c.case_word.new.work c.in_ok-word.ensures.kept) c.case_of.ensures

pub returns-in_err-word : goal.returns-in_err-word
returns-in_err-word c =
    let is_error : c.from_residual-in_err-word.result ≡ Err c.in_err-word.field-0.0 = search rules in
    does_fail _ _ _ _ _ is_error (case_fails c.args.st.now (lexemes_of c.args.tokens.now) c.args.at
    (tree_at (syntax_of c.args.nodes.now) c.args.id) _ _ c.in_ok-label_here.ensures c.in_err-word.ensures.word)
