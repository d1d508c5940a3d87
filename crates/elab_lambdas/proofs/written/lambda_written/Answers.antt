use Rattle.std.proofs.Common.{◌≡◌, ◌∙◌, Err, map, ap, subst, sym, rules}
use Rattle.elab_entry.specs.cpp_lex.Tokens.{lexemes_of}
use Rattle.elab_entry.specs.cpp_types.Typ.{typ_of}
use Rattle.std.specs.Prelude.{option_map}
use Rattle.elab_entry.specs.elab_ctx.Ctx.{Work, capture_of, ctx_of, work_of}
use Rattle.elab_entry.specs.elab_ctx.Says.{Faults}
use Rattle.elab_entry.specs.elab_rules.Lambdas.{kids_of, result_among}
use Rattle.elab_entry.specs.elab_types.Shown.{parameter_of, qualifiers_of}
use Rattle.elab_entry.specs.elab_types.Syntax.{syntax_of, tree_at, trees_at}
use Rattle.elab_entry.proofs.elab_scopes.elab_expr.Unmoved.{unmoved_trans}
use Rattle.lambda_captures.specs.Shown.{otherwise_of}
use Rattle.elab_lambdas.specs.Steps.{at_hand}
use Rattle.elab_lambdas.specs.Whole.{written_of, lambda_written}
use Rattle.elab_lambdas.proofs.Parts.{written_is, captures_refused, parameters_refused, words_refused, result_refused, defaults_refused}
use Rattle.elab_lambdas.proofs.Refusals.{says_fail}
use Rattle.elab_lambdas.proofs.written.lambda_written.Goals as goal

pub returns-clause-is : goal.returns-clause-is
returns-clause-is c bodies =
    let s = lexemes_of c.args.tokens.now in
    let st = at_hand (ctx_of c.args.env.now) (work_of c.args.work.now) bodies in
    let intro = kids_of (tree_at (syntax_of c.args.nodes.now) c.args.intro) in
    let parts = trees_at (syntax_of c.args.nodes.now) c.args.ids.now in
    let body = tree_at (syntax_of c.args.nodes.now) c.args.body in
    let d = otherwise_of c.default_of-otherwise.result in
    let q = qualifiers_of c.args.qualifiers in
    written_is s st c.args.at intro parts body d q
    (map capture_of c.in_ok-captures.captures.items) (map capture_of c.default_captures.new.captures.items)
    (map parameter_of c.in_ok-params.params.items) c.in_ok-not_dynamic.field-0
    (option_map typ_of c.in_ok-result.result) c.has_mutable.result c.closing.result
    c.default_of-otherwise.ensures c.requires.words c.in_ok-captures.ensures c.in_ok-params.ensures.says c.in_ok-not_dynamic.ensures
    (ap (λ (z : Work). result_among s (ctx_of c.args.env.now) z parts) (sym c.in_ok-params.ensures.kept.work) ∙ c.in_ok-result.ensures.says)
    (rw c.deref.ensures.value at c.in_ok-default_captures.ensures) c.has_mutable.ensures c.closing.ensures

pub returns-clause-kept : goal.returns-clause-kept
returns-clause-kept c = unmoved_trans c.args.work.now c.parameters_among.new.work c.result_among.new.work
    c.in_ok-params.ensures.kept c.in_ok-result.ensures.kept

pub returns-in_err-captures-clause-is : goal.returns-in_err-captures-clause-is
returns-in_err-captures-clause-is c bodies =
    let is_error : c.from_residual.result ≡ Err c.in_err-captures.field-0.0 = search rules in
    let s = lexemes_of c.args.tokens.now in
    let st = at_hand (ctx_of c.args.env.now) (work_of c.args.work.now) bodies in
    let intro = kids_of (tree_at (syntax_of c.args.nodes.now) c.args.intro) in
    let parts = trees_at (syntax_of c.args.nodes.now) c.args.ids.now in
    let body = tree_at (syntax_of c.args.nodes.now) c.args.body in
    let d = otherwise_of c.default_of-otherwise.result in
    let q = qualifiers_of c.args.qualifiers in
    says_fail (written_of (syntax_of c.args.nodes.now)) c.from_residual.result c.in_err-captures.field-0.0 (lambda_written s st c.args.at intro parts body) is_error
    (captures_refused s st c.args.at intro parts body d q c.in_err-captures.field-0.0
    c.default_of-otherwise.ensures c.requires.words
    c.in_err-captures.ensures)

pub returns-in_err-params-clause-is : goal.returns-in_err-params-clause-is
returns-in_err-params-clause-is c bodies =
    let is_error : c.from_residual-in_err-params.result ≡ Err c.in_err-params.field-0.0 = search rules in
    let s = lexemes_of c.args.tokens.now in
    let st = at_hand (ctx_of c.args.env.now) (work_of c.args.work.now) bodies in
    let intro = kids_of (tree_at (syntax_of c.args.nodes.now) c.args.intro) in
    let parts = trees_at (syntax_of c.args.nodes.now) c.args.ids.now in
    let body = tree_at (syntax_of c.args.nodes.now) c.args.body in
    let d = otherwise_of c.default_of-otherwise.result in
    let q = qualifiers_of c.args.qualifiers in
    says_fail (written_of (syntax_of c.args.nodes.now)) c.from_residual-in_err-params.result c.in_err-params.field-0.0 (lambda_written s st c.args.at intro parts body) is_error
    (parameters_refused s st c.args.at intro parts body d q (map capture_of c.in_ok-captures.captures.items) c.in_err-params.field-0.0
    c.default_of-otherwise.ensures c.requires.words
    c.in_ok-captures.ensures c.in_err-params.ensures.says)

pub returns-in_err-not_dynamic-clause-is : goal.returns-in_err-not_dynamic-clause-is
returns-in_err-not_dynamic-clause-is c bodies =
    let is_error : c.from_residual-in_err-not_dynamic.result ≡ Err c.in_err-not_dynamic.field-0.0 = search rules in
    let s = lexemes_of c.args.tokens.now in
    let st = at_hand (ctx_of c.args.env.now) (work_of c.args.work.now) bodies in
    let intro = kids_of (tree_at (syntax_of c.args.nodes.now) c.args.intro) in
    let parts = trees_at (syntax_of c.args.nodes.now) c.args.ids.now in
    let body = tree_at (syntax_of c.args.nodes.now) c.args.body in
    let d = otherwise_of c.default_of-otherwise.result in
    let q = qualifiers_of c.args.qualifiers in
    says_fail (written_of (syntax_of c.args.nodes.now)) c.from_residual-in_err-not_dynamic.result c.in_err-not_dynamic.field-0.0 (lambda_written s st c.args.at intro parts body) is_error
    (words_refused s st c.args.at intro parts body d q (map capture_of c.in_ok-captures.captures.items) (map parameter_of c.in_ok-params.params.items) c.in_err-not_dynamic.field-0.0
    c.default_of-otherwise.ensures c.requires.words
    c.in_ok-captures.ensures c.in_ok-params.ensures.says c.in_err-not_dynamic.ensures)

pub returns-in_err-result-clause-is : goal.returns-in_err-result-clause-is
returns-in_err-result-clause-is c bodies =
    let is_error : c.from_residual-in_err-result.result ≡ Err c.in_err-result.field-0.0 = search rules in
    let s = lexemes_of c.args.tokens.now in
    let st = at_hand (ctx_of c.args.env.now) (work_of c.args.work.now) bodies in
    let intro = kids_of (tree_at (syntax_of c.args.nodes.now) c.args.intro) in
    let parts = trees_at (syntax_of c.args.nodes.now) c.args.ids.now in
    let body = tree_at (syntax_of c.args.nodes.now) c.args.body in
    let d = otherwise_of c.default_of-otherwise.result in
    let q = qualifiers_of c.args.qualifiers in
    says_fail (written_of (syntax_of c.args.nodes.now)) c.from_residual-in_err-result.result c.in_err-result.field-0.0 (lambda_written s st c.args.at intro parts body) is_error
    (result_refused s st c.args.at intro parts body d q (map capture_of c.in_ok-captures.captures.items) (map parameter_of c.in_ok-params.params.items) c.in_ok-not_dynamic.field-0 c.in_err-result.field-0.0
    c.default_of-otherwise.ensures c.requires.words
    c.in_ok-captures.ensures c.in_ok-params.ensures.says c.in_ok-not_dynamic.ensures
    (subst (λ (z : Work). Faults c.in_err-result.field-0.0 (result_among s (ctx_of c.args.env.now) z parts)) c.in_ok-params.ensures.kept.work
    c.in_err-result.ensures.says))

pub returns-in_err-default_captures-clause-is : goal.returns-in_err-default_captures-clause-is
returns-in_err-default_captures-clause-is c bodies =
    let is_error : c.from_residual-in_err-default_captures.result ≡ Err c.in_err-default_captures.field-0.0 = search rules in
    let s = lexemes_of c.args.tokens.now in
    let st = at_hand (ctx_of c.args.env.now) (work_of c.args.work.now) bodies in
    let intro = kids_of (tree_at (syntax_of c.args.nodes.now) c.args.intro) in
    let parts = trees_at (syntax_of c.args.nodes.now) c.args.ids.now in
    let body = tree_at (syntax_of c.args.nodes.now) c.args.body in
    let d = otherwise_of c.default_of-otherwise.result in
    let q = qualifiers_of c.args.qualifiers in
    says_fail (written_of (syntax_of c.args.nodes.now)) c.from_residual-in_err-default_captures.result c.in_err-default_captures.field-0.0 (lambda_written s st c.args.at intro parts body) is_error
    (defaults_refused s st c.args.at intro parts body d q (map capture_of c.in_ok-captures.captures.items) (map parameter_of c.in_ok-params.params.items) c.in_ok-not_dynamic.field-0
    (option_map typ_of c.in_ok-result.result) c.in_err-default_captures.field-0.0
    c.default_of-otherwise.ensures c.requires.words
    c.in_ok-captures.ensures c.in_ok-params.ensures.says c.in_ok-not_dynamic.ensures
    (ap (λ (z : Work). result_among s (ctx_of c.args.env.now) z parts) (sym c.in_ok-params.ensures.kept.work) ∙ c.in_ok-result.ensures.says)
    (rw c.deref.ensures.value at c.in_err-default_captures.ensures))
