use Rattle.std.proofs.Common.{◌≡◌, ◌∙◌, Err, rules}
use Rattle.elab_expr.specs.cpp_lex.Tokens.{lexemes_of}
use Rattle.elab_expr.specs.cpp_tree.Arena.{trees_of}
use Rattle.elab_expr.specs.elab_ctx.Ctx.{ctx_of, work_of}
use Rattle.elab_expr.specs.elab_ctx.Operands.{operand_in}
use Rattle.elab_expr.specs.elab_types.Syntax.{syntax_of, tree_at}
use Rattle.elab_scopes.proofs.Labelling.{case_word_is, tells_fault}
use Rattle.elab_scopes.proofs.labels.case_word.Goals as goal

pub returns-clause-word : goal.returns-clause-word
returns-clause-word c =
    case_word_is (lexemes_of c.args.tokens.now) (ctx_of c.args.env.now) (work_of c.args.work.now) (work_of c.operand_alone.new.work)
    (tree_at (syntax_of c.args.nodes.now) c.args.id)
    (operand_in (trees_of c.operand_alone.new.work.nodes.items) c.in_ok-o.o) c.in_ok-o.ensures.operand.is c.in_ok-o.ensures.kept
    ∙ c.in_ok-word.ensures.word

pub returns-clause-kept : goal.returns-clause-kept
returns-clause-kept c = record { work = c.in_ok-word.ensures.kept ∙ c.in_ok-o.ensures.kept; nodes = c.replace-before.ensures.value }

pub returns-in_err-word-clause-word : goal.returns-in_err-word-clause-word
returns-in_err-word-clause-word c =
    let is_error : c.from_residual-in_err-word.result ≡ Err c.in_err-word.field-0.0 = search rules in
    tells_fault c.from_residual-in_err-word.result c.in_err-word.field-0.0 _ _ is_error
    (case_word_is (lexemes_of c.args.tokens.now) (ctx_of c.args.env.now) (work_of c.args.work.now) (work_of c.operand_alone.new.work)
    (tree_at (syntax_of c.args.nodes.now) c.args.id)
    (operand_in (trees_of c.operand_alone.new.work.nodes.items) c.in_ok-o.o) c.in_ok-o.ensures.operand.is c.in_ok-o.ensures.kept)
    c.in_err-word.ensures.word
