use Rattle.std.proofs.Common.{◌≡◌, ◌∙◌, rules, refl, sym, ap, subst, map, drop, List, Option, Some, None, Ok, Err, true, false, not, option_map, ◌∷◌, ◌+◌}
use Rattle.elab_expr.specs.cpp_lex.Tokens.{lexemes_of}
use Rattle.elab_expr.specs.cpp_types.Typ.{Typ, typ_of}
use Rattle.elab_expr.specs.elab_ctx.Ctx.{ctx_of, work_of}
use Rattle.elab_expr.specs.elab_ctx.Says.{Faults}
use Rattle.elab_expr.specs.elab_types.Syntax.{syntax_of, tree_at, trees_at}
use Rattle.class_members.specs.Shown.{header_of, storage_of}
use Rattle.elab_expr.specs.elab_rules.Classes.{plain_method}
use Rattle.class_table.specs.Written.{at_hand, method_shown}
use Rattle.class_table.proofs.Functions.{says_refused, plain_made, plain_fails}
use Rattle.class_table.proofs.methods.plain_method.Goals as goal

pub returns-in_err-header-clause-method : goal.returns-in_err-header-clause-method
returns-in_err-header-clause-method c bodies =
    let is_error : c.from_residual.result ≡ Err c.in_err-header.field-0.0 = search rules in
    says_refused (method_shown (syntax_of c.args.nodes.now) c.args.kids.now) c.from_residual.result c.in_err-header.field-0.0
    (plain_method (lexemes_of c.args.tokens.now) (at_hand (ctx_of c.args.env.now) (work_of c.args.work.now) bodies) c.args.class c.args.at
    (storage_of c.args.storage) (trees_at (syntax_of c.args.nodes.now) (drop c.args.start c.args.kids.now)))
    (plain_method (lexemes_of c.args.tokens.now) (at_hand (ctx_of c.args.env.now) (work_of c.args.work.now) bodies) c.args.class c.args.at
    (storage_of c.args.storage) (trees_at (syntax_of c.args.nodes.now) (drop c.args.start c.args.kids.now))) is_error refl
    (plain_fails (lexemes_of c.args.tokens.now) (ctx_of c.args.env.now) (work_of c.args.work.now) bodies c.args.class c.args.at (storage_of c.args.storage)
    (syntax_of c.args.nodes.now) c.args.kids.now c.args.start c.in-Some.base c.in-Some-kid_at.declarator c.in_err-header.field-0.0 c.in-Some.ensures.kid
    c.in-Some-kid_at.ensures.kid c.in_err-header.ensures.says)

pub returns-clause-method : goal.returns-clause-method
returns-clause-method c bodies =
    plain_made (lexemes_of c.args.tokens.now) (ctx_of c.args.env.now) (work_of c.args.work.now) bodies c.args.class c.args.at (storage_of c.args.storage)
    (syntax_of c.args.nodes.now) c.args.kids.now c.args.start c.in-Some.base c.in-Some-kid_at.declarator
    (record {
      header = c.in_ok-header.header;
      count =
          c.args.start + 2;
    }) c.in_ok-header.header c.in-Some.ensures.kid c.in-Some-kid_at.ensures.kid c.in_ok-header.ensures.says refl refl
