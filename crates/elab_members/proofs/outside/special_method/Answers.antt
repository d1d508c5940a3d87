use Rattle.std.proofs.Common.{◌≡◌, ◌+◌, Err, refl, rules}
use Rattle.elab_entry.specs.cpp_lex.Tokens.{lexemes_of}
use Rattle.elab_entry.specs.elab_ctx.Ctx.{ctx_of, work_of}
use Rattle.elab_entry.specs.elab_types.Syntax.{syntax_of}
use Rattle.class_members.specs.Shown.{storage_of}
use Rattle.class_table.specs.Written.{method_shown}
use Rattle.elab_members.proofs.OutsideSteps.{says_refused, special_made, special_fails}
use Rattle.elab_members.proofs.outside.special_method.Goals as goal

pub returns-in_err-header-clause-method : goal.returns-in_err-header-clause-method
returns-in_err-header-clause-method c bodies =
    let is_error : c.from_residual.result ≡ Err c.in_err-header.field-0.0 = search rules in
    says_refused (method_shown (syntax_of c.args.nodes.now) c.args.kids.now) c.from_residual.result c.in_err-header.field-0.0 _ is_error
    (special_fails (lexemes_of c.args.tokens.now) (ctx_of c.args.env.now) (work_of c.args.work.now) bodies c.args.at (storage_of c.args.storage)
    (syntax_of c.args.nodes.now) c.args.kids.now c.args.start c.args.kind c.in-Some.declarator c.in_err-header.field-0.0 c.requires.special
    c.in-Some.ensures.kid c.in_err-header.ensures.says)

pub returns-clause-method : goal.returns-clause-method
returns-clause-method c bodies =
    special_made (lexemes_of c.args.tokens.now) (ctx_of c.args.env.now) (work_of c.args.work.now) bodies c.args.at (storage_of c.args.storage)
    (syntax_of c.args.nodes.now) c.args.kids.now c.args.start c.args.kind c.in-Some.declarator
    (record {
      header = c.in_ok-header.header;
      count =
          c.args.start + 1;
    }) c.in_ok-header.header c.requires.special c.in-Some.ensures.kid c.in_ok-header.ensures.says refl refl
