use Rattle.std.proofs.Common.{◌≡◌, Err, rules}
use Rattle.elab_entry.specs.cpp_lex.Tokens.{lexemes_of}
use Rattle.elab_entry.specs.cpp_types.Typ.{typ_of}
use Rattle.elab_entry.specs.elab_ctx.Ctx.{ctx_of, work_of}
use Rattle.elab_entry.specs.elab_types.Shown.{declared_of}
use Rattle.elab_entry.specs.elab_types.Syntax.{syntax_of, tree_at}
use Rattle.elab_entry.proofs.elab_scopes.elab_expr.Unmoved.{unmoved_all, unmoved_trans}
use Rattle.class_members.specs.Shown.{header_of, storage_of}
use Rattle.elab_members.proofs.OutsideSteps.{says_refused, plain_undeclared, plain_unowned, plain_says}
use Rattle.elab_members.proofs.outside.outside_plain.Goals as goal

pub returns-in_err-found-clause-says : goal.returns-in_err-found-clause-says
returns-in_err-found-clause-says c =
    let is_error : c.from_residual-in_err-found.result ≡ Err c.in_err-found.field-0.0 = search rules in
    says_refused header_of c.from_residual-in_err-found.result c.in_err-found.field-0.0 _ is_error
    (plain_undeclared (lexemes_of c.args.tokens.now) (ctx_of c.args.env.now) (work_of c.args.work.now) (work_of c.type_written.new.work) c.args.at
    (storage_of c.args.storage) (tree_at (syntax_of c.args.nodes.now) c.args.base) (tree_at (syntax_of c.args.nodes.now) c.args.declarator)
    (typ_of c.in_ok-ty.ty) c.in_ok-ty.ensures.says c.in_ok-ty.ensures.kept.work c.in_err-found.field-0.0 c.in_err-found.ensures.says)

pub returns-in_err-class-clause-says : goal.returns-in_err-class-clause-says
returns-in_err-class-clause-says c =
    let is_error : c.from_residual-in_err-class.result ≡ Err c.in_err-class.field-0.0 = search rules in
    says_refused header_of c.from_residual-in_err-class.result c.in_err-class.field-0.0 _ is_error
    (plain_unowned (lexemes_of c.args.tokens.now) (ctx_of c.args.env.now) (work_of c.args.work.now) (work_of c.type_written.new.work) c.args.at
    (storage_of c.args.storage) (tree_at (syntax_of c.args.nodes.now) c.args.base) (tree_at (syntax_of c.args.nodes.now) c.args.declarator)
    (typ_of c.in_ok-ty.ty) c.in_ok-ty.ensures.says c.in_ok-ty.ensures.kept.work (declared_of c.in_ok-found.found)
    c.in_err-class.field-0.0 c.in_ok-found.ensures.says c.in_err-class.ensures)

pub returns-clause-says : goal.returns-clause-says
returns-clause-says c =
    plain_says (lexemes_of c.args.tokens.now) (ctx_of c.args.env.now) (work_of c.args.work.now) (work_of c.type_written.new.work) c.args.at
    (storage_of c.args.storage) (tree_at (syntax_of c.args.nodes.now) c.args.base) (tree_at (syntax_of c.args.nodes.now) c.args.declarator)
    (typ_of c.in_ok-ty.ty) c.in_ok-ty.ensures.says c.in_ok-ty.ensures.kept.work (declared_of c.in_ok-found.found) c.in_ok-class.class c.name_of-name.result.now
    c.header_in.result c.in_ok-found.ensures.says c.in_ok-class.ensures c.name_of-name.ensures c.header_in.ensures

pub returns-clause-kept : goal.returns-clause-kept
returns-clause-kept c = unmoved_all c.header_in.result c.args.work.now c.declared_written.new.work
    (unmoved_trans c.args.work.now c.type_written.new.work c.declared_written.new.work c.in_ok-ty.ensures.kept c.in_ok-found.ensures.kept)
