use Rattle.std.proofs.Common.{◌≡◌, rules, Err}
use Rattle.elab_expr.specs.cpp_lex.Tokens.{lexemes_of}
use Rattle.cpp_types.specs.Typ.{typ_of}
use Rattle.elab_expr.specs.elab_ctx.Ctx.{Work, ctx_of, work_of}
use Rattle.elab_expr.specs.elab_rules.Globals.{global_declared}
use Rattle.elab_expr.specs.elab_types.Syntax.{syntax_of, trees_at}
use Rattle.class_members.specs.Shown.{storage_of}
use Rattle.elab_decls.specs.Says.{state_of, placed_in, global_made}
use Rattle.elab_decls.proofs.Steps.{answers_refused, answers_same, answers_then}
use Rattle.elab_decls.proofs.GlobalSteps.{name_fails, only_declared_is, defined_is}
use Rattle.elab_decls.proofs.globals.global_declared.Goals as goal

pub returns-in_err-place : goal.returns-in_err-place
returns-in_err-place c bodies =
    let is_error : c.from_residual-in_err-place.result ≡ Err c.in_err-place.field-0.0 = search rules in
    answers_refused (state_of c.global_named.new.env c.global_named.new.work bodies) c.from_residual-in_err-place.result c.in_err-place.field-0.0
    (global_declared (lexemes_of c.args.tokens.now) (state_of c.args.env.now c.args.work.now bodies) (storage_of c.args.storage) c.args.at c.args.name.now
    (typ_of c.args.ty.now) (trees_at (syntax_of c.args.nodes.now) c.args.ids.now)) is_error
    (name_fails (lexemes_of c.args.tokens.now) (state_of c.args.env.now c.args.work.now bodies) (storage_of c.args.storage) c.args.at c.args.name.now
    (typ_of c.args.ty.now) (trees_at (syntax_of c.args.nodes.now) c.args.ids.now) c.in_ok-global_declarable.field-0 c.is_definition-defines.result
    (c.in_ok-global_declarable.ensures (work_of c.args.work.now) bodies) (c.is_definition-defines.ensures (syntax_of c.args.nodes.now)) c.in_err-place.field-0.0
    (c.in_err-place.ensures bodies))

pub returns-then-not-defines : goal.returns-then-not-defines
returns-then-not-defines c bodies =
    only_declared_is (lexemes_of c.args.tokens.now) (state_of c.args.env.now c.args.work.now bodies) (storage_of c.args.storage) c.args.at c.args.name.now
    (typ_of c.args.ty.now) (trees_at (syntax_of c.args.nodes.now) c.args.ids.now) c.in_ok-global_declarable.field-0 c.is_definition-defines.result
    (c.in_ok-global_declarable.ensures (work_of c.args.work.now) bodies) (c.is_definition-defines.ensures (syntax_of c.args.nodes.now))
    (placed_in c.global_named.new.env c.global_named.new.work bodies c.in_ok-place.place) (c.in_ok-place.ensures bodies) c.if-not-defines.true

pub returns : goal.returns
returns c bodies =
    answers_same (state_of c.global_named.new.env c.global_made.new.work bodies) c.global_made.result _
    (global_declared (lexemes_of c.args.tokens.now) (state_of c.args.env.now c.args.work.now bodies) (storage_of c.args.storage) c.args.at c.args.name.now
    (typ_of c.args.ty.now) (trees_at (syntax_of c.args.nodes.now) c.args.ids.now))
    (defined_is (lexemes_of c.args.tokens.now) (state_of c.args.env.now c.args.work.now bodies) (storage_of c.args.storage) c.args.at c.args.name.now
    (typ_of c.args.ty.now) (trees_at (syntax_of c.args.nodes.now) c.args.ids.now) c.in_ok-global_declarable.field-0 c.is_definition-defines.result
    (c.in_ok-global_declarable.ensures (work_of c.args.work.now) bodies) (c.is_definition-defines.ensures (syntax_of c.args.nodes.now))
    (placed_in c.global_named.new.env c.global_named.new.work bodies c.in_ok-place.place) (c.in_ok-place.ensures bodies) c.if-not-defines.false)
    (answers_then (work_of c.global_made.new.work) (λ (w : Work).
    record (state_of c.global_named.new.env c.global_named.new.work bodies) { work = w }) c.global_made.result
    (global_made (lexemes_of c.args.tokens.now) (ctx_of c.global_named.new.env) (work_of c.global_named.new.work) c.args.at (typ_of c.args.ty.now)
    (trees_at (syntax_of c.args.nodes.now) c.args.ids.now) c.in_ok-place.place) c.global_made.ensures)
