use Rattle.std.proofs.Common.{◌≡◌, ◌∙◌, rules, refl, sym, ap, subst, map, drop, List, Option, Some, None, Ok, Err, true, false, not, option_map, ◌∷◌, ◌+◌, []}
use Rattle.elab_expr.specs.cpp_lex.Tokens.{lexemes_of}
use Rattle.elab_expr.specs.elab_ctx.Ctx.{ctx_of, work_of}
use Rattle.elab_expr.specs.elab_ctx.Says.{Faults}
use Rattle.elab_expr.specs.elab_types.Syntax.{syntax_of, tree_at, trees_at}
use Rattle.class_members.specs.Shown.{home_of, reading}
use Rattle.elab_expr.specs.elab_rules.Functions.{text_sized}
use Rattle.elab_expr.specs.elab_rules.Classes.{begun, Home}
use Rattle.class_table.specs.Written.{at_hand, class_read, read_members}
use Rattle.class_table.proofs.Closing.{text_fails, name_fails, base_fails, head_is, head_with, reads_refused}
use Rattle.class_table.proofs.class_walk.class_read.Goals as goal

pub returns-in_err-text_sized-clause-read : goal.returns-in_err-text_sized-clause-read
returns-in_err-text_sized-clause-read c bodies =
    let is_error : c.from_residual-in_err-text_sized.result ≡ Err c.in_err-text_sized.field-0.0 = search rules in
    reads_refused (at_hand (ctx_of c.args.env.now) (work_of c.args.work.now) bodies) c.from_residual-in_err-text_sized.result c.in_err-text_sized.field-0.0
    (class_read (lexemes_of c.args.tokens.now) (at_hand (ctx_of c.args.env.now) (work_of c.args.work.now) bodies) c.args.at c.args.name.now
    (trees_at (syntax_of c.args.nodes.now) c.args.kids.now)) is_error
    (text_fails (work_of c.args.work.now) bodies (lexemes_of c.args.tokens.now) (ctx_of c.args.env.now) c.args.at c.args.name.now
    (trees_at (syntax_of c.args.nodes.now) c.args.kids.now) c.in_err-text_sized.field-0.0
    (subst (λ z. Faults c.in_err-text_sized.field-0.0 (text_sized c.args.at z)) (c.deref.ensures.value ∙ c.in_ok-text.ensures) c.in_err-text_sized.ensures))

pub returns-in_err-number-clause-read : goal.returns-in_err-number-clause-read
returns-in_err-number-clause-read c bodies =
    let is_error : c.from_residual-in_err-number.result ≡ Err c.in_err-number.field-0.0 = search rules in
    reads_refused (at_hand (ctx_of c.begun.new.env) (work_of c.args.work.now) bodies) c.from_residual-in_err-number.result c.in_err-number.field-0.0
    (class_read (lexemes_of c.args.tokens.now) (at_hand (ctx_of c.args.env.now) (work_of c.args.work.now) bodies) c.args.at c.args.name.now
    (trees_at (syntax_of c.args.nodes.now) c.args.kids.now)) is_error
    (name_fails (work_of c.args.work.now) bodies (lexemes_of c.args.tokens.now) (ctx_of c.args.env.now) c.args.at c.args.name.now
    (trees_at (syntax_of c.args.nodes.now) c.args.kids.now) c.in_ok-text_sized.field-0 c.in_err-number.field-0.0
    (ap (text_sized c.args.at) (sym (c.deref.ensures.value ∙ c.in_ok-text.ensures)) ∙ c.in_ok-text_sized.ensures) c.in_err-number.ensures)

pub returns-in_err-base-clause-read : goal.returns-in_err-base-clause-read
returns-in_err-base-clause-read c bodies =
    let is_error : c.from_residual-in_err-base.result ≡ Err c.in_err-base.field-0.0 = search rules in
    reads_refused (at_hand (ctx_of c.begun.new.env) (work_of c.args.work.now) bodies) c.from_residual-in_err-base.result c.in_err-base.field-0.0
    (class_read (lexemes_of c.args.tokens.now) (at_hand (ctx_of c.args.env.now) (work_of c.args.work.now) bodies) c.args.at c.args.name.now
    (trees_at (syntax_of c.args.nodes.now) c.args.kids.now)) is_error
    (base_fails (work_of c.args.work.now) bodies (lexemes_of c.args.tokens.now) (ctx_of c.args.env.now) c.args.at c.args.name.now
    (trees_at (syntax_of c.args.nodes.now) c.args.kids.now) c.in_ok-text_sized.field-0
    (ctx_of c.begun.new.env) c.in_ok-number.number c.in_err-base.field-0.0
    (ap (text_sized c.args.at) (sym (c.deref.ensures.value ∙ c.in_ok-text.ensures))
    ∙ c.in_ok-text_sized.ensures) c.in_ok-number.ensures c.in_err-base.ensures)

pub returns-in_err-members_read-clause-read : goal.returns-in_err-members_read-clause-read
returns-in_err-members_read-clause-read c bodies =
    let is_error : c.from_residual-in_err-members_read.result ≡ Err c.in_err-members_read.field-0.0 = search rules in
    reads_refused (at_hand (ctx_of c.members_read.new.env)
    (work_of c.args.work.now) bodies) c.from_residual-in_err-members_read.result c.in_err-members_read.field-0.0
    (class_read (lexemes_of c.args.tokens.now) (at_hand (ctx_of c.args.env.now) (work_of c.args.work.now) bodies) c.args.at c.args.name.now
    (trees_at (syntax_of c.args.nodes.now) c.args.kids.now)) is_error
    (subst (Faults c.in_err-members_read.field-0.0)
    (sym (head_is (work_of c.args.work.now) bodies (lexemes_of c.args.tokens.now) (ctx_of c.args.env.now) c.args.at c.args.name.now
    (trees_at (syntax_of c.args.nodes.now) c.args.kids.now) c.in_ok-text_sized.field-0 (ctx_of c.begun.new.env) c.in_ok-number.number c.in_ok-base.base
    (home_of c.in_ok-home.home) (ap (text_sized c.args.at) (sym (c.deref.ensures.value ∙ c.in_ok-text.ensures))
    ∙ c.in_ok-text_sized.ensures) c.in_ok-number.ensures c.in_ok-base.ensures
    (c.in_ok-home.ensures ∙ ap (head_with c.in_ok-number.number c.args.name.now c.in_ok-base.base) c.has_final.ensures)
    ∙ ap (read_members (lexemes_of c.args.tokens.now) (at_hand (ctx_of c.begun.new.env) (work_of c.args.work.now) bodies) c.args.at
    (home_of c.in_ok-home.home)) (sym c.members_among-ids.ensures.members))) (c.in_err-members_read.ensures.read bodies))

pub returns-clause-read : goal.returns-clause-read
returns-clause-read c bodies = (head_is (work_of c.args.work.now) bodies (lexemes_of c.args.tokens.now) (ctx_of c.args.env.now) c.args.at c.args.name.now
    (trees_at (syntax_of c.args.nodes.now) c.args.kids.now) c.in_ok-text_sized.field-0 (ctx_of c.begun.new.env) c.in_ok-number.number c.in_ok-base.base
    (home_of c.in_ok-home.home) (ap (text_sized c.args.at) (sym (c.deref.ensures.value ∙ c.in_ok-text.ensures))
    ∙ c.in_ok-text_sized.ensures) c.in_ok-number.ensures c.in_ok-base.ensures
    (c.in_ok-home.ensures ∙ ap (head_with c.in_ok-number.number c.args.name.now c.in_ok-base.base) c.has_final.ensures)
    ∙ ap (read_members (lexemes_of c.args.tokens.now) (at_hand (ctx_of c.begun.new.env) (work_of c.args.work.now) bodies) c.args.at (home_of c.in_ok-home.home))
    (sym c.members_among-ids.ensures.members)) ∙ c.in_ok-members_read.ensures.read bodies
