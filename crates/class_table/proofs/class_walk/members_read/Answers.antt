use Rattle.std.proofs.Common.{◌≡◌, ◌∙◌, rules, refl, sym, ap, subst, map, drop, List, Option, Some, None, Ok, Err, true, false, not, option_map, ◌∷◌, ◌+◌, []}
use Rattle.elab_expr.specs.cpp_lex.Tokens.{lexemes_of}
use Rattle.elab_expr.specs.elab_ctx.Ctx.{ctx_of, work_of}
use Rattle.elab_expr.specs.elab_ctx.Says.{Faults}
use Rattle.elab_expr.specs.elab_types.Syntax.{syntax_of, tree_at, trees_at}
use Rattle.class_members.specs.Shown.{home_of, reading}
use Rattle.elab_expr.specs.cpp_types.Class.{member_of}
use Rattle.elab_expr.specs.elab_rules.Classes.{members_of, completed}
use Rattle.class_table.proofs.Closing.{members_stand, members_fail, from_nothing}
use Rattle.elab_expr.proofs.Unmoved.{unmoved_all}
use Rattle.class_table.proofs.class_walk.members_read.Goals as goal

pub returns-in_err-members_of-clause-read : goal.returns-in_err-members_of-clause-read
returns-in_err-members_of-clause-read c bodies =
    let is_error : c.from_residual.result ≡ Err c.in_err-members_of.field-0.0 = search rules in
    members_fail (work_of c.args.work.now) bodies (lexemes_of c.args.tokens.now) (ctx_of c.args.env.now) (ctx_of c.members_of.new.env) c.args.at
    (home_of c.args.home.now) (trees_at (syntax_of c.args.nodes.now) c.args.ids.now) c.from_residual.result c.in_err-members_of.field-0.0 is_error
    (subst (Faults c.in_err-members_of.field-0.0)
    (sym (from_nothing (work_of c.args.work.now) bodies (lexemes_of c.args.tokens.now) (home_of c.args.home.now)
    (trees_at (syntax_of c.args.nodes.now) c.args.ids.now)
    (ctx_of c.args.env.now) c.no_members-read.result c.no_members-read.ensures.members c.no_members-read.ensures.initialised))
    (c.in_err-members_of.ensures.members bodies))

pub returns-clause-read : goal.returns-clause-read
returns-clause-read c bodies =
    members_stand (work_of c.args.work.now) bodies (lexemes_of c.args.tokens.now) (ctx_of c.args.env.now) (ctx_of c.members_of.new.env)
    (ctx_of c.completed.new.env) c.args.at (home_of c.args.home.now)
    (trees_at (syntax_of c.args.nodes.now) c.args.ids.now) c.members_of.new.members c.closed_class.result
    ((from_nothing (work_of c.args.work.now) bodies (lexemes_of c.args.tokens.now) (home_of c.args.home.now)
    (trees_at (syntax_of c.args.nodes.now) c.args.ids.now)
    (ctx_of c.args.env.now) c.no_members-read.result c.no_members-read.ensures.members c.no_members-read.ensures.initialised)
    ∙ c.in_ok-members_of.ensures.members bodies)
    (c.in_ok-completed.ensures ∙ ap (completed (ctx_of c.members_of.new.env) (home_of c.args.home.now) c.args.at
    (map member_of c.members_of.new.members.members.items)) c.deref.ensures.value) c.closed_class.ensures

pub returns-clause-kept : goal.returns-clause-kept
returns-clause-kept c = unmoved_all c.closed_class.result c.args.work.now c.members_of.new.work c.in_ok-members_of.ensures.kept
