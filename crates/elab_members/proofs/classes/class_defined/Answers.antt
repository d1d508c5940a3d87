use Rattle.std.proofs.Common.{◌≡◌, Err, map, rules}
use Rattle.elab_entry.specs.elab_ctx.Ctx.{ctx_of, work_of}
use Rattle.elab_entry.specs.cpp_lex.Tokens.{lexemes_of}
use Rattle.elab_entry.specs.elab_types.Syntax.{syntax_of, trees_at}
use Rattle.elab_entry.specs.elab_scopes.States.{state_of, body_of}
use Rattle.elab_entry.proofs.elab_scopes.elab_expr.Unmoved.{unmoved_trees}
use Rattle.class_members.specs.Shown.{home_of}
use Rattle.elab_members.proofs.ClassSteps.{class_done, class_here, class_unmade, class_refused, class_unread, stands_fail}
use Rattle.elab_members.proofs.classes.class_defined.Goals as goal

pub returns : goal.returns
returns g c = class_done (g.L.MakeLambdas.lambdas c.args.lams.now) (lexemes_of c.args.tokens.now) c.args.st.now
    (record c.args.st.now { env = c.class_read.new.env; work = c.class_read.new.work })
    c.args.at c.args.name.now (trees_at (syntax_of c.args.nodes.now) c.args.kids.now)
    (trees_at (syntax_of c.args.nodes.now) c.members_among-members.result.now) c.in_ok-home.home
    (class_here _ (ctx_of c.class_read.new.env)
    (work_of c.args.st.now.work) (work_of c.class_read.new.work) (map body_of c.args.st.now.bodies.items) (home_of c.in_ok-home.home)
    c.in_ok-home.ensures.kept.work
    (c.in_ok-home.ensures.read (map body_of c.args.st.now.bodies.items))) c.members_among-members.ensures.members _ _
    (unmoved_trees c.args.st.now.work c.class_read.new.work c.in_ok-home.ensures.kept) c.in_ok-all_defaults.ensures c.in_ok-all_late.ensures

pub returns-in_err-all_late : goal.returns-in_err-all_late
returns-in_err-all_late g c =
    let is_error : c.from_residual-in_err-all_late.result ≡ Err c.in_err-all_late.field-0.0 = search rules in
    stands_fail _ _ _ _ _ is_error (class_refused (g.L.MakeLambdas.lambdas c.args.lams.now) (lexemes_of c.args.tokens.now) c.args.st.now
    (record c.args.st.now { env = c.class_read.new.env; work = c.class_read.new.work })
    c.args.at c.args.name.now (trees_at (syntax_of c.args.nodes.now) c.args.kids.now)
    (trees_at (syntax_of c.args.nodes.now) c.members_among-members.result.now) c.in_ok-home.home
    (class_here _ (ctx_of c.class_read.new.env)
    (work_of c.args.st.now.work) (work_of c.class_read.new.work) (map body_of c.args.st.now.bodies.items) (home_of c.in_ok-home.home)
    c.in_ok-home.ensures.kept.work
    (c.in_ok-home.ensures.read (map body_of c.args.st.now.bodies.items))) c.members_among-members.ensures.members _ _
    c.in_ok-all_defaults.ensures c.in_err-all_late.ensures)

pub returns-in_err-all_defaults : goal.returns-in_err-all_defaults
returns-in_err-all_defaults g c =
    let is_error : c.from_residual-in_err-all_defaults.result ≡ Err c.in_err-all_defaults.field-0.0 = search rules in
    stands_fail _ _ _ _ _ is_error (class_unmade (g.L.MakeLambdas.lambdas c.args.lams.now) (lexemes_of c.args.tokens.now) c.args.st.now
    (record c.args.st.now { env = c.class_read.new.env; work = c.class_read.new.work })
    c.args.at c.args.name.now (trees_at (syntax_of c.args.nodes.now) c.args.kids.now)
    (trees_at (syntax_of c.args.nodes.now) c.members_among-members.result.now) c.in_ok-home.home
    (class_here _ (ctx_of c.class_read.new.env)
    (work_of c.args.st.now.work) (work_of c.class_read.new.work) (map body_of c.args.st.now.bodies.items) (home_of c.in_ok-home.home)
    c.in_ok-home.ensures.kept.work
    (c.in_ok-home.ensures.read (map body_of c.args.st.now.bodies.items))) c.members_among-members.ensures.members _ c.in_err-all_defaults.ensures)

pub returns-in_err-home : goal.returns-in_err-home
returns-in_err-home g c =
    let is_error : c.from_residual.result ≡ Err c.in_err-home.field-0.0 = search rules in
    stands_fail _ _ _ _ _ is_error (class_unread (g.L.MakeLambdas.lambdas c.args.lams.now) (lexemes_of c.args.tokens.now)
    (state_of c.args.st.now) c.args.at c.args.name.now (trees_at (syntax_of c.args.nodes.now) c.args.kids.now) _
    (c.in_err-home.ensures.read (map body_of c.args.st.now.bodies.items)))
