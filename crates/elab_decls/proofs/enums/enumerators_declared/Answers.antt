use Rattle.std.proofs.Common.{◌≡◌, ◌∙◌, ◌+◌, ℤ, pos, SFits, to_z, rules, drop, get_or, Err, ap, sym, subst}
use Rattle.std.proofs.lemmas.Int.{to_z-of_z}
use Rattle.std.specs.Int.{w128}
use Rattle.elab_expr.specs.cpp_lex.Tokens.{lexemes_of}
use Rattle.elab_expr.specs.elab_ctx.Ctx.{ctx_of, work_of}
use Rattle.elab_expr.specs.elab_ctx.Says.{Faults}
use Rattle.elab_expr.specs.elab_rules.Globals.{enumerator_declared, enumerators_declared}
use Rattle.elab_expr.proofs.Several.{trees_step}
use Rattle.elab_expr.specs.elab_types.Syntax.{syntax_of, tree_at, trees_at}
use Rattle.elab_decls.specs.Says.{counted}
use Rattle.elab_decls.proofs.Steps.{says_refused}
use Rattle.elab_decls.proofs.EnumSteps.{next_is, next_fails}
use Rattle.elab_decls.proofs.enums.enumerators_declared.Goals as goal

pub loop-id-preserved : goal.loop-id-preserved
loop-id-preserved c bodies =
    let is : to_z w128 c.loop-id.next-bits ≡ c.loop-id.next = cc in
    let behind : SFits w128 c.in_ok-next.next = search rules in
    next_is (lexemes_of c.args.tokens.now) c.args.scoped c.args.owner.now (counted (ctx_of c.loop-id.env) (work_of c.loop-id.work) bodies c.loop-id.next)
    (tree_at (syntax_of c.args.nodes.now) (get_or c.args.ids.now c.loop-id.id-index (record { 0 = 0 })))
    (trees_at (syntax_of c.args.nodes.now) (drop (c.loop-id.id-index + 1) c.args.ids.now))
    (trees_at (syntax_of c.args.nodes.now) (drop c.loop-id.id-index c.args.ids.now))
    (enumerators_declared (lexemes_of c.args.tokens.now) c.args.scoped c.args.owner.now
    (counted (ctx_of c.args.env.now) (work_of c.args.work.now) bodies (pos 0)) (trees_at (syntax_of c.args.nodes.now) c.args.ids.now))
    (c.loop-id.invariant bodies ∙ ap (λ (n : ℤ). enumerators_declared (lexemes_of c.args.tokens.now) c.args.scoped c.args.owner.now
    (counted (ctx_of c.loop-id.env) (work_of c.loop-id.work) bodies n) (trees_at (syntax_of c.args.nodes.now) (drop c.loop-id.id-index c.args.ids.now))) is)
    (trees_step (syntax_of c.args.nodes.now) c.args.ids.now c.loop-id.id-index (record { 0 = 0 }) c.loop-id-test.true)
    (counted (ctx_of c.enumerator_declared.new.env) (work_of c.enumerator_declared.new.work) bodies c.in_ok-next.next)
    (ap (λ (n : ℤ). enumerator_declared (lexemes_of c.args.tokens.now) c.args.scoped c.args.owner.now
    (counted (ctx_of c.loop-id.env) (work_of c.loop-id.work) bodies n)
    (tree_at (syntax_of c.args.nodes.now) (get_or c.args.ids.now c.loop-id.id-index (record { 0 = 0 })))) (sym is) ∙ c.in_ok-next.ensures bodies)
    ∙ ap (λ (n : ℤ). enumerators_declared (lexemes_of c.args.tokens.now) c.args.scoped c.args.owner.now
    (counted (ctx_of c.enumerator_declared.new.env) (work_of c.enumerator_declared.new.work) bodies n)
    (trees_at (syntax_of c.args.nodes.now) (drop (c.loop-id.id-index + 1) c.args.ids.now))) (sym (to_z-of_z w128 c.in_ok-next.next behind))

pub returns-in_err-next : goal.returns-in_err-next
returns-in_err-next c bodies =
    let is_error : c.from_residual.result ≡ Err c.in_err-next.field-0.0 = search rules in
    let is : to_z w128 c.loop-id.next-bits ≡ c.loop-id.next = cc in
    says_refused (counted (ctx_of c.enumerator_declared.new.env) (work_of c.enumerator_declared.new.work) bodies) c.from_residual.result c.in_err-next.field-0.0
    (enumerators_declared (lexemes_of c.args.tokens.now) c.args.scoped c.args.owner.now
    (counted (ctx_of c.args.env.now) (work_of c.args.work.now) bodies (pos 0)) (trees_at (syntax_of c.args.nodes.now) c.args.ids.now)) is_error
    (next_fails (lexemes_of c.args.tokens.now) c.args.scoped c.args.owner.now (counted (ctx_of c.loop-id.env) (work_of c.loop-id.work) bodies c.loop-id.next)
    (tree_at (syntax_of c.args.nodes.now) (get_or c.args.ids.now c.loop-id.id-index (record { 0 = 0 })))
    (trees_at (syntax_of c.args.nodes.now) (drop (c.loop-id.id-index + 1) c.args.ids.now))
    (trees_at (syntax_of c.args.nodes.now) (drop c.loop-id.id-index c.args.ids.now))
    (enumerators_declared (lexemes_of c.args.tokens.now) c.args.scoped c.args.owner.now
    (counted (ctx_of c.args.env.now) (work_of c.args.work.now) bodies (pos 0)) (trees_at (syntax_of c.args.nodes.now) c.args.ids.now))
    (c.loop-id.invariant bodies ∙ ap (λ (n : ℤ). enumerators_declared (lexemes_of c.args.tokens.now) c.args.scoped c.args.owner.now
    (counted (ctx_of c.loop-id.env) (work_of c.loop-id.work) bodies n) (trees_at (syntax_of c.args.nodes.now) (drop c.loop-id.id-index c.args.ids.now))) is)
    (trees_step (syntax_of c.args.nodes.now) c.args.ids.now c.loop-id.id-index (record { 0 = 0 }) c.loop-id-test.true) c.in_err-next.field-0.0
    (subst (λ (n : ℤ). Faults c.in_err-next.field-0.0
    (enumerator_declared (lexemes_of c.args.tokens.now) c.args.scoped c.args.owner.now (counted (ctx_of c.loop-id.env) (work_of c.loop-id.work) bodies n)
    (tree_at (syntax_of c.args.nodes.now) (get_or c.args.ids.now c.loop-id.id-index (record { 0 = 0 }))))) is (c.in_err-next.ensures bodies)))
