use Rattle.std.proofs.Common.{SFits, to_z, of_z, ◌≡◌, ◌∙◌, ℤ, rules, List, Err, ap, sym, subst}
use Rattle.std.proofs.lemmas.Int.{to_z-of_z}
use Rattle.std.specs.Int.{w128}
use Rattle.elab_expr.specs.cpp_lex.Tokens.{lexemes_of}
use Rattle.elab_expr.specs.cpp_ast.declared.arena.NodeId.{NodeId}
use Rattle.elab_expr.specs.elab_ctx.Ctx.{Work, ctx_of, work_of}
use Rattle.elab_expr.specs.elab_ctx.Says.{Faults}
use Rattle.elab_expr.specs.elab_rules.Globals.{enumerator_made, enumerator_declared}
use Rattle.elab_expr.specs.elab_types.Shown.{Says}
use Rattle.elab_expr.specs.elab_types.Syntax.{syntax_of, tree_at, trees_at}
use Rattle.elab_decls.specs.Enums.{valued_shown, found_value}
use Rattle.elab_decls.specs.Says.{changed, counted}
use Rattle.elab_decls.proofs.Steps.{says_refused, says_same}
use Rattle.elab_decls.proofs.EnumSteps.{found_fails, found_is}
use Rattle.elab_decls.proofs.enums.enumerator_declared.Goals as goal

pub returns-in_err-found : goal.returns-in_err-found
returns-in_err-found c bodies =
    let is_error : c.from_residual.result ≡ Err c.in_err-found.field-0.0 = search rules in
    says_refused (counted (ctx_of c.args.env.now) (work_of c.found_value.new.work) bodies) c.from_residual.result c.in_err-found.field-0.0
    (enumerator_declared (lexemes_of c.args.tokens.now) c.args.scoped c.args.owner.now
    (counted (ctx_of c.args.env.now) (work_of c.args.work.now) bodies c.args.next) (tree_at (syntax_of c.args.nodes.now) c.args.id)) is_error
    (found_fails (lexemes_of c.args.tokens.now) c.args.scoped c.args.owner.now
    (counted (ctx_of c.args.env.now) (work_of c.args.work.now) bodies c.args.next) c.node_at-node.result.now.kind c.node_at-node.result.now.at
    c.node_at-node.result.now.token c.in-Some.token (trees_at (syntax_of c.args.nodes.now) c.node_at-node.result.now.kids.items)
    (tree_at (syntax_of c.args.nodes.now) c.args.id) c.place-at.result
    c.node_at-node.ensures.node c.in-Some.is c.place-at.ensures c.in_err-found.field-0.0
    (subst (λ (z : List NodeId). Faults c.in_err-found.field-0.0
    (found_value (lexemes_of c.args.tokens.now) (ctx_of c.args.env.now) (work_of c.args.work.now) c.place-at.result c.args.next
    (trees_at (syntax_of c.args.nodes.now) z))) c.deref.ensures.value
    (subst (λ (n : ℤ). Faults c.in_err-found.field-0.0
    (found_value (lexemes_of c.args.tokens.now) (ctx_of c.args.env.now) (work_of c.args.work.now) c.place-at.result n
    (trees_at (syntax_of c.args.nodes.now) c.deref.result.now))) (to_z-of_z w128 c.args.next c.ranges.next) c.in_err-found.ensures.value)))

pub returns : goal.returns
returns c bodies =
    let fits : SFits w128 c.in_ok-found.found.value = search rules in
    subst (λ (w : Work). Says (counted (ctx_of c.enumerator_made.new.env) w bodies) c.enumerator_made.result
    (enumerator_declared (lexemes_of c.args.tokens.now) c.args.scoped c.args.owner.now
    (counted (ctx_of c.args.env.now) (work_of c.args.work.now) bodies c.args.next) (tree_at (syntax_of c.args.nodes.now) c.args.id)))
    (sym c.in_ok-found.ensures.kept)
    (says_same (counted (ctx_of c.enumerator_made.new.env) (work_of c.args.work.now) bodies) c.enumerator_made.result
    (enumerator_made c.args.scoped c.args.owner.now
    (changed (ctx_of c.args.env.now) (work_of c.args.work.now) bodies) c.place-at.result c.in_ok-found.found.at c.spelling-name.result.now
    (to_z w128 (of_z w128 c.in_ok-found.found.value)))
    (enumerator_declared (lexemes_of c.args.tokens.now) c.args.scoped c.args.owner.now
    (counted (ctx_of c.args.env.now) (work_of c.args.work.now) bodies c.args.next) (tree_at (syntax_of c.args.nodes.now) c.args.id))
    (found_is (lexemes_of c.args.tokens.now) c.args.scoped c.args.owner.now
    (counted (ctx_of c.args.env.now) (work_of c.args.work.now) bodies c.args.next) c.node_at-node.result.now.kind c.node_at-node.result.now.at
    c.node_at-node.result.now.token c.in-Some.token (trees_at (syntax_of c.args.nodes.now) c.node_at-node.result.now.kids.items)
    (tree_at (syntax_of c.args.nodes.now) c.args.id) c.place-at.result
    c.node_at-node.ensures.node c.in-Some.is c.place-at.ensures (valued_shown c.in_ok-found.found) c.spelling-name.result.now
    (ap (λ (z : List NodeId). found_value (lexemes_of c.args.tokens.now) (ctx_of c.args.env.now) (work_of c.args.work.now) c.place-at.result c.args.next
    (trees_at (syntax_of c.args.nodes.now) z)) (sym c.deref.ensures.value)
    ∙ ap (λ (n : ℤ). found_value (lexemes_of c.args.tokens.now) (ctx_of c.args.env.now) (work_of c.args.work.now) c.place-at.result n
    (trees_at (syntax_of c.args.nodes.now) c.deref.result.now)) (sym (to_z-of_z w128 c.args.next c.ranges.next))
    ∙ c.in_ok-found.ensures.value) c.spelling-name.ensures
    ∙ ap (enumerator_made c.args.scoped c.args.owner.now
    (changed (ctx_of c.args.env.now) (work_of c.args.work.now) bodies) c.place-at.result c.in_ok-found.found.at c.spelling-name.result.now)
    (sym (to_z-of_z w128 c.in_ok-found.found.value fits)))
    (c.enumerator_made.ensures (work_of c.args.work.now) bodies))
