use Rattle.std.proofs.Common.{◌≡◌, ◌∙◌, rules, refl, sym, ap, subst, map, drop, get_or, List, Option, Some, None, Ok, Err, true, false, not, option_map, ◌∷◌}
use Rattle.std.proofs.Common.{◌+◌}
use Rattle.elab_expr.specs.cpp_lex.Tokens.{lexemes_of}
use Rattle.elab_expr.specs.cpp_types.Typ.{Typ, typ_of}
use Rattle.elab_expr.specs.elab_ctx.Ctx.{Work, ctx_of, work_of}
use Rattle.elab_expr.specs.elab_ctx.Says.{Faults}
use Rattle.elab_expr.specs.elab_ctx.Steps.{and_then, check, each_of, at_of}
use Rattle.elab_expr.specs.elab_types.Syntax.{syntax_of, tree_at, trees_at}
use Rattle.class_members.specs.Shown.{home_of, reading, storage_of, header_of, marks_of, definition_of}
use Rattle.class_table.proofs.Walking.{refused, answers_same, faults_then}
use Rattle.elab_expr.specs.elab_rules.Classes.{member_declarator}
use Rattle.elab_expr.proofs.Several.{trees_step, trees_past}
use Rattle.class_table.proofs.Members.{each_more, each_fails}
use Rattle.elab_expr.proofs.Unmoved.{unmoved_trans}
use Rattle.class_table.proofs.member_walk.member_declarators.Goals as goal

pub loop-id-init : goal.loop-id-init
loop-id-init c = record { kept = record { work = refl; nodes = refl }; left = λ bodies. refl }

pub loop-id-preserved : goal.loop-id-preserved
loop-id-preserved c = record {
  kept = unmoved_trans c.args.work.now c.loop-id.work c.member_declarator.new.work c.loop-id.invariant.kept c.in_ok-member_declarator.ensures.kept;
  left = λ bodies. each_more (member_declarator (lexemes_of c.args.tokens.now) (home_of c.args.home.now) (storage_of c.args.storage) (typ_of c.args.ty.now))
      (reading (ctx_of c.loop-id.env) (work_of c.args.work.now) bodies c.loop-id.members)
      (reading (ctx_of c.member_declarator.new.env) (work_of c.args.work.now) bodies c.member_declarator.new.members)
      (tree_at (syntax_of c.args.nodes.now) (get_or c.args.ids.now c.loop-id.id-index (record { 0 = 0 })))
      (trees_at (syntax_of c.args.nodes.now) (drop (c.loop-id.id-index + 1) c.args.ids.now)) _
      (subst (λ (w : Work). member_declarator (lexemes_of c.args.tokens.now) (home_of c.args.home.now) (storage_of c.args.storage) (typ_of c.args.ty.now)
      (reading (ctx_of c.loop-id.env) w bodies c.loop-id.members)
      (tree_at (syntax_of c.args.nodes.now) (get_or c.args.ids.now c.loop-id.id-index (record { 0 = 0 })))
      ≡ Ok (reading (ctx_of c.member_declarator.new.env) w bodies c.member_declarator.new.members)) c.loop-id.invariant.kept.work
      (c.in_ok-member_declarator.ensures.members bodies))
      (c.loop-id.invariant.left bodies ∙ ap (each_of (member_declarator (lexemes_of c.args.tokens.now) (home_of c.args.home.now) (storage_of c.args.storage)
      (typ_of c.args.ty.now)) (reading (ctx_of c.loop-id.env) (work_of c.args.work.now) bodies c.loop-id.members))
      (trees_step (syntax_of c.args.nodes.now) c.args.ids.now c.loop-id.id-index (record { 0 = 0 }) c.loop-id-test.true));
}

pub returns-in_err-member_declarator-clause-members : goal.returns-in_err-member_declarator-clause-members
returns-in_err-member_declarator-clause-members c bodies =
    let is_error : c.from_residual.result ≡ Err c.in_err-member_declarator.field-0.0 = search rules in
    refused _ c.from_residual.result c.in_err-member_declarator.field-0.0 _
    (each_of (member_declarator (lexemes_of c.args.tokens.now) (home_of c.args.home.now) (storage_of c.args.storage) (typ_of c.args.ty.now))
    (reading (ctx_of c.args.env.now) (work_of c.args.work.now) bodies c.args.members.now)
    (trees_at (syntax_of c.args.nodes.now) c.args.ids.now)) is_error refl
    (each_fails (member_declarator (lexemes_of c.args.tokens.now) (home_of c.args.home.now) (storage_of c.args.storage) (typ_of c.args.ty.now))
    (reading (ctx_of c.loop-id.env) (work_of c.args.work.now) bodies c.loop-id.members)
    (tree_at (syntax_of c.args.nodes.now) (get_or c.args.ids.now c.loop-id.id-index (record { 0 = 0 })))
    (trees_at (syntax_of c.args.nodes.now) (drop (c.loop-id.id-index + 1) c.args.ids.now)) _ c.in_err-member_declarator.field-0.0
    (subst (λ (w : Work). Faults c.in_err-member_declarator.field-0.0 (member_declarator (lexemes_of c.args.tokens.now) (home_of c.args.home.now)
    (storage_of c.args.storage) (typ_of c.args.ty.now) (reading (ctx_of c.loop-id.env) w bodies c.loop-id.members)
    (tree_at (syntax_of c.args.nodes.now) (get_or c.args.ids.now c.loop-id.id-index (record { 0 = 0 })))))
    c.loop-id.invariant.kept.work
    (c.in_err-member_declarator.ensures.members bodies)) (c.loop-id.invariant.left bodies ∙ ap
    (each_of (member_declarator (lexemes_of c.args.tokens.now) (home_of c.args.home.now) (storage_of c.args.storage) (typ_of c.args.ty.now))
    (reading (ctx_of c.loop-id.env) (work_of c.args.work.now) bodies c.loop-id.members))
    (trees_step (syntax_of c.args.nodes.now) c.args.ids.now c.loop-id.id-index (record { 0 = 0 }) c.loop-id-test.true)))

pub returns-clause-members : goal.returns-clause-members
returns-clause-members c bodies = c.loop-id.invariant.left bodies ∙ ap (each_of
    (member_declarator (lexemes_of c.args.tokens.now) (home_of c.args.home.now) (storage_of c.args.storage) (typ_of c.args.ty.now))
    (reading (ctx_of c.loop-id.env) (work_of c.args.work.now) bodies c.loop-id.members))
    (trees_past (syntax_of c.args.nodes.now) c.args.ids.now c.loop-id.id-index c.loop-id-test.false)

pub returns-clause-kept : goal.returns-clause-kept
returns-clause-kept c = c.loop-id.invariant.kept
