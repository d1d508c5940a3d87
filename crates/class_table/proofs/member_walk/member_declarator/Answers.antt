use Rattle.std.proofs.Common.{◌≡◌, ◌∙◌, rules, refl, sym, ap, subst, map, drop, length, List, Option, Some, None, Ok, Err, true, false, not, option_map, ◌∷◌}
use Rattle.std.proofs.Common.{◌+◌}
use Rattle.elab_expr.specs.cpp_lex.Tokens.{lexemes_of}
use Rattle.elab_expr.specs.cpp_types.Typ.{Typ, typ_of}
use Rattle.elab_expr.specs.elab_ctx.Ctx.{ctx_of, work_of}
use Rattle.elab_expr.specs.elab_ctx.Says.{Faults}
use Rattle.elab_expr.specs.elab_ctx.Steps.{and_then, check, each_of, at_of}
use Rattle.elab_expr.specs.elab_types.Syntax.{syntax_of, tree_at, trees_at}
use Rattle.class_members.specs.Shown.{home_of, reading, storage_of, header_of, marks_of, definition_of}
use Rattle.class_table.proofs.Walking.{refused, answers_same, faults_then}
use Rattle.elab_expr.specs.elab_types.Shown.{declared_of}
use Rattle.elab_expr.specs.cpp_tree.declared.faults.IllRule.TheVariants.{BadDeclaration, OutOfProfile}
use Rattle.elab_expr.specs.cpp_ast.Trees.{node, more}
use Rattle.elab_expr.specs.elab_rules.Expressions.{declared_by}
use Rattle.elab_expr.specs.elab_rules.Statements.{is_own_name}
use Rattle.elab_expr.specs.elab_rules.Classes.{within_bounds, member_named, member_declarator}
use Rattle.class_table.specs.Written.{member_declared}
use Rattle.class_table.proofs.Members.{declarator_bound, declarator_fails, declarator_is}
use Rattle.elab_expr.specs.cpp_ast.declared.arena.NodeId.{NodeId}
use Rattle.elab_expr.specs.cpp_ast.Orders.{are_below}
use Rattle.elab_expr.proofs.elab_types.KidLists.{wider}
use Rattle.elab_expr.proofs.Unmoved.{unmoved_all}
use Rattle.class_table.proofs.member_walk.member_declarator.Goals as goal

pub declared_member-requires : goal.declared_member-requires
declared_member-requires c = c.rest_from.ensures.below (length c.args.nodes.now)
    (subst (λ (z : List NodeId). are_below (length c.args.nodes.now) z ≡ true) (sym c.as_slice-kids.ensures.value)
    (wider c.args.id.0 (length c.args.nodes.now) c.node_at-node.result.now.kids.items c.requires c.node_at-node.ensures.lower))

pub returns-in_err-within_bounds-clause-members : goal.returns-in_err-within_bounds-clause-members
returns-in_err-within_bounds-clause-members c bodies =
    let is_error : c.from_residual.result ≡ Err c.in_err-within_bounds.field-0.0 = search rules in
    refused (reading (ctx_of c.args.env.now) (work_of c.args.work.now) bodies c.args.members.now) c.from_residual.result c.in_err-within_bounds.field-0.0
    (member_declarator (lexemes_of c.args.tokens.now) (home_of c.args.home.now) (storage_of c.args.storage) (typ_of c.args.ty.now)
    (reading (ctx_of c.args.env.now) (work_of c.args.work.now) bodies c.args.members.now)
    (node c.node_at-node.result.now.kind c.node_at-node.result.now.at c.node_at-node.result.now.token
    (more (tree_at (syntax_of c.args.nodes.now) c.in-Some.first) (trees_at (syntax_of c.args.nodes.now) (drop 1 c.as_slice-kids.result.now)))))
    (member_declarator (lexemes_of c.args.tokens.now) (home_of c.args.home.now) (storage_of c.args.storage) (typ_of c.args.ty.now)
    (reading (ctx_of c.args.env.now) (work_of c.args.work.now) bodies c.args.members.now) (tree_at (syntax_of c.args.nodes.now) c.args.id)) is_error
    (ap (member_declarator (lexemes_of c.args.tokens.now) (home_of c.args.home.now) (storage_of c.args.storage) (typ_of c.args.ty.now)
    (reading (ctx_of c.args.env.now) (work_of c.args.work.now) bodies c.args.members.now))
    (c.node_at-node.ensures.node ∙ ap (λ (z : List NodeId). node c.node_at-node.result.now.kind c.node_at-node.result.now.at c.node_at-node.result.now.token
    (trees_at (syntax_of c.args.nodes.now) z)) (sym c.as_slice-kids.ensures.value ∙ c.in-Some.ensures.kid)))
    (declarator_bound (lexemes_of c.args.tokens.now) (home_of c.args.home.now) (storage_of c.args.storage) (typ_of c.args.ty.now)
    (reading (ctx_of c.args.env.now)
    (work_of c.args.work.now) bodies c.args.members.now) c.node_at-node.result.now.kind c.node_at-node.result.now.at c.node_at-node.result.now.token
    (tree_at (syntax_of c.args.nodes.now) c.in-Some.first)
    (trees_at (syntax_of c.args.nodes.now) (drop 1 c.as_slice-kids.result.now)) c.in_err-within_bounds.field-0.0
    (subst (λ z. Faults c.in_err-within_bounds.field-0.0 (within_bounds z))
    (c.member_named.ensures (work_of c.args.work.now) bodies) c.in_err-within_bounds.ensures))

pub returns-in_err-found-clause-members : goal.returns-in_err-found-clause-members
returns-in_err-found-clause-members c bodies =
    let is_error : c.from_residual-in_err-found.result ≡ Err c.in_err-found.field-0.0 = search rules in
    refused (reading (ctx_of c.args.env.now) (work_of c.args.work.now) bodies c.args.members.now) c.from_residual-in_err-found.result c.in_err-found.field-0.0
    (member_declarator (lexemes_of c.args.tokens.now) (home_of c.args.home.now) (storage_of c.args.storage) (typ_of c.args.ty.now)
    (reading (ctx_of c.args.env.now) (work_of c.args.work.now) bodies c.args.members.now)
    (node c.node_at-node.result.now.kind c.node_at-node.result.now.at c.node_at-node.result.now.token
    (more (tree_at (syntax_of c.args.nodes.now) c.in-Some.first) (trees_at (syntax_of c.args.nodes.now) (drop 1 c.as_slice-kids.result.now)))))
    (member_declarator (lexemes_of c.args.tokens.now) (home_of c.args.home.now) (storage_of c.args.storage) (typ_of c.args.ty.now)
    (reading (ctx_of c.args.env.now) (work_of c.args.work.now) bodies c.args.members.now) (tree_at (syntax_of c.args.nodes.now) c.args.id)) is_error
    (ap (member_declarator (lexemes_of c.args.tokens.now) (home_of c.args.home.now) (storage_of c.args.storage) (typ_of c.args.ty.now)
    (reading (ctx_of c.args.env.now) (work_of c.args.work.now) bodies c.args.members.now))
    (c.node_at-node.ensures.node ∙ ap (λ (z : List NodeId). node c.node_at-node.result.now.kind c.node_at-node.result.now.at c.node_at-node.result.now.token
    (trees_at (syntax_of c.args.nodes.now) z)) (sym c.as_slice-kids.ensures.value ∙ c.in-Some.ensures.kid)))
    (declarator_fails (lexemes_of c.args.tokens.now) (home_of c.args.home.now) (storage_of c.args.storage) (typ_of c.args.ty.now)
    (reading (ctx_of c.args.env.now)
    (work_of c.args.work.now) bodies c.args.members.now) c.node_at-node.result.now.kind c.node_at-node.result.now.at c.node_at-node.result.now.token
    (tree_at (syntax_of c.args.nodes.now) c.in-Some.first)
    (trees_at (syntax_of c.args.nodes.now) (drop 1 c.as_slice-kids.result.now)) c.in_ok-within_bounds.field-0 c.in_err-found.field-0.0
    (ap within_bounds (sym (c.member_named.ensures (work_of c.args.work.now) bodies)) ∙ c.in_ok-within_bounds.ensures)
    (subst (λ z. Faults c.in_err-found.field-0.0 (declared_by (lexemes_of c.args.tokens.now) (ctx_of c.args.env.now) (work_of c.args.work.now) z
    (typ_of c.args.ty.now) (tree_at (syntax_of c.args.nodes.now) c.in-Some.first))) c.place-at.ensures c.in_err-found.ensures.says))

pub returns-clause-members : goal.returns-clause-members
returns-clause-members c bodies =
    answers_same (reading (ctx_of c.declared_member.new.env) (work_of c.args.work.now) bodies c.declared_member.new.members) c.declared_member.result
    (member_declared (lexemes_of c.args.tokens.now) (home_of c.args.home.now)
    (reading (ctx_of c.args.env.now) (work_of c.args.work.now) bodies c.args.members.now) c.place-at.result (storage_of c.args.storage)
    (trees_at (syntax_of c.args.nodes.now) c.rest_from.result.now) (declared_of c.in_ok-found.found))
    (member_declarator (lexemes_of c.args.tokens.now) (home_of c.args.home.now) (storage_of c.args.storage) (typ_of c.args.ty.now)
    (reading (ctx_of c.args.env.now) (work_of c.args.work.now) bodies c.args.members.now) (tree_at (syntax_of c.args.nodes.now) c.args.id))
    (ap (member_declarator (lexemes_of c.args.tokens.now) (home_of c.args.home.now) (storage_of c.args.storage) (typ_of c.args.ty.now)
    (reading (ctx_of c.args.env.now) (work_of c.args.work.now) bodies c.args.members.now))
    (c.node_at-node.ensures.node ∙ ap (λ (z : List NodeId). node c.node_at-node.result.now.kind c.node_at-node.result.now.at c.node_at-node.result.now.token
    (trees_at (syntax_of c.args.nodes.now) z)) (sym c.as_slice-kids.ensures.value ∙ c.in-Some.ensures.kid))
    ∙ declarator_is (lexemes_of c.args.tokens.now) (home_of c.args.home.now) (storage_of c.args.storage) (typ_of c.args.ty.now)
    (reading (ctx_of c.args.env.now)
    (work_of c.args.work.now) bodies c.args.members.now) c.node_at-node.result.now.kind c.node_at-node.result.now.at c.node_at-node.result.now.token
    (tree_at (syntax_of c.args.nodes.now) c.in-Some.first)
    (trees_at (syntax_of c.args.nodes.now) (drop 1 c.as_slice-kids.result.now)) c.in_ok-within_bounds.field-0 (declared_of c.in_ok-found.found)
    (ap within_bounds (sym (c.member_named.ensures (work_of c.args.work.now) bodies)) ∙ c.in_ok-within_bounds.ensures)
    (ap (λ z. declared_by (lexemes_of c.args.tokens.now) (ctx_of c.args.env.now) (work_of c.args.work.now) z (typ_of c.args.ty.now)
    (tree_at (syntax_of c.args.nodes.now) c.in-Some.first)) (sym c.place-at.ensures) ∙ c.in_ok-found.ensures.says)
    ∙ ap (λ z. and_then (check (at_of c.node_at-node.result.now.at) BadDeclaration z)
    (λ y. member_declared (lexemes_of c.args.tokens.now) (home_of c.args.home.now)
    (reading (ctx_of c.args.env.now) (work_of c.args.work.now) bodies c.args.members.now) (at_of c.node_at-node.result.now.at) (storage_of c.args.storage)
    (trees_at (syntax_of c.args.nodes.now) (drop 1 c.as_slice-kids.result.now)) (declared_of c.in_ok-found.found)))
    (sym c.is_own_name.ensures ∙ c.if-not-is_own_name.false)
    ∙ ap (λ z. member_declared (lexemes_of c.args.tokens.now) (home_of c.args.home.now)
    (reading (ctx_of c.args.env.now) (work_of c.args.work.now) bodies c.args.members.now) z (storage_of c.args.storage)
    (trees_at (syntax_of c.args.nodes.now) (drop 1 c.as_slice-kids.result.now)) (declared_of c.in_ok-found.found)) (sym c.place-at.ensures)
    ∙ ap (λ (z : List NodeId). member_declared (lexemes_of c.args.tokens.now) (home_of c.args.home.now)
    (reading (ctx_of c.args.env.now) (work_of c.args.work.now) bodies c.args.members.now) c.place-at.result (storage_of c.args.storage)
    (trees_at (syntax_of c.args.nodes.now) z) (declared_of c.in_ok-found.found)) (sym c.rest_from.ensures.rest))
    (c.declared_member.ensures (work_of c.args.work.now) bodies)

pub returns-clause-kept : goal.returns-clause-kept
returns-clause-kept c = unmoved_all c.declared_member.result c.args.work.now c.declared_written.new.work c.in_ok-found.ensures.kept
