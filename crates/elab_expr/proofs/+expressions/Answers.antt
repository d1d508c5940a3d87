use Rattle.elab_rows.specs.cpp_ast.Orders.{are_below}
use Rattle.elab_rows.specs.cpp_lex.Tokens.{lexemes_of}
use Rattle.elab_rows.specs.cpp_tree.Arena.{trees_of, tree_at as typed_at}
use Rattle.elab_rows.specs.cpp_tree.declared.arena.TNode.{TNode}
use Rattle.elab_rows.specs.cpp_tree.Trees.{typ_in}
use Rattle.elab_rows.specs.cpp_types.Typ.{typ_of}
use Rattle.elab_rows.specs.elab_ctx.Ctx.{closure_of, ctx_of, work_of}
use Rattle.elab_rows.specs.elab_ctx.Says.{Faults}
use Rattle.elab_rows.specs.elab_ctx.Steps.{at_of}
use Rattle.elab_expr.proofs.Declaring.{bound_fault, bound_says, next_specified, specified_fault, specifiers_are, specifiers_done}
use Rattle.elab_expr.proofs.Declaring.{after_start, array_fault, array_is, array_made, clause_fault, enclosed_is, exception_by, exception_fault, exception_is}
use Rattle.elab_expr.proofs.Declaring.{exception_says, function_fault, function_is, function_made, function_safe, function_safe_fault, inner_fault}
use Rattle.elab_expr.proofs.Declaring.{next_parameter, open_is, open_made, parameter_base_fault, parameter_by, parameter_declared_fault, parameter_fault}
use Rattle.elab_expr.proofs.Declaring.{parameter_is, parameter_says, parameters_are, parameters_done, pointer_is, pointer_made, reference_is, reference_made}
use Rattle.elab_expr.proofs.Declaring.{refused_says, says_same, type_base_fault, type_by, type_declared_fault, type_id_is, type_made}
use Rattle.elab_expr.proofs.FormRows.{call_is, call_row_of, cast_is, cast_row_of, functional_is, functional_row_of, leaf_is, many_is, over_row, size_is}
use Rattle.elab_expr.proofs.FormRows.{size_row, type_is, type_row, wrapped_is}
use Rattle.elab_expr.proofs.Several.{below_take, last_is, no_kids, rest_from, so_far_one, some_kids, trees_past, trees_step, vec_len_is}
use Rattle.elab_expr.proofs.Stages.{argument_fault, base_fault, call_typed, callee_fault, cast_type_fault, cast_typed, cast_value_fault, chosen_cut}
use Rattle.elab_expr.proofs.Stages.{first_fault, functional_typed, made_type_fault, over_fault, over_typed, refused_typed, size_fault, size_typed, type_fault}
use Rattle.elab_expr.proofs.Stages.{type_typed, types_same, value_fault, wrapped_typed}
use Rattle.elab_rows.specs.elab_rules.Expressions.{all_specified_with, leaf_or_row, parameters_with, specified_with}
use Rattle.elab_rows.specs.elab_rules.Types.{specified_type, with_function}
use Rattle.elab_rows.proofs.elab_types.KidLists.{wider}
use Rattle.elab_rows.specs.elab_types.Shown.{declared_of, parameter_of, qualifiers_of, specifiers_of}
use Rattle.elab_rows.specs.elab_types.Syntax.{syntax_of, tree_at, trees_at}
use Rattle.std.proofs.Common.{Err, Ok, Vec, [], ap, drop, length, map, refl, rules, subst, sym, take, true, ◌-◌, ◌∙◌, ◌≡◌}
use Rattle.std.proofs.lemmas.List.{map-append}
use Rattle.std.specs.declared.alloc.Global.{Global as Alloc}
use Rattle.elab_expr.proofs.Unmoved.{unmoved_after, unmoved_all, unmoved_self, unmoved_trans, unmoved_trees}
use Rattle.elab_expr.proofs.+expressions.Goals as goal

pub declarators::array_declarator-returns-in_err-array-in-Two-clause-says : goal.declarators::array_declarator-returns-in_err-array-in-Two-clause-says
declarators::array_declarator-returns-in_err-array-in-Two-clause-says t c =
    let is_error : c.from_residual-in_err-array-in-Two.result ≡ Err c.in_err-array-in-Two.field-0.0 = search rules in
    refused_says _ _ _ _ _ is_error (array_is (lexemes_of c.args.tokens.now) (ctx_of c.args.env.now) (map closure_of c.args.closures.now)
    (work_of c.args.work.now) c.args.at (typ_of c.args.ty.now) (tree_at (syntax_of c.args.nodes.now) c.args.id)
    (tree_at (syntax_of c.args.nodes.now) c.in-Two.kid)
    (tree_at (syntax_of c.args.nodes.now) c.in-Two.number) _ _ _ _ c.node_at.ensures.node c.requires.kind
    (ap (trees_at (syntax_of c.args.nodes.now)) (sym c.deref.ensures.value) ∙ c.in-Two.ensures.trees (syntax_of c.args.nodes.now)))
    (array_fault (lexemes_of c.args.tokens.now) (ctx_of c.args.env.now) (map closure_of c.args.closures.now) (work_of c.args.work.now) c.args.at
    (typ_of c.args.ty.now) (tree_at (syntax_of c.args.nodes.now) c.in-Two.kid)
    (tree_at (syntax_of c.args.nodes.now) c.in-Two.number) _ c.in_err-array-in-Two.ensures.says)

pub declarators::array_declarator-returns-in_ok-array-in-One-clause-says : goal.declarators::array_declarator-returns-in_ok-array-in-One-clause-says
declarators::array_declarator-returns-in_ok-array-in-One-clause-says t c =
    says_same declared_of _ _ _ ((open_is (lexemes_of c.args.tokens.now) (ctx_of c.args.env.now) (map closure_of c.args.closures.now)
    (work_of c.args.work.now) c.args.at (typ_of c.args.ty.now) (tree_at (syntax_of c.args.nodes.now) c.args.id)
    (tree_at (syntax_of c.args.nodes.now) c.in-One.kid) _ _ _ _ c.node_at.ensures.node c.requires.kind
    (ap (trees_at (syntax_of c.args.nodes.now)) (sym c.deref.ensures.value) ∙ c.in-One.ensures.trees (syntax_of c.args.nodes.now)))
    ∙ open_made (lexemes_of c.args.tokens.now) (ctx_of c.args.env.now) (map closure_of c.args.closures.now) (work_of c.args.work.now) c.args.at
    (typ_of c.args.ty.now) _ (tree_at (syntax_of c.args.nodes.now) c.in-One.kid) c.in_ok-array-in-One.ensures) c.declared.ensures.says

pub declarators::array_declarator-returns-in_ok-array-in-Two-clause-says : goal.declarators::array_declarator-returns-in_ok-array-in-Two-clause-says
declarators::array_declarator-returns-in_ok-array-in-Two-clause-says t c =
    says_same declared_of _ _ _ ((array_is (lexemes_of c.args.tokens.now) (ctx_of c.args.env.now) (map closure_of c.args.closures.now)
    (work_of c.args.work.now) c.args.at (typ_of c.args.ty.now) (tree_at (syntax_of c.args.nodes.now) c.args.id)
    (tree_at (syntax_of c.args.nodes.now) c.in-Two.kid)
    (tree_at (syntax_of c.args.nodes.now) c.in-Two.number) _ _ _ _ c.node_at.ensures.node c.requires.kind
    (ap (trees_at (syntax_of c.args.nodes.now)) (sym c.deref.ensures.value) ∙ c.in-Two.ensures.trees (syntax_of c.args.nodes.now)))
    ∙ array_made (lexemes_of c.args.tokens.now) (ctx_of c.args.env.now) (map closure_of c.args.closures.now) (work_of c.args.work.now) _ c.args.at
    (typ_of c.args.ty.now) _ (tree_at (syntax_of c.args.nodes.now) c.in-Two.kid)
    (tree_at (syntax_of c.args.nodes.now) c.in-Two.number) c.in_ok-array-in-Two.ensures.kept.work
    c.in_ok-array-in-Two.ensures.says) c.declared-in-Two.ensures.says

pub declarators::array_declarator-returns-in_ok-array-in-Two-clause-kept : goal.declarators::array_declarator-returns-in_ok-array-in-Two-clause-kept
declarators::array_declarator-returns-in_ok-array-in-Two-clause-kept t c =
    unmoved_after c.declared-in-Two.result c.args.work.now c.bound.new.work _ c.in_ok-array-in-Two.ensures.kept c.declared-in-Two.ensures.kept

pub declarators::array_declarator-returns-in_ok-array-in-One-clause-kept : goal.declarators::array_declarator-returns-in_ok-array-in-One-clause-kept
declarators::array_declarator-returns-in_ok-array-in-One-clause-kept t c = c.declared.ensures.kept

pub declarators::bound-returns-clause-says : goal.declarators::bound-returns-clause-says
declarators::bound-returns-clause-says t c =
    let kept : work_of c.cut_back.new.work ≡ work_of c.args.work.now =
    chosen_cut (lexemes_of c.args.tokens.now) (ctx_of c.args.env.now) (map closure_of c.args.closures.now) c.args.work.now c.chosen_expression.new.work
    c.cut_back.new.work (tree_at (syntax_of c.args.nodes.now) c.args.id) _ _ _ _ _ c.in_ok-operand.ensures c.len-frame.ensures c.len-globals.ensures
    c.cut_back.ensures.work in
    bound_says typ_of c.bounded.result (lexemes_of c.args.tokens.now) (ctx_of c.args.env.now) (map closure_of c.args.closures.now) (work_of c.args.work.now)
    (work_of c.cut_back.new.work) _ c.args.at (typ_of c.args.ty.now) (tree_at (syntax_of c.args.nodes.now) c.args.id) _ _
    (trees_of c.replace-own.result.items) c.in_ok-operand.operand kept
    (ap (λ (v : Vec TNode Alloc). trees_of v.items) (c.replace-own.ensures.value ∙ c.cut_back.ensures.nodes)) c.in_ok-operand.ensures c.bounded.ensures

pub declarators::bound-returns-clause-kept : goal.declarators::bound-returns-clause-kept
declarators::bound-returns-clause-kept t c =
    let kept : work_of c.cut_back.new.work ≡ work_of c.args.work.now =
    chosen_cut (lexemes_of c.args.tokens.now) (ctx_of c.args.env.now) (map closure_of c.args.closures.now) c.args.work.now c.chosen_expression.new.work
    c.cut_back.new.work (tree_at (syntax_of c.args.nodes.now) c.args.id) _ _ _ _ _ c.in_ok-operand.ensures c.len-frame.ensures c.len-globals.ensures
    c.cut_back.ensures.work in
    unmoved_all c.bounded.result c.args.work.now (record c.cut_back.new.work { nodes = c.replace-own.new.dest })
    (record { work = kept; nodes = c.replace-own.ensures.after ∙ c.replace-before.ensures.value })

pub declarators::bound-returns-in_err-operand-clause-says : goal.declarators::bound-returns-in_err-operand-clause-says
declarators::bound-returns-in_err-operand-clause-says t c =
    let is_error : c.from_residual.result ≡ Err c.in_err-operand.field-0.0 = search rules in
    refused_says _ _ _ _ _ is_error refl (bound_fault (lexemes_of c.args.tokens.now) (ctx_of c.args.env.now) (map closure_of c.args.closures.now)
    (work_of c.args.work.now) c.args.at (typ_of c.args.ty.now) (tree_at (syntax_of c.args.nodes.now) c.args.id) _ c.in_err-operand.ensures)

pub declarators::bound-returns-then-is_integer_literal-clause-says : goal.declarators::bound-returns-then-is_integer_literal-clause-says
declarators::bound-returns-then-is_integer_literal-clause-says t c = c.literal_bound.ensures (map closure_of c.args.closures.now)

pub declarators::bound-returns-then-is_integer_literal-clause-kept : goal.declarators::bound-returns-then-is_integer_literal-clause-kept
declarators::bound-returns-then-is_integer_literal-clause-kept t c = unmoved_self c.literal_bound.result c.args.work.now

pub declarators::declared-owner_token-requires : goal.declarators::declared-owner_token-requires
declarators::declared-owner_token-requires t c =
    let low : are_below (length c.args.nodes.now) c.node_at-node.result.now.kids.items ≡ true =
    wider c.args.id.0 (length c.args.nodes.now) c.node_at-node.result.now.kids.items c.requires.within c.node_at-node.ensures.lower in search rules

pub declarators::declared-owner_token-requires-in-QualifiedDestructorId : goal.declarators::declared-owner_token-requires-in-QualifiedDestructorId
declarators::declared-owner_token-requires-in-QualifiedDestructorId t c =
    let low : are_below (length c.args.nodes.now) c.node_at-node.result.now.kids.items ≡ true =
    wider c.args.id.0 (length c.args.nodes.now) c.node_at-node.result.now.kids.items c.requires.within c.node_at-node.ensures.lower in search rules

pub declarators::declared-returns-in-DeclaratorId-clause-kept : goal.declarators::declared-returns-in-DeclaratorId-clause-kept
declarators::declared-returns-in-DeclaratorId-clause-kept t c = unmoved_self c.name_declared.result c.args.work.now

pub declarators::declared-returns-in-DestructorId-clause-kept : goal.declarators::declared-returns-in-DestructorId-clause-kept
declarators::declared-returns-in-DestructorId-clause-kept t c = unmoved_self c.name_declared-in-DestructorId.result c.args.work.now

pub declarators::declared-returns-in-QualifiedDeclaratorId-clause-kept : goal.declarators::declared-returns-in-QualifiedDeclaratorId-clause-kept
declarators::declared-returns-in-QualifiedDeclaratorId-clause-kept t c = unmoved_self c.name_declared-in-QualifiedDeclaratorId.result c.args.work.now

pub declarators::declared-returns-in-QualifiedDestructorId-clause-kept : goal.declarators::declared-returns-in-QualifiedDestructorId-clause-kept
declarators::declared-returns-in-QualifiedDestructorId-clause-kept t c = unmoved_self c.name_declared-in-QualifiedDestructorId.result c.args.work.now

pub declarators::declared-returns-in-OmittedId-clause-kept : goal.declarators::declared-returns-in-OmittedId-clause-kept
declarators::declared-returns-in-OmittedId-clause-kept t c = unmoved_self c.name_declared-in-OmittedId.result c.args.work.now

pub declarators::exception_specified-returns-clause-says : goal.declarators::exception_specified-returns-clause-says
declarators::exception_specified-returns-clause-says t c =
    says_same (specifiers_of (lexemes_of c.args.tokens.now)) _ _ _
    ((exception_is (lexemes_of c.args.tokens.now) (ctx_of c.args.env.now) (map closure_of c.args.closures.now) (work_of c.args.work.now)
    (specifiers_of (lexemes_of c.args.tokens.now) c.args.specifiers) (tree_at (syntax_of c.args.nodes.now) c.args.id)
    (tree_at (syntax_of c.args.nodes.now) c.in-One.kid) _ _ _ _ c.node_at-node.ensures.node c.requires.kind
    (ap (trees_at (syntax_of c.args.nodes.now)) (sym c.deref.ensures.value) ∙ c.in-One.ensures.trees (syntax_of c.args.nodes.now)))
    ∙ ap (λ z. exception_by (lexemes_of c.args.tokens.now) (ctx_of c.args.env.now) (map closure_of c.args.closures.now) (work_of c.args.work.now) z
    (specifiers_of (lexemes_of c.args.tokens.now) c.args.specifiers) (tree_at (syntax_of c.args.nodes.now) c.in-One.kid)) (sym c.place.ensures))
    (exception_says (specifiers_of (lexemes_of c.args.tokens.now)) _ (lexemes_of c.args.tokens.now) (ctx_of c.args.env.now)
    (map closure_of c.args.closures.now) (work_of c.args.work.now) _ (specifiers_of (lexemes_of c.args.tokens.now) c.args.specifiers)
    (tree_at (syntax_of c.args.nodes.now) c.in-One.kid) _ c.in_ok-ty.ensures.says c.with_exception.ensures)

pub declarators::exception_specified-returns-in_err-ty-clause-says : goal.declarators::exception_specified-returns-in_err-ty-clause-says
declarators::exception_specified-returns-in_err-ty-clause-says t c =
    let is_error : c.from_residual.result ≡ Err c.in_err-ty.field-0.0 = search rules in
    refused_says _ _ _ _ _ is_error (exception_is (lexemes_of c.args.tokens.now) (ctx_of c.args.env.now) (map closure_of c.args.closures.now)
    (work_of c.args.work.now) (specifiers_of (lexemes_of c.args.tokens.now) c.args.specifiers) (tree_at (syntax_of c.args.nodes.now) c.args.id)
    (tree_at (syntax_of c.args.nodes.now) c.in-One.kid) _ _ _ _ c.node_at-node.ensures.node c.requires.kind
    (ap (trees_at (syntax_of c.args.nodes.now)) (sym c.deref.ensures.value) ∙ c.in-One.ensures.trees (syntax_of c.args.nodes.now)))
    (exception_fault (lexemes_of c.args.tokens.now) (ctx_of c.args.env.now) (map closure_of c.args.closures.now) (work_of c.args.work.now) _
    (specifiers_of (lexemes_of c.args.tokens.now) c.args.specifiers) (tree_at (syntax_of c.args.nodes.now) c.in-One.kid) _ c.in_err-ty.ensures.says)

pub declarators::exception_specified-returns-clause-kept : goal.declarators::exception_specified-returns-clause-kept
declarators::exception_specified-returns-clause-kept t c =
    unmoved_all c.with_exception.result c.args.work.now c.type_id.new.work c.in_ok-ty.ensures.kept

pub declarators::function_declarator-returns-clause-says : goal.declarators::function_declarator-returns-clause-says
declarators::function_declarator-returns-clause-says t c =
    says_same declared_of _ _ _ ((function_is (lexemes_of c.args.tokens.now) (ctx_of c.args.env.now) (map closure_of c.args.closures.now)
    (work_of c.args.work.now) c.args.at (typ_of c.args.ty.now) (tree_at (syntax_of c.args.nodes.now) c.args.id)
    (tree_at (syntax_of c.args.nodes.now) c.in-Three.kid) (tree_at (syntax_of c.args.nodes.now) c.in-Three.clause)
    (tree_at (syntax_of c.args.nodes.now) c.in-Three.behind) _ _ _ _ c.node_at.ensures.node c.requires.kind
    (ap (trees_at (syntax_of c.args.nodes.now)) (sym c.deref.ensures.value) ∙ c.in-Three.ensures.trees (syntax_of c.args.nodes.now)))
    ∙ function_made (lexemes_of c.args.tokens.now) (ctx_of c.args.env.now) (map closure_of c.args.closures.now) (work_of c.args.work.now) _ c.args.at
    (typ_of c.args.ty.now) _ (tree_at (syntax_of c.args.nodes.now) c.in-Three.kid) (tree_at (syntax_of c.args.nodes.now) c.in-Three.clause)
    (tree_at (syntax_of c.args.nodes.now) c.in-Three.behind) (map parameter_of c.in_ok-params.params.items)
    (qualifiers_of c.qualifiers_of-qualifiers.result) _ c.in_ok-params.ensures.kept.work c.qualifiers_of-qualifiers.ensures c.in_ok-params.ensures.says
    (function_safe (ctx_of c.args.env.now) c.args.at (typ_of c.args.ty.now) _ (map parameter_of c.in_ok-params.params.items) _ _
    (qualifiers_of c.qualifiers_of-qualifiers.result)
    (ap (map parameter_of) c.deref-2.ensures.value) c.is_declared_safe.ensures c.in_ok-function.ensures) c.in_ok-found.ensures.says
    ∙ ap (λ z. with_function c.args.at z (map parameter_of c.in_ok-params.params.items) (qualifiers_of c.qualifiers_of-qualifiers.result)
    (declared_of c.in_ok-found.found)) (sym c.is_name.ensures)) c.with_function.ensures

pub declarators::function_declarator-returns-in_err-found-clause-says : goal.declarators::function_declarator-returns-in_err-found-clause-says
declarators::function_declarator-returns-in_err-found-clause-says t c =
    let is_error : c.from_residual-in_err-found.result ≡ Err c.in_err-found.field-0.0 = search rules in
    refused_says _ _ _ _ _ is_error (function_is (lexemes_of c.args.tokens.now) (ctx_of c.args.env.now) (map closure_of c.args.closures.now)
    (work_of c.args.work.now) c.args.at (typ_of c.args.ty.now) (tree_at (syntax_of c.args.nodes.now) c.args.id)
    (tree_at (syntax_of c.args.nodes.now) c.in-Three.kid) (tree_at (syntax_of c.args.nodes.now) c.in-Three.clause)
    (tree_at (syntax_of c.args.nodes.now) c.in-Three.behind) _ _ _ _ c.node_at.ensures.node c.requires.kind
    (ap (trees_at (syntax_of c.args.nodes.now)) (sym c.deref.ensures.value) ∙ c.in-Three.ensures.trees (syntax_of c.args.nodes.now)))
    (inner_fault (lexemes_of c.args.tokens.now) (ctx_of c.args.env.now) (map closure_of c.args.closures.now) (work_of c.args.work.now) _ c.args.at
    (typ_of c.args.ty.now) _ (tree_at (syntax_of c.args.nodes.now) c.in-Three.kid) (tree_at (syntax_of c.args.nodes.now) c.in-Three.clause)
    (tree_at (syntax_of c.args.nodes.now) c.in-Three.behind) (map parameter_of c.in_ok-params.params.items)
    (qualifiers_of c.qualifiers_of-qualifiers.result) _ c.in_ok-params.ensures.kept.work c.qualifiers_of-qualifiers.ensures c.in_ok-params.ensures.says
    (function_safe (ctx_of c.args.env.now) c.args.at (typ_of c.args.ty.now) _ (map parameter_of c.in_ok-params.params.items) _ _
    (qualifiers_of c.qualifiers_of-qualifiers.result)
    (ap (map parameter_of) c.deref-2.ensures.value) c.is_declared_safe.ensures c.in_ok-function.ensures) c.in_err-found.ensures.says)

pub declarators::function_declarator-returns-in_err-function-clause-says : goal.declarators::function_declarator-returns-in_err-function-clause-says
declarators::function_declarator-returns-in_err-function-clause-says t c =
    let is_error : c.from_residual-in_err-function.result ≡ Err c.in_err-function.field-0.0 = search rules in
    refused_says _ _ _ _ _ is_error (function_is (lexemes_of c.args.tokens.now) (ctx_of c.args.env.now) (map closure_of c.args.closures.now)
    (work_of c.args.work.now) c.args.at (typ_of c.args.ty.now) (tree_at (syntax_of c.args.nodes.now) c.args.id)
    (tree_at (syntax_of c.args.nodes.now) c.in-Three.kid) (tree_at (syntax_of c.args.nodes.now) c.in-Three.clause)
    (tree_at (syntax_of c.args.nodes.now) c.in-Three.behind) _ _ _ _ c.node_at.ensures.node c.requires.kind
    (ap (trees_at (syntax_of c.args.nodes.now)) (sym c.deref.ensures.value) ∙ c.in-Three.ensures.trees (syntax_of c.args.nodes.now)))
    (function_fault (lexemes_of c.args.tokens.now) (ctx_of c.args.env.now) (map closure_of c.args.closures.now) (work_of c.args.work.now) c.args.at
    (typ_of c.args.ty.now) (tree_at (syntax_of c.args.nodes.now) c.in-Three.kid) (tree_at (syntax_of c.args.nodes.now) c.in-Three.clause)
    (tree_at (syntax_of c.args.nodes.now) c.in-Three.behind) (map parameter_of c.in_ok-params.params.items)
    (qualifiers_of c.qualifiers_of-qualifiers.result) _ c.qualifiers_of-qualifiers.ensures c.in_ok-params.ensures.says
    (function_safe_fault (ctx_of c.args.env.now) c.args.at (typ_of c.args.ty.now) (map parameter_of c.in_ok-params.params.items) _ _
    (qualifiers_of c.qualifiers_of-qualifiers.result) _
    (ap (map parameter_of) c.deref-2.ensures.value) c.is_declared_safe.ensures c.in_err-function.ensures))

pub declarators::function_declarator-returns-in_err-params-clause-says : goal.declarators::function_declarator-returns-in_err-params-clause-says
declarators::function_declarator-returns-in_err-params-clause-says t c =
    let is_error : c.from_residual.result ≡ Err c.in_err-params.field-0.0 = search rules in
    refused_says _ _ _ _ _ is_error (function_is (lexemes_of c.args.tokens.now) (ctx_of c.args.env.now) (map closure_of c.args.closures.now)
    (work_of c.args.work.now) c.args.at (typ_of c.args.ty.now) (tree_at (syntax_of c.args.nodes.now) c.args.id)
    (tree_at (syntax_of c.args.nodes.now) c.in-Three.kid) (tree_at (syntax_of c.args.nodes.now) c.in-Three.clause)
    (tree_at (syntax_of c.args.nodes.now) c.in-Three.behind) _ _ _ _ c.node_at.ensures.node c.requires.kind
    (ap (trees_at (syntax_of c.args.nodes.now)) (sym c.deref.ensures.value) ∙ c.in-Three.ensures.trees (syntax_of c.args.nodes.now)))
    (clause_fault (lexemes_of c.args.tokens.now) (ctx_of c.args.env.now) (map closure_of c.args.closures.now) (work_of c.args.work.now) c.args.at
    (typ_of c.args.ty.now) (tree_at (syntax_of c.args.nodes.now) c.in-Three.kid) (tree_at (syntax_of c.args.nodes.now) c.in-Three.clause)
    (tree_at (syntax_of c.args.nodes.now) c.in-Three.behind) _ c.in_err-params.ensures.says)

pub declarators::function_declarator-returns-clause-kept : goal.declarators::function_declarator-returns-clause-kept
declarators::function_declarator-returns-clause-kept t c =
    unmoved_all c.with_function.result c.args.work.now c.declared.new.work
    (unmoved_trans c.args.work.now c.parameters.new.work c.declared.new.work c.in_ok-params.ensures.kept c.in_ok-found.ensures.kept)

pub declarators::parameter-returns-clause-says : goal.declarators::parameter-returns-clause-says
declarators::parameter-returns-clause-says t c =
    says_same parameter_of _ _ _ ((parameter_is (lexemes_of c.args.tokens.now) (ctx_of c.args.env.now) (map closure_of c.args.closures.now)
    (work_of c.args.work.now) (tree_at (syntax_of c.args.nodes.now) c.args.id) (tree_at (syntax_of c.args.nodes.now) c.in-Two.base)
    (tree_at (syntax_of c.args.nodes.now) c.in-Two.declarator) _ _ _ _ c.node_at-node.ensures.node
    (ap (trees_at (syntax_of c.args.nodes.now)) (sym c.deref.ensures.value) ∙ c.in-Two.ensures.trees (syntax_of c.args.nodes.now)))
    ∙ ap (λ z. parameter_by (lexemes_of c.args.tokens.now) (ctx_of c.args.env.now) (map closure_of c.args.closures.now) (work_of c.args.work.now) z
    (tree_at (syntax_of c.args.nodes.now) c.in-Two.base) (tree_at (syntax_of c.args.nodes.now) c.in-Two.declarator)) (sym c.place-at.ensures))
    (parameter_says parameter_of _ (lexemes_of c.args.tokens.now) (ctx_of c.args.env.now) (map closure_of c.args.closures.now) (work_of c.args.work.now) _ _
    (tree_at (syntax_of c.args.nodes.now) c.in-Two.base)
    (tree_at (syntax_of c.args.nodes.now) c.in-Two.declarator) _ _ c.in_ok-ty.ensures.kept.work c.in_ok-ty.ensures.says c.in_ok-found.ensures.says
    c.parameter_of.ensures)

pub declarators::parameter-returns-in_err-found-clause-says : goal.declarators::parameter-returns-in_err-found-clause-says
declarators::parameter-returns-in_err-found-clause-says t c =
    let is_error : c.from_residual-in_err-found.result ≡ Err c.in_err-found.field-0.0 = search rules in
    refused_says _ _ _ _ _ is_error ((parameter_is (lexemes_of c.args.tokens.now) (ctx_of c.args.env.now) (map closure_of c.args.closures.now)
    (work_of c.args.work.now) (tree_at (syntax_of c.args.nodes.now) c.args.id) (tree_at (syntax_of c.args.nodes.now) c.in-Two.base)
    (tree_at (syntax_of c.args.nodes.now) c.in-Two.declarator) _ _ _ _ c.node_at-node.ensures.node
    (ap (trees_at (syntax_of c.args.nodes.now)) (sym c.deref.ensures.value) ∙ c.in-Two.ensures.trees (syntax_of c.args.nodes.now)))
    ∙ ap (λ z. parameter_by (lexemes_of c.args.tokens.now) (ctx_of c.args.env.now) (map closure_of c.args.closures.now) (work_of c.args.work.now) z
    (tree_at (syntax_of c.args.nodes.now) c.in-Two.base) (tree_at (syntax_of c.args.nodes.now) c.in-Two.declarator)) (sym c.place-at.ensures))
    (parameter_declared_fault (lexemes_of c.args.tokens.now) (ctx_of c.args.env.now) (map closure_of c.args.closures.now) (work_of c.args.work.now) _ _
    (tree_at (syntax_of c.args.nodes.now) c.in-Two.base)
    (tree_at (syntax_of c.args.nodes.now) c.in-Two.declarator) _ _ c.in_ok-ty.ensures.kept.work c.in_ok-ty.ensures.says c.in_err-found.ensures.says)

pub declarators::parameter-returns-in_err-ty-clause-says : goal.declarators::parameter-returns-in_err-ty-clause-says
declarators::parameter-returns-in_err-ty-clause-says t c =
    let is_error : c.from_residual.result ≡ Err c.in_err-ty.field-0.0 = search rules in
    refused_says _ _ _ _ _ is_error ((parameter_is (lexemes_of c.args.tokens.now) (ctx_of c.args.env.now) (map closure_of c.args.closures.now)
    (work_of c.args.work.now) (tree_at (syntax_of c.args.nodes.now) c.args.id) (tree_at (syntax_of c.args.nodes.now) c.in-Two.base)
    (tree_at (syntax_of c.args.nodes.now) c.in-Two.declarator) _ _ _ _ c.node_at-node.ensures.node
    (ap (trees_at (syntax_of c.args.nodes.now)) (sym c.deref.ensures.value) ∙ c.in-Two.ensures.trees (syntax_of c.args.nodes.now)))
    ∙ ap (λ z. parameter_by (lexemes_of c.args.tokens.now) (ctx_of c.args.env.now) (map closure_of c.args.closures.now) (work_of c.args.work.now) z
    (tree_at (syntax_of c.args.nodes.now) c.in-Two.base) (tree_at (syntax_of c.args.nodes.now) c.in-Two.declarator)) (sym c.place-at.ensures))
    (parameter_base_fault (lexemes_of c.args.tokens.now) (ctx_of c.args.env.now) (map closure_of c.args.closures.now) (work_of c.args.work.now) _
    (tree_at (syntax_of c.args.nodes.now) c.in-Two.base) (tree_at (syntax_of c.args.nodes.now) c.in-Two.declarator) _ c.in_err-ty.ensures.says)

pub declarators::parameter-returns-clause-kept : goal.declarators::parameter-returns-clause-kept
declarators::parameter-returns-clause-kept t c =
    unmoved_all c.parameter_of.result c.args.work.now c.declared.new.work
    (unmoved_trans c.args.work.now c.type_of_specifiers.new.work c.declared.new.work c.in_ok-ty.ensures.kept c.in_ok-found.ensures.kept)

pub declarators::parameters-loop-kid-init : goal.declarators::parameters-loop-kid-init
declarators::parameters-loop-kid-init t c =
    let empty : map parameter_of c.new-found.result.items ≡ [] = search rules in
    record {
      read = (parameters_are (lexemes_of c.args.tokens.now) (ctx_of c.args.env.now) (map closure_of c.args.closures.now) (work_of c.args.work.now)
          (tree_at (syntax_of c.args.nodes.now) c.args.id) _ _ _ _ c.node_at-node.ensures.node)
          ∙ ap (λ z. parameters_with (lexemes_of c.args.tokens.now) (ctx_of c.args.env.now) (map closure_of c.args.closures.now) (work_of c.args.work.now)
          (trees_at (syntax_of c.args.nodes.now) z)) (sym c.deref-kid-items.ensures.value) ∙ after_start _ _ empty;
      kept = record { work = refl; nodes = refl };
    }

pub declarators::parameters-loop-kid-preserved : goal.declarators::parameters-loop-kid-preserved
declarators::parameters-loop-kid-preserved t c = record {
  read = next_parameter (lexemes_of c.args.tokens.now) (ctx_of c.args.env.now) (map closure_of c.args.closures.now)
      (work_of c.args.work.now) _ _ _ _ _ _ _ _ c.loop-kid.invariant.kept.work c.loop-kid.invariant.read
      (trees_step (syntax_of c.args.nodes.now) c.deref-kid-items.result.now c.loop-kid.kid-index
      (record { 0 = 0 }) c.loop-kid-test.true) c.in_ok-param.ensures.says (ap (map parameter_of) c.in_ok-keep_parameter.ensures ∙ map-append parameter_of _ _);
  kept = unmoved_trans c.args.work.now c.loop-kid.work c.parameter.new.work c.loop-kid.invariant.kept c.in_ok-param.ensures.kept;
}

pub declarators::parameters-returns-clause-says : goal.declarators::parameters-returns-clause-says
declarators::parameters-returns-clause-says t c =
    parameters_done (lexemes_of c.args.tokens.now) (ctx_of c.args.env.now) (map closure_of c.args.closures.now)
    (work_of c.args.work.now) _ _ _ c.loop-kid.invariant.read
    (trees_past (syntax_of c.args.nodes.now) c.deref-kid-items.result.now c.loop-kid.kid-index c.loop-kid-test.false)

pub declarators::parameters-returns-in_err-param-clause-says : goal.declarators::parameters-returns-in_err-param-clause-says
declarators::parameters-returns-in_err-param-clause-says t c =
    let is_error : c.from_residual.result ≡ Err c.in_err-param.field-0.0 = search rules in
    refused_says _ _ _ _ _ is_error refl (parameter_fault (lexemes_of c.args.tokens.now) (ctx_of c.args.env.now) (map closure_of c.args.closures.now)
    (work_of c.args.work.now) _ _ _ _ _ _ _ c.loop-kid.invariant.kept.work c.loop-kid.invariant.read
    (trees_step (syntax_of c.args.nodes.now) c.deref-kid-items.result.now c.loop-kid.kid-index
    (record { 0 = 0 }) c.loop-kid-test.true) c.in_err-param.ensures.says)

pub declarators::parameters-returns-clause-kept : goal.declarators::parameters-returns-clause-kept
declarators::parameters-returns-clause-kept t c = c.loop-kid.invariant.kept

pub declarators::parenthesized_declarator-returns-clause-says : goal.declarators::parenthesized_declarator-returns-clause-says
declarators::parenthesized_declarator-returns-clause-says t c =
    says_same declared_of _ _ _ (enclosed_is (lexemes_of c.args.tokens.now) (ctx_of c.args.env.now) (map closure_of c.args.closures.now)
    (work_of c.args.work.now) c.args.at (typ_of c.args.ty.now) (tree_at (syntax_of c.args.nodes.now) c.args.id)
    (tree_at (syntax_of c.args.nodes.now) c.in-One.kid) _ _ _ _ c.node_at.ensures.node c.requires.kind
    (ap (trees_at (syntax_of c.args.nodes.now)) (sym c.deref.ensures.value) ∙ c.in-One.ensures.trees (syntax_of c.args.nodes.now))) c.declared.ensures.says

pub declarators::pointer_declarator-all_qualified-requires : goal.declarators::pointer_declarator-all_qualified-requires
declarators::pointer_declarator-all_qualified-requires t c =
    below_take (length c.args.nodes.now) (c.len.result - 1) c.deref-2.result.now
    (subst (λ z. are_below (length c.args.nodes.now) z ≡ true) (sym c.deref-2.ensures.value)
    (wider c.args.id.0 (length c.args.nodes.now) c.node_at.result.now.kids.items c.requires.within c.node_at.ensures.lower))

pub declarators::pointer_declarator-returns-clause-says : goal.declarators::pointer_declarator-returns-clause-says
declarators::pointer_declarator-returns-clause-says t c =
    says_same declared_of _ _ _ ((pointer_is (lexemes_of c.args.tokens.now) (ctx_of c.args.env.now) (map closure_of c.args.closures.now)
    (work_of c.args.work.now) c.args.at (typ_of c.args.ty.now)
    (tree_at (syntax_of c.args.nodes.now) c.args.id) _ _ _ _ c.node_at.ensures.node c.requires.kind)
    ∙ pointer_made (lexemes_of c.args.tokens.now) (ctx_of c.args.env.now) (map closure_of c.args.closures.now) (work_of c.args.work.now) c.args.at
    (typ_of c.args.ty.now) _ _ (syntax_of c.args.nodes.now) _ _ c.in-Some.kid
    (last_is c.node_at.result.now.kids.items c.deref.result.now c.deref-2.result.now c.len.result c.in-Some.kid c.deref.ensures.value
    c.deref-2.ensures.value (c.len.ensures ∙ vec_len_is c.node_at.result.now.kids) c.in-Some.ensures.kid) c.in_ok-plain.ensures c.in_ok-pointer.ensures.are
    c.in_ok-pointer.ensures.typ) c.declared.ensures.says

pub declarators::reference_declarator-returns-clause-says : goal.declarators::reference_declarator-returns-clause-says
declarators::reference_declarator-returns-clause-says t c =
    says_same declared_of _ _ _ ((reference_is (lexemes_of c.args.tokens.now) (ctx_of c.args.env.now) (map closure_of c.args.closures.now)
    (work_of c.args.work.now) c.args.at (typ_of c.args.ty.now) (tree_at (syntax_of c.args.nodes.now) c.args.id)
    (tree_at (syntax_of c.args.nodes.now) c.in-One.kid) _ _ _ _ c.node_at.ensures.node c.requires.kind
    (ap (trees_at (syntax_of c.args.nodes.now)) (sym c.deref.ensures.value) ∙ c.in-One.ensures.trees (syntax_of c.args.nodes.now)))
    ∙ reference_made (lexemes_of c.args.tokens.now) (ctx_of c.args.env.now) (map closure_of c.args.closures.now) (work_of c.args.work.now) c.args.at
    (typ_of c.args.ty.now) _ (tree_at (syntax_of c.args.nodes.now) c.in-One.kid) c.in_ok-reference.ensures) c.declared.ensures.says

pub declarators::specified-returns-clause-kept : goal.declarators::specified-returns-clause-kept
declarators::specified-returns-clause-kept t c = unmoved_self c.simple_specified.result c.args.work.now

pub declarators::type_id-returns-clause-says : goal.declarators::type_id-returns-clause-says
declarators::type_id-returns-clause-says t c =
    ((type_id_is (lexemes_of c.args.tokens.now) (ctx_of c.args.env.now) (map closure_of c.args.closures.now) (work_of c.args.work.now)
    (tree_at (syntax_of c.args.nodes.now) c.args.id) (tree_at (syntax_of c.args.nodes.now) c.in-Two.base)
    (tree_at (syntax_of c.args.nodes.now) c.in-Two.declarator) _ _ _ _ c.node_at-node.ensures.node
    (ap (trees_at (syntax_of c.args.nodes.now)) (sym c.deref.ensures.value) ∙ c.in-Two.ensures.trees (syntax_of c.args.nodes.now)))
    ∙ ap (λ z. type_by (lexemes_of c.args.tokens.now) (ctx_of c.args.env.now) (map closure_of c.args.closures.now) (work_of c.args.work.now) z
    (tree_at (syntax_of c.args.nodes.now) c.in-Two.base) (tree_at (syntax_of c.args.nodes.now) c.in-Two.declarator)) (sym c.place.ensures))
    ∙ type_made (lexemes_of c.args.tokens.now) (ctx_of c.args.env.now) (map closure_of c.args.closures.now) (work_of c.args.work.now) _ _
    (tree_at (syntax_of c.args.nodes.now) c.in-Two.base)
    (tree_at (syntax_of c.args.nodes.now) c.in-Two.declarator) _ _ c.in_ok-ty.ensures.kept.work c.in_ok-ty.ensures.says c.in_ok-found.ensures.says

pub declarators::type_id-returns-in_err-found-clause-says : goal.declarators::type_id-returns-in_err-found-clause-says
declarators::type_id-returns-in_err-found-clause-says t c =
    let is_error : c.from_residual-in_err-found.result ≡ Err c.in_err-found.field-0.0 = search rules in
    refused_says _ _ _ _ _ is_error ((type_id_is (lexemes_of c.args.tokens.now) (ctx_of c.args.env.now) (map closure_of c.args.closures.now)
    (work_of c.args.work.now) (tree_at (syntax_of c.args.nodes.now) c.args.id) (tree_at (syntax_of c.args.nodes.now) c.in-Two.base)
    (tree_at (syntax_of c.args.nodes.now) c.in-Two.declarator) _ _ _ _ c.node_at-node.ensures.node
    (ap (trees_at (syntax_of c.args.nodes.now)) (sym c.deref.ensures.value) ∙ c.in-Two.ensures.trees (syntax_of c.args.nodes.now)))
    ∙ ap (λ z. type_by (lexemes_of c.args.tokens.now) (ctx_of c.args.env.now) (map closure_of c.args.closures.now) (work_of c.args.work.now) z
    (tree_at (syntax_of c.args.nodes.now) c.in-Two.base) (tree_at (syntax_of c.args.nodes.now) c.in-Two.declarator)) (sym c.place.ensures))
    (type_declared_fault (lexemes_of c.args.tokens.now) (ctx_of c.args.env.now) (map closure_of c.args.closures.now) (work_of c.args.work.now) _ _
    (tree_at (syntax_of c.args.nodes.now) c.in-Two.base)
    (tree_at (syntax_of c.args.nodes.now) c.in-Two.declarator) _ _ c.in_ok-ty.ensures.kept.work c.in_ok-ty.ensures.says c.in_err-found.ensures.says)

pub declarators::type_id-returns-in_err-ty-clause-says : goal.declarators::type_id-returns-in_err-ty-clause-says
declarators::type_id-returns-in_err-ty-clause-says t c =
    let is_error : c.from_residual.result ≡ Err c.in_err-ty.field-0.0 = search rules in
    refused_says _ _ _ _ _ is_error (type_id_is (lexemes_of c.args.tokens.now) (ctx_of c.args.env.now) (map closure_of c.args.closures.now)
    (work_of c.args.work.now) (tree_at (syntax_of c.args.nodes.now) c.args.id) (tree_at (syntax_of c.args.nodes.now) c.in-Two.base)
    (tree_at (syntax_of c.args.nodes.now) c.in-Two.declarator) _ _ _ _ c.node_at-node.ensures.node
    (ap (trees_at (syntax_of c.args.nodes.now)) (sym c.deref.ensures.value) ∙ c.in-Two.ensures.trees (syntax_of c.args.nodes.now)))
    (type_base_fault (lexemes_of c.args.tokens.now) (ctx_of c.args.env.now) (map closure_of c.args.closures.now) (work_of c.args.work.now) _
    (tree_at (syntax_of c.args.nodes.now) c.in-Two.base) (tree_at (syntax_of c.args.nodes.now) c.in-Two.declarator) _ c.in_err-ty.ensures.says)

pub declarators::type_id-returns-clause-kept : goal.declarators::type_id-returns-clause-kept
declarators::type_id-returns-clause-kept t c =
    unmoved_trans c.args.work.now c.type_of_specifiers.new.work c.declared.new.work c.in_ok-ty.ensures.kept c.in_ok-found.ensures.kept

pub declarators::type_of_specifiers-loop-kid-init : goal.declarators::type_of_specifiers-loop-kid-init
declarators::type_of_specifiers-loop-kid-init t c = record {
  read = ap (λ z. all_specified_with (lexemes_of c.args.tokens.now) (ctx_of c.args.env.now) (map closure_of c.args.closures.now) (work_of c.args.work.now) z
      (trees_at (syntax_of c.args.nodes.now) c.node_at-node.result.now.kids.items)) (sym (c.no_specifiers-specifiers.ensures (lexemes_of c.args.tokens.now)))
      ∙ ap (λ z. all_specified_with (lexemes_of c.args.tokens.now) (ctx_of c.args.env.now) (map closure_of c.args.closures.now) (work_of c.args.work.now)
      (specifiers_of (lexemes_of c.args.tokens.now) c.no_specifiers-specifiers.result) (trees_at (syntax_of c.args.nodes.now) z))
      (sym c.deref-kid-items.ensures.value);
  kept = record { work = refl; nodes = refl };
}

pub declarators::type_of_specifiers-loop-kid-preserved : goal.declarators::type_of_specifiers-loop-kid-preserved
declarators::type_of_specifiers-loop-kid-preserved t c = record {
  read = next_specified (lexemes_of c.args.tokens.now) (ctx_of c.args.env.now) (map closure_of c.args.closures.now) (work_of c.args.work.now) _ _ _ _ _ _ _
      c.loop-kid.invariant.kept.work c.loop-kid.invariant.read
      (trees_step (syntax_of c.args.nodes.now) c.deref-kid-items.result.now c.loop-kid.kid-index
      (record { 0 = 0 }) c.loop-kid-test.true) c.in_ok-specifiers.ensures.says;
  kept = unmoved_trans c.args.work.now c.loop-kid.work c.specified.new.work c.loop-kid.invariant.kept c.in_ok-specifiers.ensures.kept;
}

pub declarators::type_of_specifiers-returns-clause-says : goal.declarators::type_of_specifiers-returns-clause-says
declarators::type_of_specifiers-returns-clause-says t c =
    says_same typ_of _ _ _ (specifiers_are (lexemes_of c.args.tokens.now) (ctx_of c.args.env.now) (map closure_of c.args.closures.now)
    (work_of c.args.work.now) (tree_at (syntax_of c.args.nodes.now) c.args.id) _ _ _ _ c.node_at-node.ensures.node
    ∙ specifiers_done (lexemes_of c.args.tokens.now) (ctx_of c.args.env.now) (map closure_of c.args.closures.now) (work_of c.args.work.now)
    (at_of c.node_at-node.result.now.at) (specifiers_of (lexemes_of c.args.tokens.now) c.loop-kid.specifiers)
    (trees_at (syntax_of c.args.nodes.now) (drop c.loop-kid.kid-index c.deref-kid-items.result.now))
    (trees_at (syntax_of c.args.nodes.now) c.node_at-node.result.now.kids.items) c.loop-kid.invariant.read
    (trees_past (syntax_of c.args.nodes.now) c.deref-kid-items.result.now c.loop-kid.kid-index c.loop-kid-test.false)
    ∙ ap (λ z. specified_type z (specifiers_of (lexemes_of c.args.tokens.now) c.loop-kid.specifiers)) (sym c.place.ensures)) c.specified_type.ensures

pub declarators::type_of_specifiers-returns-clause-kept : goal.declarators::type_of_specifiers-returns-clause-kept
declarators::type_of_specifiers-returns-clause-kept t c =
    unmoved_all c.specified_type.result c.args.work.now c.loop-kid.work c.loop-kid.invariant.kept

pub declarators::type_of_specifiers-returns-in_err-specifiers-clause-says : goal.declarators::type_of_specifiers-returns-in_err-specifiers-clause-says
declarators::type_of_specifiers-returns-in_err-specifiers-clause-says t c =
    let is_error : c.from_residual.result ≡ Err c.in_err-specifiers.field-0.0 = search rules in
    refused_says _ _ _ _ _ is_error (specifiers_are (lexemes_of c.args.tokens.now) (ctx_of c.args.env.now) (map closure_of c.args.closures.now)
    (work_of c.args.work.now) (tree_at (syntax_of c.args.nodes.now) c.args.id) _ _ _ _ c.node_at-node.ensures.node)
    (specified_fault (lexemes_of c.args.tokens.now) (ctx_of c.args.env.now) (map closure_of c.args.closures.now) (work_of c.args.work.now)
    _ (at_of c.node_at-node.result.now.at) _ _ _ _ (trees_at (syntax_of c.args.nodes.now) c.node_at-node.result.now.kids.items) _
    c.loop-kid.invariant.kept.work c.loop-kid.invariant.read
    (trees_step (syntax_of c.args.nodes.now) c.deref-kid-items.result.now c.loop-kid.kid-index
    (record { 0 = 0 }) c.loop-kid-test.true) c.in_err-specifiers.ensures.says)

pub expressions::called-returns : goal.expressions::called-returns
expressions::called-returns t c =
    types_same (trees_of c.args.work.now.nodes.items) _ _ _ _ _
    ((call_is (lexemes_of c.args.tokens.now) (ctx_of c.args.env.now) (map closure_of c.args.closures.now) (work_of c.args.work.now)
    (tree_at (syntax_of c.args.nodes.now) c.args.id) (tree_at (syntax_of c.args.nodes.now) c.in-Some.kid)
    (trees_at (syntax_of c.args.nodes.now) (drop 1 c.deref.result.now)) _ _ _ _ c.node_at-node.ensures.node c.requires.kind
    (ap (trees_at (syntax_of c.args.nodes.now)) (sym c.deref.ensures.value ∙ c.in-Some.ensures.kid))
    ∙ ap (λ z. call_row_of (lexemes_of c.args.tokens.now) (ctx_of c.args.env.now) (map closure_of c.args.closures.now) (work_of c.args.work.now)
    (at_of c.node_at-node.result.now.at) (tree_at (syntax_of c.args.nodes.now) c.in-Some.kid) (trees_at (syntax_of c.args.nodes.now) z))
    (rest_from c.deref.result.now c.deref-2.result.now _ c.deref.ensures.value c.deref-2.ensures.value))
    ∙ ap (λ z. call_row_of (lexemes_of c.args.tokens.now) (ctx_of c.args.env.now) (map closure_of c.args.closures.now) (work_of c.args.work.now) z
    (tree_at (syntax_of c.args.nodes.now) c.in-Some.kid)
    (trees_at (syntax_of c.args.nodes.now) (take (length c.deref-2.result.now - 1) (drop 1 c.deref-2.result.now)))) (sym c.place.ensures))
    (call_typed (lexemes_of c.args.tokens.now) (ctx_of c.args.env.now) (map closure_of c.args.closures.now) (work_of c.args.work.now) _ _ _ _
    (tree_at (syntax_of c.args.nodes.now) c.in-Some.kid)
    (trees_at (syntax_of c.args.nodes.now) (take (length c.deref-2.result.now - 1) (drop 1 c.deref-2.result.now)))
    (trees_of c.args.work.now.nodes.items) _ _ _ _ _ _ c.in_ok-callee.ensures c.in_ok-arguments.ensures (rw c.deref-3.ensures.value at c.call_row.ensures))

pub expressions::called-returns-in_err-arguments : goal.expressions::called-returns-in_err-arguments
expressions::called-returns-in_err-arguments t c =
    let is_error : c.from_residual-in_err-arguments.result ≡ Err c.in_err-arguments.field-0.0 = search rules in
    refused_typed _ _ _ _ _ _ _ is_error (call_is (lexemes_of c.args.tokens.now) (ctx_of c.args.env.now) (map closure_of c.args.closures.now)
    (work_of c.args.work.now) (tree_at (syntax_of c.args.nodes.now) c.args.id) (tree_at (syntax_of c.args.nodes.now) c.in-Some.kid)
    (trees_at (syntax_of c.args.nodes.now) (drop 1 c.deref.result.now)) _ _ _ _ c.node_at-node.ensures.node c.requires.kind
    (ap (trees_at (syntax_of c.args.nodes.now)) (sym c.deref.ensures.value ∙ c.in-Some.ensures.kid))
    ∙ ap (λ z. call_row_of (lexemes_of c.args.tokens.now) (ctx_of c.args.env.now) (map closure_of c.args.closures.now) (work_of c.args.work.now)
    (at_of c.node_at-node.result.now.at) (tree_at (syntax_of c.args.nodes.now) c.in-Some.kid) (trees_at (syntax_of c.args.nodes.now) z))
    (rest_from c.deref.result.now c.deref-2.result.now _ c.deref.ensures.value c.deref-2.ensures.value))
    (argument_fault (lexemes_of c.args.tokens.now) (ctx_of c.args.env.now) (map closure_of c.args.closures.now) (work_of c.args.work.now) _ _
    (tree_at (syntax_of c.args.nodes.now) c.in-Some.kid)
    (trees_at (syntax_of c.args.nodes.now) (take (length c.deref-2.result.now - 1)
    (drop 1 c.deref-2.result.now))) _ _ _ _ c.in_ok-callee.ensures c.in_err-arguments.ensures)

pub expressions::called-returns-in_err-callee : goal.expressions::called-returns-in_err-callee
expressions::called-returns-in_err-callee t c =
    let is_error : c.from_residual.result ≡ Err c.in_err-callee.field-0.0 = search rules in
    refused_typed _ _ _ _ _ _ _ is_error (call_is (lexemes_of c.args.tokens.now) (ctx_of c.args.env.now) (map closure_of c.args.closures.now)
    (work_of c.args.work.now) (tree_at (syntax_of c.args.nodes.now) c.args.id) (tree_at (syntax_of c.args.nodes.now) c.in-Some.kid)
    (trees_at (syntax_of c.args.nodes.now) (drop 1 c.deref.result.now)) _ _ _ _ c.node_at-node.ensures.node c.requires.kind
    (ap (trees_at (syntax_of c.args.nodes.now)) (sym c.deref.ensures.value ∙ c.in-Some.ensures.kid)))
    (callee_fault (lexemes_of c.args.tokens.now) (ctx_of c.args.env.now) (map closure_of c.args.closures.now) (work_of c.args.work.now) _
    (tree_at (syntax_of c.args.nodes.now) c.in-Some.kid) (trees_at (syntax_of c.args.nodes.now) (drop 1 c.deref.result.now)) _ c.in_err-callee.ensures)

pub expressions::casted-returns : goal.expressions::casted-returns
expressions::casted-returns t c =
    types_same (trees_of c.args.work.now.nodes.items) _ _ _ _ _
    ((cast_is (lexemes_of c.args.tokens.now) (ctx_of c.args.env.now) (map closure_of c.args.closures.now) (work_of c.args.work.now)
    (tree_at (syntax_of c.args.nodes.now) c.args.id) (tree_at (syntax_of c.args.nodes.now) c.in-Two.first)
    (tree_at (syntax_of c.args.nodes.now) c.in-Two.second) _ _ _ _ c.node_at-node.ensures.node c.requires.kind
    (ap (trees_at (syntax_of c.args.nodes.now)) (sym c.deref.ensures.value) ∙ c.in-Two.ensures.trees (syntax_of c.args.nodes.now)))
    ∙ ap (λ z. cast_row_of (lexemes_of c.args.tokens.now) (ctx_of c.args.env.now) (map closure_of c.args.closures.now) (work_of c.args.work.now) z
    (tree_at (syntax_of c.args.nodes.now) c.in-Two.first) (tree_at (syntax_of c.args.nodes.now) c.in-Two.second)) (sym c.place-at.ensures))
    (cast_typed (lexemes_of c.args.tokens.now) (ctx_of c.args.env.now) (map closure_of c.args.closures.now) (work_of c.args.work.now) _ _ _ _
    (tree_at (syntax_of c.args.nodes.now) c.in-Two.first) (tree_at (syntax_of c.args.nodes.now) c.in-Two.second) _
    (trees_of c.args.work.now.nodes.items) _ _ _ _ _ c.in_ok-ty.ensures.kept.work
    (unmoved_trees c.args.work.now c.written_type_id.new.work c.in_ok-ty.ensures.kept) c.in_ok-ty.ensures.says c.in_ok-value.ensures c.cast_row.ensures)

pub expressions::casted-returns-in_err-ty : goal.expressions::casted-returns-in_err-ty
expressions::casted-returns-in_err-ty t c =
    let is_error : c.from_residual.result ≡ Err c.in_err-ty.field-0.0 = search rules in
    refused_typed _ _ _ _ _ _ _ is_error ((cast_is (lexemes_of c.args.tokens.now) (ctx_of c.args.env.now) (map closure_of c.args.closures.now)
    (work_of c.args.work.now) (tree_at (syntax_of c.args.nodes.now) c.args.id) (tree_at (syntax_of c.args.nodes.now) c.in-Two.first)
    (tree_at (syntax_of c.args.nodes.now) c.in-Two.second) _ _ _ _ c.node_at-node.ensures.node c.requires.kind
    (ap (trees_at (syntax_of c.args.nodes.now)) (sym c.deref.ensures.value) ∙ c.in-Two.ensures.trees (syntax_of c.args.nodes.now)))
    ∙ ap (λ z. cast_row_of (lexemes_of c.args.tokens.now) (ctx_of c.args.env.now) (map closure_of c.args.closures.now) (work_of c.args.work.now) z
    (tree_at (syntax_of c.args.nodes.now) c.in-Two.first) (tree_at (syntax_of c.args.nodes.now) c.in-Two.second)) (sym c.place-at.ensures))
    (cast_type_fault (lexemes_of c.args.tokens.now) (ctx_of c.args.env.now) (map closure_of c.args.closures.now) (work_of c.args.work.now) _
    (tree_at (syntax_of c.args.nodes.now) c.in-Two.first) (tree_at (syntax_of c.args.nodes.now) c.in-Two.second) _ c.in_err-ty.ensures.says)

pub expressions::casted-returns-in_err-value : goal.expressions::casted-returns-in_err-value
expressions::casted-returns-in_err-value t c =
    let is_error : c.from_residual-in_err-value.result ≡ Err c.in_err-value.field-0.0 = search rules in
    refused_typed _ _ _ _ _ _ _ is_error ((cast_is (lexemes_of c.args.tokens.now) (ctx_of c.args.env.now) (map closure_of c.args.closures.now)
    (work_of c.args.work.now) (tree_at (syntax_of c.args.nodes.now) c.args.id) (tree_at (syntax_of c.args.nodes.now) c.in-Two.first)
    (tree_at (syntax_of c.args.nodes.now) c.in-Two.second) _ _ _ _ c.node_at-node.ensures.node c.requires.kind
    (ap (trees_at (syntax_of c.args.nodes.now)) (sym c.deref.ensures.value) ∙ c.in-Two.ensures.trees (syntax_of c.args.nodes.now)))
    ∙ ap (λ z. cast_row_of (lexemes_of c.args.tokens.now) (ctx_of c.args.env.now) (map closure_of c.args.closures.now) (work_of c.args.work.now) z
    (tree_at (syntax_of c.args.nodes.now) c.in-Two.first) (tree_at (syntax_of c.args.nodes.now) c.in-Two.second)) (sym c.place-at.ensures))
    (cast_value_fault (lexemes_of c.args.tokens.now) (ctx_of c.args.env.now) (map closure_of c.args.closures.now) (work_of c.args.work.now) _ _
    (tree_at (syntax_of c.args.nodes.now) c.in-Two.first)
    (tree_at (syntax_of c.args.nodes.now) c.in-Two.second) _ _ c.in_ok-ty.ensures.kept.work c.in_ok-ty.ensures.says c.in_err-value.ensures)

pub expressions::functional_cast-returns : goal.expressions::functional_cast-returns
expressions::functional_cast-returns t c =
    types_same (trees_of c.args.work.now.nodes.items) _ _ _ _ _
    ((functional_is (lexemes_of c.args.tokens.now) (ctx_of c.args.env.now) (map closure_of c.args.closures.now) (work_of c.args.work.now)
    (tree_at (syntax_of c.args.nodes.now) c.args.id) (tree_at (syntax_of c.args.nodes.now) c.in-Some.kid)
    (trees_at (syntax_of c.args.nodes.now) (drop 1 c.deref.result.now)) _ _ _ _ c.node_at-node.ensures.node c.requires.kind
    (ap (trees_at (syntax_of c.args.nodes.now)) (sym c.deref.ensures.value ∙ c.in-Some.ensures.kid))
    ∙ ap (λ z. functional_row_of (lexemes_of c.args.tokens.now) (ctx_of c.args.env.now) (map closure_of c.args.closures.now) (work_of c.args.work.now)
    (at_of c.node_at-node.result.now.at) (tree_at (syntax_of c.args.nodes.now) c.in-Some.kid) (trees_at (syntax_of c.args.nodes.now) z))
    (rest_from c.deref.result.now c.deref-2.result.now _ c.deref.ensures.value c.deref-2.ensures.value))
    ∙ ap (λ z. functional_row_of (lexemes_of c.args.tokens.now) (ctx_of c.args.env.now) (map closure_of c.args.closures.now) (work_of c.args.work.now) z
    (tree_at (syntax_of c.args.nodes.now) c.in-Some.kid)
    (trees_at (syntax_of c.args.nodes.now) (take (length c.deref-2.result.now - 1) (drop 1 c.deref-2.result.now)))) (sym c.place-at.ensures))
    (functional_typed (lexemes_of c.args.tokens.now) (ctx_of c.args.env.now) (map closure_of c.args.closures.now) (work_of c.args.work.now) _ _ _ _
    (tree_at (syntax_of c.args.nodes.now) c.in-Some.kid)
    (trees_at (syntax_of c.args.nodes.now) (take (length c.deref-2.result.now - 1) (drop 1 c.deref-2.result.now))) _ _
    (trees_of c.args.work.now.nodes.items) _ _ _ _ _ c.in_ok-base.ensures.kept.work
    (unmoved_trees c.args.work.now c.specified.new.work c.in_ok-base.ensures.kept)
    (subst (λ z. specified_with (lexemes_of c.args.tokens.now) (ctx_of c.args.env.now) (map closure_of c.args.closures.now) (work_of c.args.work.now) z
    (tree_at (syntax_of c.args.nodes.now) c.in-Some.kid) ≡ Ok (specifiers_of (lexemes_of c.args.tokens.now) c.in_ok-base.base))
    (c.no_specifiers.ensures (lexemes_of c.args.tokens.now)) c.in_ok-base.ensures.says) c.in_ok-ty.ensures c.in_ok-values.ensures
    (rw c.deref-3.ensures.value at c.functional_row.ensures))

pub expressions::functional_cast-returns-in_err-base : goal.expressions::functional_cast-returns-in_err-base
expressions::functional_cast-returns-in_err-base t c =
    let is_error : c.from_residual.result ≡ Err c.in_err-base.field-0.0 = search rules in
    refused_typed _ _ _ _ _ _ _ is_error (functional_is (lexemes_of c.args.tokens.now) (ctx_of c.args.env.now) (map closure_of c.args.closures.now)
    (work_of c.args.work.now) (tree_at (syntax_of c.args.nodes.now) c.args.id) (tree_at (syntax_of c.args.nodes.now) c.in-Some.kid)
    (trees_at (syntax_of c.args.nodes.now) (drop 1 c.deref.result.now)) _ _ _ _ c.node_at-node.ensures.node c.requires.kind
    (ap (trees_at (syntax_of c.args.nodes.now)) (sym c.deref.ensures.value ∙ c.in-Some.ensures.kid)))
    (base_fault (lexemes_of c.args.tokens.now) (ctx_of c.args.env.now) (map closure_of c.args.closures.now) (work_of c.args.work.now) _
    (tree_at (syntax_of c.args.nodes.now) c.in-Some.kid) (trees_at (syntax_of c.args.nodes.now) (drop 1 c.deref.result.now)) _
    (subst (λ z. Faults c.in_err-base.field-0.0 (specified_with (lexemes_of c.args.tokens.now) (ctx_of c.args.env.now) (map closure_of c.args.closures.now)
    (work_of c.args.work.now) z (tree_at (syntax_of c.args.nodes.now) c.in-Some.kid)))
    (c.no_specifiers.ensures (lexemes_of c.args.tokens.now)) c.in_err-base.ensures.says))

pub expressions::functional_cast-returns-in_err-ty : goal.expressions::functional_cast-returns-in_err-ty
expressions::functional_cast-returns-in_err-ty t c =
    let is_error : c.from_residual-in_err-ty.result ≡ Err c.in_err-ty.field-0.0 = search rules in
    refused_typed _ _ _ _ _ _ _ is_error ((functional_is (lexemes_of c.args.tokens.now) (ctx_of c.args.env.now) (map closure_of c.args.closures.now)
    (work_of c.args.work.now) (tree_at (syntax_of c.args.nodes.now) c.args.id) (tree_at (syntax_of c.args.nodes.now) c.in-Some.kid)
    (trees_at (syntax_of c.args.nodes.now) (drop 1 c.deref.result.now)) _ _ _ _ c.node_at-node.ensures.node c.requires.kind
    (ap (trees_at (syntax_of c.args.nodes.now)) (sym c.deref.ensures.value ∙ c.in-Some.ensures.kid)))
    ∙ ap (λ z. functional_row_of (lexemes_of c.args.tokens.now) (ctx_of c.args.env.now) (map closure_of c.args.closures.now) (work_of c.args.work.now) z
    (tree_at (syntax_of c.args.nodes.now) c.in-Some.kid) (trees_at (syntax_of c.args.nodes.now) (drop 1 c.deref.result.now))) (sym c.place-at.ensures))
    (made_type_fault (lexemes_of c.args.tokens.now) (ctx_of c.args.env.now) (map closure_of c.args.closures.now) (work_of c.args.work.now) _
    (tree_at (syntax_of c.args.nodes.now) c.in-Some.kid) (trees_at (syntax_of c.args.nodes.now) (drop 1 c.deref.result.now)) _ _
    (subst (λ z. specified_with (lexemes_of c.args.tokens.now) (ctx_of c.args.env.now) (map closure_of c.args.closures.now) (work_of c.args.work.now) z
    (tree_at (syntax_of c.args.nodes.now) c.in-Some.kid) ≡ Ok (specifiers_of (lexemes_of c.args.tokens.now) c.in_ok-base.base))
    (c.no_specifiers.ensures (lexemes_of c.args.tokens.now)) c.in_ok-base.ensures.says) c.in_err-ty.ensures)

pub expressions::functional_cast-returns-in_err-values : goal.expressions::functional_cast-returns-in_err-values
expressions::functional_cast-returns-in_err-values t c =
    let is_error : c.from_residual-in_err-values.result ≡ Err c.in_err-values.field-0.0 = search rules in
    refused_typed _ _ _ _ _ _ _ is_error ((functional_is (lexemes_of c.args.tokens.now) (ctx_of c.args.env.now) (map closure_of c.args.closures.now)
    (work_of c.args.work.now) (tree_at (syntax_of c.args.nodes.now) c.args.id) (tree_at (syntax_of c.args.nodes.now) c.in-Some.kid)
    (trees_at (syntax_of c.args.nodes.now) (drop 1 c.deref.result.now)) _ _ _ _ c.node_at-node.ensures.node c.requires.kind
    (ap (trees_at (syntax_of c.args.nodes.now)) (sym c.deref.ensures.value ∙ c.in-Some.ensures.kid))
    ∙ ap (λ z. functional_row_of (lexemes_of c.args.tokens.now) (ctx_of c.args.env.now) (map closure_of c.args.closures.now) (work_of c.args.work.now)
    (at_of c.node_at-node.result.now.at) (tree_at (syntax_of c.args.nodes.now) c.in-Some.kid) (trees_at (syntax_of c.args.nodes.now) z))
    (rest_from c.deref.result.now c.deref-2.result.now _ c.deref.ensures.value c.deref-2.ensures.value))
    ∙ ap (λ z. functional_row_of (lexemes_of c.args.tokens.now) (ctx_of c.args.env.now) (map closure_of c.args.closures.now) (work_of c.args.work.now) z
    (tree_at (syntax_of c.args.nodes.now) c.in-Some.kid)
    (trees_at (syntax_of c.args.nodes.now) (take (length c.deref-2.result.now - 1) (drop 1 c.deref-2.result.now)))) (sym c.place-at.ensures))
    (value_fault (lexemes_of c.args.tokens.now) (ctx_of c.args.env.now) (map closure_of c.args.closures.now) (work_of c.args.work.now) _ _
    (tree_at (syntax_of c.args.nodes.now) c.in-Some.kid)
    (trees_at (syntax_of c.args.nodes.now) (take (length c.deref-2.result.now - 1) (drop 1 c.deref-2.result.now))) _ _ _ c.in_ok-base.ensures.kept.work
    (subst (λ z. specified_with (lexemes_of c.args.tokens.now) (ctx_of c.args.env.now) (map closure_of c.args.closures.now) (work_of c.args.work.now) z
    (tree_at (syntax_of c.args.nodes.now) c.in-Some.kid) ≡ Ok (specifiers_of (lexemes_of c.args.tokens.now) c.in_ok-base.base))
    (c.no_specifiers.ensures (lexemes_of c.args.tokens.now)) c.in_ok-base.ensures.says) c.in_ok-ty.ensures c.in_err-values.ensures)

pub expressions::operands-loop-id-preserved : goal.expressions::operands-loop-id-preserved
expressions::operands-loop-id-preserved t c =
    so_far_one (lexemes_of c.args.tokens.now) (ctx_of c.args.env.now) (map closure_of c.args.closures.now)
    (trees_of c.args.work.now.nodes.items) _ _ _ _ _ _ _ _ _ _ _ c.loop-id.invariant
    (trees_step (syntax_of c.args.nodes.now) c.args.ids.now c.loop-id.id-index
    (record { 0 = 0 }) c.loop-id-test.true) c.in_ok-operand.ensures c.in_ok-keep_operand.ensures

pub expressions::over_operands-returns : goal.expressions::over_operands-returns
expressions::over_operands-returns t c =
    types_same (trees_of c.args.work.now.nodes.items) _ _ _ _ _
    (many_is (lexemes_of c.args.tokens.now) (ctx_of c.args.env.now) (map closure_of c.args.closures.now) (work_of c.args.work.now)
    (tree_at (syntax_of c.args.nodes.now) c.args.id) _ _ _
    (syntax_of c.args.nodes.now) _ c.in-Some.token c.node_at-node.ensures.node c.requires.over c.in-Some.is
    (some_kids c.node_at-node.result.now.kids (sym c.is_empty.ensures ∙ c.if-is_empty.false))
    ∙ ap (λ z. over_row (lexemes_of c.args.tokens.now) (ctx_of c.args.env.now) (map closure_of c.args.closures.now)
    (work_of c.args.work.now) c.node_at-node.result.now.kind z c.in-Some.token (trees_at (syntax_of c.args.nodes.now) c.node_at-node.result.now.kids.items))
    (sym c.place-at.ensures) ∙ ap (λ z. over_row (lexemes_of c.args.tokens.now) (ctx_of c.args.env.now) (map closure_of c.args.closures.now)
    (work_of c.args.work.now) c.node_at-node.result.now.kind c.place-at.result c.in-Some.token (trees_at (syntax_of c.args.nodes.now) z))
    (sym c.deref.ensures.value)) (over_typed (lexemes_of c.args.tokens.now) (ctx_of c.args.env.now) (map closure_of c.args.closures.now)
    (work_of c.args.work.now) _ _ c.node_at-node.result.now.kind c.place-at.result c.in-Some.token
    (trees_at (syntax_of c.args.nodes.now) c.deref.result.now) (trees_of c.args.work.now.nodes.items) _ _ c.in_ok-found.found.items _ c.in_ok-found.ensures
    (rw c.deref-2.ensures.value at c.row.ensures))

pub expressions::over_operands-returns-in_err-found : goal.expressions::over_operands-returns-in_err-found
expressions::over_operands-returns-in_err-found t c =
    let is_error : c.from_residual.result ≡ Err c.in_err-found.field-0.0 = search rules in
    refused_typed _ _ _ _ _ _ _ is_error (many_is (lexemes_of c.args.tokens.now) (ctx_of c.args.env.now) (map closure_of c.args.closures.now)
    (work_of c.args.work.now) (tree_at (syntax_of c.args.nodes.now) c.args.id) _ _ _
    (syntax_of c.args.nodes.now) _ c.in-Some.token c.node_at-node.ensures.node c.requires.over c.in-Some.is
    (some_kids c.node_at-node.result.now.kids (sym c.is_empty.ensures ∙ c.if-is_empty.false))
    ∙ ap (λ z. over_row (lexemes_of c.args.tokens.now) (ctx_of c.args.env.now) (map closure_of c.args.closures.now)
    (work_of c.args.work.now) c.node_at-node.result.now.kind z c.in-Some.token (trees_at (syntax_of c.args.nodes.now) c.node_at-node.result.now.kids.items))
    (sym c.place-at.ensures) ∙ ap (λ z. over_row (lexemes_of c.args.tokens.now) (ctx_of c.args.env.now) (map closure_of c.args.closures.now)
    (work_of c.args.work.now) c.node_at-node.result.now.kind c.place-at.result c.in-Some.token (trees_at (syntax_of c.args.nodes.now) z))
    (sym c.deref.ensures.value)) (over_fault (lexemes_of c.args.tokens.now) (ctx_of c.args.env.now) (map closure_of c.args.closures.now)
    (work_of c.args.work.now) c.node_at-node.result.now.kind c.place-at.result c.in-Some.token
    (trees_at (syntax_of c.args.nodes.now) c.deref.result.now) _ c.in_err-found.ensures)

pub expressions::over_operands-returns-then-is_empty : goal.expressions::over_operands-returns-then-is_empty
expressions::over_operands-returns-then-is_empty t c =
    types_same (trees_of c.args.work.now.nodes.items) _ _ _ _ _
    (leaf_is (lexemes_of c.args.tokens.now) (ctx_of c.args.env.now) (map closure_of c.args.closures.now) (work_of c.args.work.now)
    (tree_at (syntax_of c.args.nodes.now) c.args.id) _ _ _ _ c.in-Some.token c.node_at-node.ensures.node c.requires.over c.in-Some.is
    (no_kids (syntax_of c.args.nodes.now) c.node_at-node.result.now.kids (sym c.is_empty.ensures ∙ c.if-is_empty.true))
    ∙ ap (λ z. leaf_or_row (lexemes_of c.args.tokens.now) (ctx_of c.args.env.now)
    (work_of c.args.work.now) c.node_at-node.result.now.kind z c.in-Some.token) (sym c.place-at.ensures)) c.leaf_row.ensures

pub expressions::parenthesized-returns : goal.expressions::parenthesized-returns
expressions::parenthesized-returns t c =
    types_same (trees_of c.args.work.now.nodes.items) (trees_of c.expression.new.work.nodes.items) (work_of c.expression.new.work)
    (Ok (record { id = c.in_ok-inner.inner.id; at = c.place.result; zero = c.in_ok-inner.inner.zero })) _ _
    (wrapped_is (lexemes_of c.args.tokens.now) (ctx_of c.args.env.now) (map closure_of c.args.closures.now) (work_of c.args.work.now)
    (tree_at (syntax_of c.args.nodes.now) c.args.id) (tree_at (syntax_of c.args.nodes.now) c.in-One.kid) _ _ _ _ c.node_at-node.ensures.node c.requires.kind
    (ap (trees_at (syntax_of c.args.nodes.now)) (sym c.deref.ensures.value) ∙ c.in-One.ensures.trees (syntax_of c.args.nodes.now)))
    (wrapped_typed (trees_of c.args.work.now.nodes.items) _ _ c.in_ok-inner.inner _ _ _ c.in_ok-inner.ensures c.place.ensures)

pub expressions::parenthesized-returns-in_err-inner : goal.expressions::parenthesized-returns-in_err-inner
expressions::parenthesized-returns-in_err-inner t c =
    let is_error : c.from_residual.result ≡ Err c.in_err-inner.field-0.0 = search rules in
    refused_typed _ _ _ _ _ _ _ is_error (wrapped_is (lexemes_of c.args.tokens.now) (ctx_of c.args.env.now) (map closure_of c.args.closures.now)
    (work_of c.args.work.now) (tree_at (syntax_of c.args.nodes.now) c.args.id)
    (tree_at (syntax_of c.args.nodes.now) c.in-One.kid) _ _ _ _ c.node_at-node.ensures.node c.requires.kind
    (ap (trees_at (syntax_of c.args.nodes.now)) (sym c.deref.ensures.value) ∙ c.in-One.ensures.trees (syntax_of c.args.nodes.now)))
    (first_fault _ _ _ c.in_err-inner.ensures)

pub expressions::sized_operand-returns : goal.expressions::sized_operand-returns
expressions::sized_operand-returns t c =
    let kept : work_of c.cut_back.new.work ≡ work_of c.args.work.now =
    chosen_cut (lexemes_of c.args.tokens.now) (ctx_of c.args.env.now) [] c.args.work.now c.chosen_expression.new.work c.cut_back.new.work
    (tree_at (syntax_of c.args.nodes.now) c.in-One.kid) _ _ _ _ _ c.in_ok-operand.ensures c.len-frame.ensures c.len-globals.ensures c.cut_back.ensures.work in
    types_same (trees_of c.args.work.now.nodes.items) _ _ _ _ _
    ((size_is (lexemes_of c.args.tokens.now) (ctx_of c.args.env.now) (map closure_of c.args.closures.now) (work_of c.args.work.now)
    (tree_at (syntax_of c.args.nodes.now) c.args.id) (tree_at (syntax_of c.args.nodes.now) c.in-One.kid) _ _ _ _ c.node_at-node.ensures.node c.requires.kind
    (ap (trees_at (syntax_of c.args.nodes.now)) (sym c.deref.ensures.value) ∙ c.in-One.ensures.trees (syntax_of c.args.nodes.now)))
    ∙ ap (λ z. size_row (lexemes_of c.args.tokens.now) (ctx_of c.args.env.now) (work_of c.args.work.now) z
    (tree_at (syntax_of c.args.nodes.now) c.in-One.kid)) (sym c.place.ensures))
    (size_typed (lexemes_of c.args.tokens.now) (ctx_of c.args.env.now) (work_of c.args.work.now) (work_of c.cut_back.new.work) _ _ _
    (tree_at (syntax_of c.args.nodes.now) c.in-One.kid) _ _ _
    (trees_of c.args.work.now.nodes.items) (trees_of c.replace-own.new.dest.items) _ _ _ kept
    (ap (λ (v : Vec TNode Alloc). trees_of v.items) (c.replace-own.ensures.after ∙ c.replace-before.ensures.value)) c.in_ok-operand.ensures
    (ap (λ (v : Vec TNode Alloc). typ_in (typed_at (trees_of v.items) c.in_ok-operand.operand.id))
    (sym (c.replace-own.ensures.value ∙ c.cut_back.ensures.nodes))
    ∙ c.node_at.ensures.typ) c.sized_row.ensures)

pub expressions::sized_operand-returns-in_err-operand : goal.expressions::sized_operand-returns-in_err-operand
expressions::sized_operand-returns-in_err-operand t c =
    let is_error : c.from_residual.result ≡ Err c.in_err-operand.field-0.0 = search rules in
    refused_typed _ _ _ _ _ _ _ is_error (size_is (lexemes_of c.args.tokens.now) (ctx_of c.args.env.now) (map closure_of c.args.closures.now)
    (work_of c.args.work.now) (tree_at (syntax_of c.args.nodes.now) c.args.id)
    (tree_at (syntax_of c.args.nodes.now) c.in-One.kid) _ _ _ _ c.node_at-node.ensures.node c.requires.kind
    (ap (trees_at (syntax_of c.args.nodes.now)) (sym c.deref.ensures.value) ∙ c.in-One.ensures.trees (syntax_of c.args.nodes.now)))
    (size_fault (lexemes_of c.args.tokens.now) (ctx_of c.args.env.now) (work_of c.args.work.now) _
    (tree_at (syntax_of c.args.nodes.now) c.in-One.kid) _ c.in_err-operand.ensures)

pub expressions::sized_type-returns : goal.expressions::sized_type-returns
expressions::sized_type-returns t c =
    types_same (trees_of c.args.work.now.nodes.items) _ _ _ _ _
    ((type_is (lexemes_of c.args.tokens.now) (ctx_of c.args.env.now) (map closure_of c.args.closures.now) (work_of c.args.work.now)
    (tree_at (syntax_of c.args.nodes.now) c.args.id) (tree_at (syntax_of c.args.nodes.now) c.in-One.kid) _ _ _ _ c.node_at-node.ensures.node c.requires.kind
    (ap (trees_at (syntax_of c.args.nodes.now)) (sym c.deref.ensures.value) ∙ c.in-One.ensures.trees (syntax_of c.args.nodes.now)))
    ∙ ap (λ z. type_row (lexemes_of c.args.tokens.now) (ctx_of c.args.env.now) (work_of c.args.work.now) z
    (tree_at (syntax_of c.args.nodes.now) c.in-One.kid)) (sym c.place-at.ensures))
    (type_typed (lexemes_of c.args.tokens.now) (ctx_of c.args.env.now) (work_of c.args.work.now) _ _ _ (tree_at (syntax_of c.args.nodes.now) c.in-One.kid) _
    (trees_of c.args.work.now.nodes.items) _ _ _ c.in_ok-ty.ensures.kept.work
    (unmoved_trees c.args.work.now c.written_type_id.new.work c.in_ok-ty.ensures.kept) c.in_ok-ty.ensures.says c.sized_row.ensures)

pub expressions::sized_type-returns-in_err-ty : goal.expressions::sized_type-returns-in_err-ty
expressions::sized_type-returns-in_err-ty t c =
    let is_error : c.from_residual.result ≡ Err c.in_err-ty.field-0.0 = search rules in
    refused_typed _ _ _ _ _ _ _ is_error ((type_is (lexemes_of c.args.tokens.now) (ctx_of c.args.env.now) (map closure_of c.args.closures.now)
    (work_of c.args.work.now) (tree_at (syntax_of c.args.nodes.now) c.args.id)
    (tree_at (syntax_of c.args.nodes.now) c.in-One.kid) _ _ _ _ c.node_at-node.ensures.node c.requires.kind
    (ap (trees_at (syntax_of c.args.nodes.now)) (sym c.deref.ensures.value) ∙ c.in-One.ensures.trees (syntax_of c.args.nodes.now)))
    ∙ ap (λ z. type_row (lexemes_of c.args.tokens.now) (ctx_of c.args.env.now) (work_of c.args.work.now) z
    (tree_at (syntax_of c.args.nodes.now) c.in-One.kid)) (sym c.place-at.ensures))
    (type_fault (lexemes_of c.args.tokens.now) (ctx_of c.args.env.now) (work_of c.args.work.now) _
    (tree_at (syntax_of c.args.nodes.now) c.in-One.kid) _ c.in_err-ty.ensures.says)

pub expressions::written_type_id-returns-clause-kept : goal.expressions::written_type_id-returns-clause-kept
expressions::written_type_id-returns-clause-kept t c =
    unmoved_all c.written_type.result c.args.work.now c.type_id.new.work c.in_ok-ty.ensures.kept
