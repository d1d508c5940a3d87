-- Kids have lower ids; forms of one node call one another in this order.
use Rattle.std.proofs.Common.{◌≡◌, ◌+◌, ◌*◌, map, drop}
use Rattle.elab_rows.specs.cpp_lex.Tokens.{lexemes_of}
use Rattle.elab_rows.specs.elab_ctx.Ctx.{ctx_of, work_of, closure_of}
use Rattle.elab_rows.specs.cpp_tree.Arena.{trees_of}
use Rattle.elab_rows.specs.elab_rules.Types.{no_specifiers}
use Rattle.elab_rows.specs.elab_rules.Expressions.{operands_with, all_specified_with, parameters_in_with, parameters_with}
use Rattle.elab_rows.specs.elab_types.Syntax.{syntax_of, tree_at, trees_at}
use Rattle.elab_rows.specs.elab_types.Shown.{specifiers_of, parameter_of}
use Rattle.elab_expr.specs.Unmoved.{Unmoved}
use Rattle.elab_expr.proofs.Several.{SoFar}
use Rattle.elab_expr.proofs.Declaring.{after}
use Rattle.elab_expr.proofs.+expressions.Given as goal

abbrev pub decreases-expressions::operands : goal.decreases-expressions::operands
decreases-expressions::operands l = l.parent.0 * 8 + 0

abbrev pub decreases-expressions::over_operands : goal.decreases-expressions::over_operands
decreases-expressions::over_operands l = l.id.0 * 8 + 1

abbrev pub decreases-expressions::parenthesized : goal.decreases-expressions::parenthesized
decreases-expressions::parenthesized l = l.id.0 * 8 + 1

abbrev pub decreases-expressions::called : goal.decreases-expressions::called
decreases-expressions::called l = l.id.0 * 8 + 1

abbrev pub decreases-expressions::functional_cast : goal.decreases-expressions::functional_cast
decreases-expressions::functional_cast l = l.id.0 * 8 + 1

abbrev pub decreases-expressions::casted : goal.decreases-expressions::casted
decreases-expressions::casted l = l.id.0 * 8 + 1

abbrev pub decreases-expressions::written_type_id : goal.decreases-expressions::written_type_id
decreases-expressions::written_type_id l = l.id.0 * 8 + 2

abbrev pub decreases-expressions::sized_operand : goal.decreases-expressions::sized_operand
decreases-expressions::sized_operand l = l.id.0 * 8 + 1

abbrev pub decreases-expressions::sized_type : goal.decreases-expressions::sized_type
decreases-expressions::sized_type l = l.id.0 * 8 + 1

abbrev pub decreases-expressions::expression : goal.decreases-expressions::expression
decreases-expressions::expression l = l.id.0 * 8 + 2

abbrev pub decreases-expressions::chosen_expression : goal.decreases-expressions::chosen_expression
decreases-expressions::chosen_expression l = l.id.0 * 8 + 3

abbrev pub decreases-declarators::bound : goal.decreases-declarators::bound
decreases-declarators::bound l = l.id.0 * 8 + 4

abbrev pub decreases-declarators::specified : goal.decreases-declarators::specified
decreases-declarators::specified l = l.id.0 * 8 + 2

abbrev pub decreases-declarators::exception_specified : goal.decreases-declarators::exception_specified
decreases-declarators::exception_specified l = l.id.0 * 8 + 1

abbrev pub decreases-declarators::type_of_specifiers : goal.decreases-declarators::type_of_specifiers
decreases-declarators::type_of_specifiers l = l.id.0 * 8 + 1

abbrev pub decreases-declarators::type_id : goal.decreases-declarators::type_id
decreases-declarators::type_id l = l.id.0 * 8 + 1

abbrev pub decreases-declarators::declared : goal.decreases-declarators::declared
decreases-declarators::declared l = l.id.0 * 8 + 2

abbrev pub decreases-declarators::parenthesized_declarator : goal.decreases-declarators::parenthesized_declarator
decreases-declarators::parenthesized_declarator l = l.id.0 * 8 + 1

abbrev pub decreases-declarators::pointer_declarator : goal.decreases-declarators::pointer_declarator
decreases-declarators::pointer_declarator l = l.id.0 * 8 + 1

abbrev pub decreases-declarators::reference_declarator : goal.decreases-declarators::reference_declarator
decreases-declarators::reference_declarator l = l.id.0 * 8 + 1

abbrev pub decreases-declarators::array_declarator : goal.decreases-declarators::array_declarator
decreases-declarators::array_declarator l = l.id.0 * 8 + 1

abbrev pub decreases-declarators::function_declarator : goal.decreases-declarators::function_declarator
decreases-declarators::function_declarator l = l.id.0 * 8 + 1

abbrev pub decreases-declarators::parameters : goal.decreases-declarators::parameters
decreases-declarators::parameters l = l.id.0 * 8 + 1

abbrev pub decreases-declarators::parameter : goal.decreases-declarators::parameter
decreases-declarators::parameter l = l.id.0 * 8 + 1

abbrev pub invariant-expressions::operands-loop-id : goal.invariant-expressions::operands-loop-id
invariant-expressions::operands-loop-id l = SoFar (lexemes_of l.tokens) (ctx_of l.env) (map closure_of l.closures) (trees_of l.fn.work.nodes.items)
    (trees_of l.work.nodes.items) (work_of l.work) l.found.items (trees_at (syntax_of l.nodes) (drop l.id-index l.ids))
    (operands_with (lexemes_of l.tokens) (ctx_of l.env) (map closure_of l.closures) (work_of l.fn.work) (trees_at (syntax_of l.nodes) l.ids))

abbrev pub invariant-declarators::type_of_specifiers-loop-kid : goal.invariant-declarators::type_of_specifiers-loop-kid
invariant-declarators::type_of_specifiers-loop-kid l = record {
  read :
      all_specified_with (lexemes_of l.tokens) (ctx_of l.env) (map closure_of l.closures) (work_of l.fn.work) no_specifiers
      (trees_at (syntax_of l.nodes) l.node.kids.items) ≡ all_specified_with (lexemes_of l.tokens) (ctx_of l.env) (map closure_of l.closures)
      (work_of l.fn.work) (specifiers_of (lexemes_of l.tokens) l.specifiers) (trees_at (syntax_of l.nodes) (drop l.kid-index l.kid-items));
  kept : Unmoved l.fn.work l.work;
}

abbrev pub invariant-declarators::parameters-loop-kid : goal.invariant-declarators::parameters-loop-kid
invariant-declarators::parameters-loop-kid l = record {
  read :
      parameters_in_with (lexemes_of l.tokens) (ctx_of l.env) (map closure_of l.closures) (work_of l.fn.work) (tree_at (syntax_of l.nodes) l.fn.id)
      ≡ after (map parameter_of l.found.items) (parameters_with (lexemes_of l.tokens) (ctx_of l.env) (map closure_of l.closures) (work_of l.fn.work)
      (trees_at (syntax_of l.nodes) (drop l.kid-index l.kid-items)));
  kept : Unmoved l.fn.work l.work;
}
