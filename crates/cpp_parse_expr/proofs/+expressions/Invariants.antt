-- Each nested call has less depth left, or is of a reader below.
use Rattle.std.proofs.Common.{◌≡◌, ◌≤◌, true, length, None, ◌+◌, ◌-◌, ◌*◌}
use Rattle.cpp_ast.specs.declared.kinds.NodeKind.TheVariants.{CommaExpression}
use Rattle.cpp_syntax.specs.Terminals.{comma}
use Rattle.cpp_syntax.specs.Rules.{◌·◌, form, mark, word, wrap, whole, assignment_expression, primary_expression, binary_expression, parameter_declaration}
use Rattle.cpp_syntax.specs.Grammar.{postfix, suffix}
use Rattle.cpp_syntax.specs.Derivations.{Read}
use Rattle.cpp_syntax.specs.Names.{naming_of}
use Rattle.cpp_syntax.specs.View.{BuilderState, appended, IsMark}
use Rattle.cpp_syntax.specs.Parsed.{ReadsForm, has_trees}
use Rattle.cpp_syntax.proofs.OperatorLevels.{operated}
use Rattle.cpp_syntax.proofs.ReaderLoops.{ReadsChain, ReadsMany}
use Rattle.cpp_parse_expr.proofs.+expressions.Given as goal

abbrev pub decreases-declarators::array_bound : goal.decreases-declarators::array_bound
decreases-declarators::array_bound l = l.depth_left * 64 + 24

abbrev pub decreases-declarators::declarator : goal.decreases-declarators::declarator
decreases-declarators::declarator l = l.depth_left * 64 + 30

abbrev pub decreases-declarators::declarator_head : goal.decreases-declarators::declarator_head
decreases-declarators::declarator_head l = l.depth_left * 64 + 27

abbrev pub decreases-declarators::direct_declarator : goal.decreases-declarators::direct_declarator
decreases-declarators::direct_declarator l = l.depth_left * 64 + 28

abbrev pub decreases-declarators::function_parameters : goal.decreases-declarators::function_parameters
decreases-declarators::function_parameters l = l.depth_left * 64 + 24

abbrev pub decreases-declarators::name_in_block : goal.decreases-declarators::name_in_block
decreases-declarators::name_in_block l = l.depth_left * 64 + 27

abbrev pub decreases-declarators::omitted_declarator : goal.decreases-declarators::omitted_declarator
decreases-declarators::omitted_declarator l = l.depth_left * 64 + 27

abbrev pub decreases-declarators::optional_conditional_expression : goal.decreases-declarators::optional_conditional_expression
decreases-declarators::optional_conditional_expression l = l.depth_left * 64 + 57

abbrev pub decreases-declarators::parameter_clause : goal.decreases-declarators::parameter_clause
decreases-declarators::parameter_clause l = l.depth_left * 64 + 33

abbrev pub decreases-declarators::parameter_declaration : goal.decreases-declarators::parameter_declaration
decreases-declarators::parameter_declaration l = l.depth_left * 64 + 31

abbrev pub decreases-declarators::parameters : goal.decreases-declarators::parameters
decreases-declarators::parameters l = l.depth_left * 64 + 32

abbrev pub decreases-declarators::parenthesized_declarator : goal.decreases-declarators::parenthesized_declarator
decreases-declarators::parenthesized_declarator l = l.depth_left * 64 + 26

abbrev pub decreases-declarators::pointer_declarator : goal.decreases-declarators::pointer_declarator
decreases-declarators::pointer_declarator l = l.depth_left * 64 + 29

abbrev pub decreases-declarators::reference_declarator : goal.decreases-declarators::reference_declarator
decreases-declarators::reference_declarator l = l.depth_left * 64 + 29

abbrev pub decreases-declarators::suffixes : goal.decreases-declarators::suffixes
decreases-declarators::suffixes l = l.depth_left * 64 + 25

abbrev pub decreases-declarators::type_id : goal.decreases-declarators::type_id
decreases-declarators::type_id l = l.depth_left * 64 + 31

abbrev pub decreases-expressions::arguments : goal.decreases-expressions::arguments
decreases-expressions::arguments l = l.depth_left * 64 + 20

abbrev pub decreases-expressions::assignment_expression : goal.decreases-expressions::assignment_expression
decreases-expressions::assignment_expression l = l.depth_left * 64 + 56

abbrev pub decreases-expressions::binary_expression : goal.decreases-expressions::binary_expression
decreases-expressions::binary_expression l = l.depth_left * 64 + 49

abbrev pub decreases-expressions::call : goal.decreases-expressions::call
decreases-expressions::call l = l.depth_left * 64 + 43

abbrev pub decreases-expressions::cast_expression : goal.decreases-expressions::cast_expression
decreases-expressions::cast_expression l = l.depth_left * 64 + 48

abbrev pub decreases-expressions::choice : goal.decreases-expressions::choice
decreases-expressions::choice l = l.depth_left * 64 + 50

abbrev pub decreases-expressions::conditional_expression : goal.decreases-expressions::conditional_expression
decreases-expressions::conditional_expression l = l.depth_left * 64 + 56

abbrev pub decreases-expressions::expression : goal.decreases-expressions::expression
decreases-expressions::expression l = l.depth_left * 64 + 60

abbrev pub decreases-expressions::expression_list : goal.decreases-expressions::expression_list
decreases-expressions::expression_list l = l.depth_left * 64 + 59

abbrev pub decreases-expressions::expressions : goal.decreases-expressions::expressions
decreases-expressions::expressions l = l.depth_left * 64 + 58

abbrev pub decreases-expressions::functional_cast : goal.decreases-expressions::functional_cast
decreases-expressions::functional_cast l = l.depth_left * 64 + 40

abbrev pub decreases-expressions::functional_type : goal.decreases-expressions::functional_type
decreases-expressions::functional_type l = l.depth_left * 64 + 39

abbrev pub decreases-expressions::of_std : goal.decreases-expressions::of_std
decreases-expressions::of_std l = l.depth_left * 64 + 41

abbrev pub decreases-expressions::of_type_name : goal.decreases-expressions::of_type_name
decreases-expressions::of_type_name l = l.depth_left * 64 + 41

abbrev pub decreases-expressions::optional_assignment_expression : goal.decreases-expressions::optional_assignment_expression
decreases-expressions::optional_assignment_expression l = l.depth_left * 64 + 57

abbrev pub decreases-expressions::parenthesized_expression : goal.decreases-expressions::parenthesized_expression
decreases-expressions::parenthesized_expression l = l.depth_left * 64 + 40

abbrev pub decreases-expressions::postfix : goal.decreases-expressions::postfix
decreases-expressions::postfix l = l.depth_left * 64 + 44

abbrev pub decreases-expressions::postfix_expression : goal.decreases-expressions::postfix_expression
decreases-expressions::postfix_expression l = l.depth_left * 64 + 45

abbrev pub decreases-expressions::primary_expression : goal.decreases-expressions::primary_expression
decreases-expressions::primary_expression l = l.depth_left * 64 + 44

abbrev pub decreases-expressions::sizeof_expression : goal.decreases-expressions::sizeof_expression
decreases-expressions::sizeof_expression l = l.depth_left * 64 + 46

abbrev pub decreases-expressions::static_cast : goal.decreases-expressions::static_cast
decreases-expressions::static_cast l = l.depth_left * 64 + 40

abbrev pub decreases-expressions::subscript : goal.decreases-expressions::subscript
decreases-expressions::subscript l = l.depth_left * 64 + 43

abbrev pub decreases-expressions::throw_expression : goal.decreases-expressions::throw_expression
decreases-expressions::throw_expression l = l.depth_left * 64 + 50

abbrev pub decreases-expressions::unary_expression : goal.decreases-expressions::unary_expression
decreases-expressions::unary_expression l = l.depth_left * 64 + 47

abbrev pub decreases-lambdas::lambda_declarator : goal.decreases-lambdas::lambda_declarator
decreases-lambdas::lambda_declarator l = l.depth_left * 64 + 36

abbrev pub decreases-lambdas::lambda_expression : goal.decreases-lambdas::lambda_expression
decreases-lambdas::lambda_expression l = l.depth_left * 64 + 38

abbrev pub decreases-lambdas::optional_declarator : goal.decreases-lambdas::optional_declarator
decreases-lambdas::optional_declarator l = l.depth_left * 64 + 37

abbrev pub decreases-lambdas::optional_return_type : goal.decreases-lambdas::optional_return_type
decreases-lambdas::optional_return_type l = l.depth_left * 64 + 35

abbrev pub decreases-lambdas::trailing_return_type : goal.decreases-lambdas::trailing_return_type
decreases-lambdas::trailing_return_type l = l.depth_left * 64 + 34

abbrev pub decreases-types::tx_exception : goal.decreases-types::tx_exception
decreases-types::tx_exception l = l.depth_left * 64 + 10

abbrev pub decreases-types::type_specifier : goal.decreases-types::type_specifier
decreases-types::type_specifier l = l.depth_left * 64 + 11

abbrev pub decreases-types::type_specifier_seq : goal.decreases-types::type_specifier_seq
decreases-types::type_specifier_seq l = l.depth_left * 64 + 12

abbrev pub invariant-expressions::expression-operands : goal.invariant-expressions::expression-operands
invariant-expressions::expression-operands l =
    IsMark l.start l.fn.out × ReadsChain l.text (form assignment_expression) (wrap CommaExpression (mark comma · form assignment_expression)) l.at
    l.next l.fn.out l.out

abbrev pub decreases-expressions::expression-operands : goal.decreases-expressions::expression-operands
decreases-expressions::expression-operands l = length l.text.terminals - l.next

abbrev pub invariant-expressions::expressions-items : goal.invariant-expressions::expressions-items
invariant-expressions::expressions-items l = ReadsChain l.text (form assignment_expression) (word comma · form assignment_expression) l.at l.next l.fn.out l.out

abbrev pub decreases-expressions::expressions-items : goal.decreases-expressions::expressions-items
decreases-expressions::expressions-items l = length l.text.terminals - l.next

abbrev pub invariant-expressions::postfix_expression-suffixes : goal.invariant-expressions::postfix_expression-suffixes
invariant-expressions::postfix_expression-suffixes l = IsMark l.start l.fn.out × ReadsChain l.text (form primary_expression) postfix l.at l.next l.fn.out l.out

abbrev pub decreases-expressions::postfix_expression-suffixes : goal.decreases-expressions::postfix_expression-suffixes
decreases-expressions::postfix_expression-suffixes l = length l.text.terminals - l.next

abbrev pub invariant-expressions::binary_expression-levels : goal.invariant-expressions::binary_expression-levels
invariant-expressions::binary_expression-levels l = IsMark l.start l.fn.out × ReadsForm l.text (binary_expression l.below) l.at l.next l.fn.out l.out

abbrev pub invariant-expressions::binary_expression-operands : goal.invariant-expressions::binary_expression-operands
invariant-expressions::binary_expression-operands l =
    IsMark l.start l.fn.out × ReadsChain l.text (form (binary_expression l.below)) (operated l.below) l.at l.next l.fn.out l.out

abbrev pub decreases-expressions::binary_expression-operands : goal.decreases-expressions::binary_expression-operands
decreases-expressions::binary_expression-operands l = length l.text.terminals - l.next

abbrev pub invariant-declarators::parameters-items : goal.invariant-declarators::parameters-items
invariant-declarators::parameters-items l =
    (x : ReadsChain l.text (form (parameter_declaration whole)) (word comma · form (parameter_declaration whole)) l.at l.next l.fn.out l.out) ×
    (x.marked ≡ None)

abbrev pub decreases-declarators::parameters-items : goal.decreases-declarators::parameters-items
decreases-declarators::parameters-items l = length l.text.terminals - l.next

abbrev pub invariant-declarators::suffixes-suffixes : goal.invariant-declarators::suffixes-suffixes
invariant-declarators::suffixes-suffixes l =
    (l.next ≤ length l.text.terminals) × ((before : BuilderState) (read : Read) → IsMark l.start before → l.fn.out ≡ appended before read → has_trees
    read.trees ≡ true → (x : ReadsMany l.text (suffix whole (naming_of l.naming)) before read l.at l.next l.out) × (has_trees (x.got).trees ≡ true))

abbrev pub decreases-declarators::suffixes-suffixes : goal.decreases-declarators::suffixes-suffixes
decreases-declarators::suffixes-suffixes l = length l.text.terminals - l.next
