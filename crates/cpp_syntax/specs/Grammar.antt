-- The grammar: what each form is made of, and the tree that is made of its text. It is C++14 annex A, cut to the language
-- that is compiled, with the blocks of ISO/IEC TS 19841:2015.
use Rattle.std.specs.Prelude.{zero, suc, nat_eq, Bool}
use Rattle.cpp_syntax.specs.declared.terminal.Terminal.{Terminal}
use Rattle.cpp_ast.specs.declared.kinds.NodeKind.{NodeKind}
use Rattle.cpp_ast.specs.declared.kinds.NodeKind.TheVariants.{IntegerLiteral, CharacterLiteral, StringLiteral, BooleanLiteral, PointerLiteral, This}
use Rattle.cpp_ast.specs.declared.kinds.NodeKind.TheVariants.{UnqualifiedId, QualifiedId, StdAbort, ParenthesizedExpression, FunctionalCast, StaticCast, Lambda}
use Rattle.cpp_ast.specs.declared.kinds.NodeKind.TheVariants.{Subscript, FunctionCall, MemberAccess, PointerMemberAccess, PostfixIncrement, UnaryExpression}
use Rattle.cpp_ast.specs.declared.kinds.NodeKind.TheVariants.{SizeofExpression, SizeofType, CastExpression, BinaryExpression, ConditionalExpression}
use Rattle.cpp_ast.specs.declared.kinds.NodeKind.TheVariants.{AssignmentExpression, ThrowExpression, CommaExpression, LambdaIntroducer, CaptureDefault}
use Rattle.cpp_ast.specs.declared.kinds.NodeKind.TheVariants.{SimpleCapture, ReferenceCapture, ThisCapture, LambdaDeclarator, Mutable, TrailingReturnType}
use Rattle.cpp_ast.specs.declared.kinds.NodeKind.TheVariants.{TypeSpecifierSeq, CvQualifier, SimpleTypeSpecifier, TypeName, TxException, TypeId}
use Rattle.cpp_ast.specs.declared.kinds.NodeKind.TheVariants.{PointerDeclarator, ReferenceDeclarator, ArrayDeclarator, FunctionDeclarator}
use Rattle.cpp_ast.specs.declared.kinds.NodeKind.TheVariants.{ParenthesizedDeclarator, DeclaratorId, QualifiedDeclaratorId, DestructorId, QualifiedDestructorId}
use Rattle.cpp_ast.specs.declared.kinds.NodeKind.TheVariants.{OmittedId, ParameterDeclarationClause, ParameterDeclaration, FunctionQualifiers, TxQualifier}
use Rattle.cpp_ast.specs.declared.kinds.NodeKind.TheVariants.{NoexceptSpecification, InitDeclarator, EqualInitializer, ParenthesizedInitializer, BracedInitList}
use Rattle.cpp_ast.specs.declared.kinds.NodeKind.TheVariants.{Attribute, DeclSpecifier, AliasDeclaration, ClassDeclaration, ClassSpecifier, ClassKey}
use Rattle.cpp_ast.specs.declared.kinds.NodeKind.TheVariants.{BaseSpecifier, AccessSpecifier, MemberSpecification, EnumSpecifier, EnumeratorDefinition}
use Rattle.cpp_ast.specs.declared.kinds.NodeKind.TheVariants.{LinkageSpecification, LinkageBlock, SimpleDeclaration, FunctionDefinition, ConstructorDeclaration}
use Rattle.cpp_ast.specs.declared.kinds.NodeKind.TheVariants.{ConstructorDefinition, DestructorDeclaration, DestructorDefinition, EmptyDeclaration, AccessLabel}
use Rattle.cpp_ast.specs.declared.kinds.NodeKind.TheVariants.{MemberDeclaration, MemberDeclarator, VirtSpecifier, PureSpecifier, BaseInitializer}
use Rattle.cpp_ast.specs.declared.kinds.NodeKind.TheVariants.{MemberInitializer, CompoundStatement, NullStatement, ExpressionStatement, IfStatement}
use Rattle.cpp_ast.specs.declared.kinds.NodeKind.TheVariants.{WhileStatement, DoStatement, ForStatement, SwitchStatement, CaseStatement, DefaultStatement}
use Rattle.cpp_ast.specs.declared.kinds.NodeKind.TheVariants.{BreakStatement, ContinueStatement, ReturnStatement, TryBlock, Handler, Ellipsis}
use Rattle.cpp_ast.specs.declared.kinds.NodeKind.TheVariants.{SynchronizedStatement, AtomicStatement, Absent}
use Rattle.cpp_syntax.specs.Terminals.{is_name, is_type_name, is_integer, is_zero, is_character, is_string, is_boolean, is_type_word, is_cv, is_safety, is_virt}
use Rattle.cpp_syntax.specs.Terminals.{is_class_key, is_access, is_specifier, is_atomic, is_prefix, is_step, level_of, is_assignment, is_capture_default}
use Rattle.cpp_syntax.specs.Terminals.{is_unbracketed, is_unseparated, is_chosen, std, abort_word, tx_exception_word, optimize_word, final_word, nullptr_word}
use Rattle.cpp_syntax.specs.Terminals.{void_word, const_word, this_word, sizeof_word, static_cast_word, throw_word, mutable_word, noexcept_word, using_word}
use Rattle.cpp_syntax.specs.Terminals.{enum_word, extern_word, inline_word, virtual_word, explicit_word, if_word, else_word, while_word, do_word, for_word}
use Rattle.cpp_syntax.specs.Terminals.{switch_word, case_word, default_word, break_word, continue_word, return_word, try_word, catch_word, synchronized_word}
use Rattle.cpp_syntax.specs.Terminals.{open_paren, close_paren, open_bracket, close_bracket, open_brace, close_brace, semicolon, comma, colon, colon_colon}
use Rattle.cpp_syntax.specs.Terminals.{question, dot, arrow, ellipsis, star, amp, tilde, less, greater, equal}
use Rattle.cpp_syntax.specs.Types.{spells_a_type, is_not_void, holds_something, is_before_no_name, is_not_zero}
use Rattle.cpp_syntax.specs.Rules.{Reading, whole, by_shape, Naming, named, unnamed, either, in_block, Nonterminal, primary_expression, lambda_expression}
use Rattle.cpp_syntax.specs.Rules.{lambda_introducer, lambda_declarator, functional_type, expression_list, postfix_expression, unary_expression}
use Rattle.cpp_syntax.specs.Rules.{cast_expression, binary_expression, conditional_expression, assignment_expression, expression, type_specifier}
use Rattle.cpp_syntax.specs.Rules.{type_specifier_seq, type_id, declarator, direct_declarator, parameter_declaration, parameter_declaration_clause}
use Rattle.cpp_syntax.specs.Rules.{function_qualifiers, balanced, braced_init_list, initializer, init_declarator, block_declaration, shaped_choice}
use Rattle.cpp_syntax.specs.Rules.{shaped_init_declarator, shaped_declaration, compound_statement, statement, for_init_statement, handler}
use Rattle.cpp_syntax.specs.Rules.{enumerator_definition, declaration_head, simple_declaration, constructor_declarator, destructor_declarator}
use Rattle.cpp_syntax.specs.Rules.{member_initializer, member_declarator, initialized_member, listed_member, member_declaration, declaration, translation_unit}
use Rattle.cpp_syntax.specs.Rules.{qualified, plain, a_cast, a_type_in_parentheses, parameters, a_declaration, at_token, at_name, Rule, nothing, word, mark}
use Rattle.cpp_syntax.specs.Rules.{mark_next, mark_name, ◌·◌, ◌∣◌, many, form, node_at, wrap, with_body, where_, before_no, if_, unless, optional, some, node}

-- A list with commas.
abbrev pub list : Rule → Rule
list r = r · many (word comma · r)

-- A node that is one token.
abbrev pub leaf : NodeKind → (Terminal → Bool) → Rule
leaf kind test = node kind (mark test)

-- Parts that several lines have.

abbrev pub type_name : Rule
type_name = leaf TypeName is_type_name

abbrev pub cv_qualifiers : Rule
cv_qualifiers = many (leaf CvQualifier is_cv)

abbrev pub tx_exception : Reading → Rule
tx_exception reading = node TxException (word std · word colon_colon · mark tx_exception_word · word less · form (type_id reading) · word greater)

abbrev pub tx_qualifier : Rule
tx_qualifier = leaf TxQualifier is_safety

abbrev pub noexcept_specification : Rule
noexcept_specification = leaf NoexceptSpecification noexcept_word

abbrev pub virt_specifiers : Rule
virt_specifiers = many (leaf VirtSpecifier is_virt)

abbrev pub attribute : Rule
attribute = node Attribute (word open_bracket · word open_bracket · mark optimize_word · word close_bracket · word close_bracket)

abbrev pub condition : Rule
condition = word open_paren · form expression · word close_paren

abbrev pub optional_expression : Rule
optional_expression = form expression ∣ node Absent nothing

abbrev pub literal : Rule
literal =
    leaf IntegerLiteral is_integer ∣ leaf CharacterLiteral is_character ∣ leaf StringLiteral is_string ∣ leaf BooleanLiteral is_boolean ∣ leaf
    PointerLiteral nullptr_word ∣ leaf This this_word

abbrev pub capture : Rule
capture = leaf SimpleCapture is_name ∣ node ReferenceCapture (word amp · mark is_name) ∣ leaf ThisCapture this_word

-- the bound of an array
abbrev pub bound : Reading → Rule
bound whole = optional (form conditional_expression)
bound by_shape = form balanced

abbrev pub array_bound : Reading → Rule
array_bound reading = mark open_bracket · bound reading · word close_bracket

abbrev pub array_suffix : Reading → Rule
array_suffix reading = wrap ArrayDeclarator (array_bound reading)

-- parameters in parentheses, and what follows them
abbrev pub function_parameters : Reading → Rule
function_parameters reading = mark open_paren · form (parameter_declaration_clause reading) · word close_paren · form function_qualifiers

abbrev pub function_suffix : Reading → Rule
function_suffix reading = wrap FunctionDeclarator (function_parameters reading)

-- Behind a declarator, ( begins parameters where they have the shape of some. Where an initializer can't stand, it
-- begins nothing else.
abbrev pub parameters_behind : Reading → Naming → Rule
parameters_behind reading named = if_ parameters (function_parameters reading)
parameters_behind reading in_block = if_ parameters (function_parameters reading)
parameters_behind reading _ = function_parameters reading

abbrev pub suffix : Reading → Naming → Rule
suffix reading naming = array_suffix reading ∣ wrap FunctionDeclarator (parameters_behind reading naming)

abbrev pub qualified_declarator_id : Rule
qualified_declarator_id = node QualifiedDeclaratorId (type_name · word colon_colon · mark is_name)

abbrev pub declarator_id : Rule
declarator_id = leaf DeclaratorId is_name ∣ qualified_declarator_id

abbrev pub pointer_declarator : Reading → Naming → Rule
pointer_declarator reading naming = node PointerDeclarator (mark star · cv_qualifiers · form (declarator reading naming))

abbrev pub reference_declarator : Reading → Naming → Rule
reference_declarator reading naming = node ReferenceDeclarator (mark amp · form (declarator reading naming))

abbrev pub parenthesized_declarator : Reading → Naming → Rule
parenthesized_declarator reading naming =
    where_ holds_something (node ParenthesizedDeclarator (mark open_paren · form (declarator reading naming) · word close_paren))

-- what a declarator has before its bounds and parameters, if it has it
abbrev pub declarator_head : Reading → Naming → Rule
declarator_head reading unnamed = parenthesized_declarator reading unnamed
declarator_head reading naming = declarator_id ∣ parenthesized_declarator reading naming

abbrev pub omitted_id : Rule
omitted_id = node OmittedId nothing

abbrev pub parameter_list : Reading → Rule
parameter_list reading = list (form (parameter_declaration reading))

-- brackets with what they hold
abbrev pub bracketed : Rule
bracketed =
    word open_paren · form balanced · word close_paren
    ∣ word open_bracket · form balanced · word close_bracket
    ∣ word open_brace · form balanced · word close_brace

-- one token that passes the test, or ? and : with what stands between them, or brackets with what they hold
abbrev pub shaped_token : (Terminal → Bool) → Rule
shaped_token test = word test ∣ form shaped_choice ∣ bracketed

-- = and tokens up to a comma or a semicolon outside brackets and outside ? and :
abbrev pub shaped_initializers : Rule
shaped_initializers =
    word equal · some (shaped_token is_unseparated)
    ∣ unless parameters (word open_paren · some (word is_unbracketed ∣ bracketed) · word close_paren)

abbrev pub initializers : Rule
initializers =
    node EqualInitializer (mark equal · form initializer) ∣ unless parameters (node ParenthesizedInitializer
    (mark open_paren · list (form assignment_expression) · word close_paren))

abbrev pub class_key : Rule
class_key = leaf ClassKey is_class_key

-- items between braces, behind the last of which a comma may stand
abbrev pub braced_list : Rule → Rule
braced_list item = word open_brace · optional (list item · optional (word comma)) · word close_brace

abbrev pub no_parameters : Rule
no_parameters = wrap FunctionDeclarator (mark open_paren · node ParameterDeclarationClause nothing · word close_paren · form function_qualifiers)

abbrev pub member_initializers : Rule
member_initializers = optional (word colon · list (form member_initializer))

-- Lines of expressions that have names of their own in annex A, or are read by themselves.

abbrev pub qualified_id : Rule
qualified_id = node QualifiedId (type_name · word colon_colon · mark is_name)

abbrev pub std_abort : Rule
std_abort = node StdAbort (word std · word colon_colon · mark abort_word)

abbrev pub parenthesized_expression : Rule
parenthesized_expression = node ParenthesizedExpression (mark open_paren · form expression · word close_paren)

-- arguments in parentheses
abbrev pub arguments : Rule
arguments = mark open_paren · form expression_list · word close_paren

abbrev pub functional_cast : Rule
functional_cast = node FunctionalCast (form functional_type · arguments)

abbrev pub static_cast : Rule
static_cast = node StaticCast (mark static_cast_word · word less · form (type_id whole) · word greater · word open_paren · form expression · word close_paren)

-- & before a name captures that name
abbrev pub first_capture : Rule
first_capture = where_ is_before_no_name (leaf CaptureDefault is_capture_default) ∣ capture

abbrev pub capture_list : Rule
capture_list = optional (first_capture · many (word comma · capture))

abbrev pub trailing_return_type : Rule
trailing_return_type = node TrailingReturnType (mark arrow · form (type_id whole))

abbrev pub lambda_parameters : Rule
lambda_parameters = node LambdaDeclarator (
    word open_paren · form (parameter_declaration_clause whole) · word close_paren · optional (leaf Mutable mutable_word)
    · optional tx_qualifier · optional noexcept_specification · optional trailing_return_type)

-- what stands behind an operand, without the operand
abbrev pub subscript : Rule
subscript = mark open_bracket · form expression · word close_bracket

abbrev pub member_access : Rule
member_access = word dot · mark is_name

abbrev pub pointer_member_access : Rule
pointer_member_access = word arrow · mark is_name

abbrev pub postfix : Rule
postfix =
    wrap Subscript subscript
    ∣ wrap FunctionCall arguments
    ∣ wrap MemberAccess member_access
    ∣ wrap PointerMemberAccess pointer_member_access
    ∣ wrap PostfixIncrement (mark is_step)

abbrev pub prefixed_expression : Rule
prefixed_expression = node UnaryExpression (mark is_prefix · form cast_expression)

abbrev pub sizeof_expression : Rule
sizeof_expression =
    node SizeofExpression (mark sizeof_word · unless a_type_in_parentheses (form unary_expression))
    ∣ node SizeofType (mark sizeof_word · if_ a_type_in_parentheses (word open_paren · form (type_id whole) · word close_paren))

abbrev pub cast : Rule
cast = node CastExpression (mark open_paren · form (type_id whole) · word close_paren · form cast_expression)

-- ? a : b behind a condition
abbrev pub choice : Rule
choice = mark question · form expression · word colon · form assignment_expression

abbrev pub throw_expression : Rule
throw_expression = node ThrowExpression (mark throw_word · optional (form assignment_expression))

-- The forms.
abbrev pub production : Nonterminal → Rule
-- expressions: C++14 clause 5

production primary_expression =
    literal
    ∣ leaf UnqualifiedId is_name
    ∣ qualified_id
    ∣ std_abort
    ∣ parenthesized_expression
    ∣ functional_cast
    ∣ static_cast
    ∣ form lambda_expression
production functional_type = leaf SimpleTypeSpecifier is_type_word ∣ type_name ∣ tx_exception whole
production expression_list = optional (list (form assignment_expression))
production lambda_expression = with_body Lambda (mark_next · form lambda_introducer · optional (form lambda_declarator))
production lambda_introducer = node LambdaIntroducer (mark open_bracket · capture_list · word close_bracket)
production lambda_declarator = lambda_parameters ∣ node LambdaDeclarator tx_qualifier
production postfix_expression = form primary_expression · many postfix
production unary_expression = form postfix_expression ∣ prefixed_expression ∣ sizeof_expression
production cast_expression = unless a_cast (form unary_expression) ∣ if_ a_cast cast
-- the levels from * to ||
production (binary_expression zero) = form cast_expression
production (binary_expression (suc n)) =
    form (binary_expression n) · many (wrap BinaryExpression (mark (λ s. nat_eq (level_of s) (suc n)) · form (binary_expression n)))
production conditional_expression = form (binary_expression 10) · optional (wrap ConditionalExpression choice)
production assignment_expression =
    form (binary_expression 10) · optional (wrap ConditionalExpression choice ∣ wrap AssignmentExpression (mark is_assignment · form assignment_expression))
    ∣ throw_expression
production expression = form assignment_expression · many (wrap CommaExpression (mark comma · form assignment_expression))
-- types and declarators: C++14 7.1.6 and clause 8

production (type_specifier reading) = where_ spells_a_type (some (leaf SimpleTypeSpecifier is_type_word)) ∣ type_name ∣ tx_exception reading
production (type_specifier_seq reading) = node TypeSpecifierSeq (cv_qualifiers · form (type_specifier reading) · cv_qualifiers)
production (type_id reading) = node TypeId (form (type_specifier_seq reading) · form (declarator reading unnamed))
production (declarator reading naming) = pointer_declarator reading naming ∣ reference_declarator reading naming ∣ form (direct_declarator reading naming)
-- in a block a name is not followed directly by parameters
production (direct_declarator reading in_block) =
    declarator_id · optional (array_suffix reading · many (suffix reading in_block))
    ∣ parenthesized_declarator reading in_block · many (suffix reading in_block)
production (direct_declarator reading named) = declarator_head reading named · many (suffix reading named)
production (direct_declarator reading unnamed) = declarator_head reading unnamed · many (suffix reading unnamed) ∣ omitted_id · many (suffix reading unnamed)
production (direct_declarator reading either) = declarator_head reading either · many (suffix reading either) ∣ omitted_id · many (suffix reading either)
production (parameter_declaration_clause reading) = node ParameterDeclarationClause (word void_word ∣ where_ is_not_void (parameter_list reading) ∣ nothing)
production (parameter_declaration reading) = node_at at_name ParameterDeclaration (form (type_specifier_seq reading) · form (declarator reading either))
production function_qualifiers = node FunctionQualifiers (optional (leaf CvQualifier const_word) · optional tx_qualifier · optional noexcept_specification)
production balanced = many (word is_unbracketed ∣ bracketed)
-- declarations in a block, and what initialises: C++14 8 and 8.5

production braced_init_list = node BracedInitList (mark open_brace · optional (list (form initializer) · optional (word comma)) · word close_brace)
production initializer = form assignment_expression ∣ form braced_init_list
production (init_declarator naming) = node_at at_name InitDeclarator (form (declarator whole naming) · mark_name · optional initializers)
production block_declaration =
    node_at at_name SimpleDeclaration (mark_next · form (type_specifier_seq whole) · list (form (init_declarator in_block)) · word semicolon)
-- a declaration by its shape, where any balanced run of tokens stands for what initialises: between ? and : of a
-- conditional expression commas separate no declarators
production shaped_choice = word question · many (shaped_token is_chosen) · word colon
production shaped_init_declarator = form (declarator by_shape named) · optional shaped_initializers
production shaped_declaration = form (type_specifier_seq by_shape) · list (form shaped_init_declarator) · word semicolon
-- statements: C++14 clause 6 and 15, and ISO/IEC TS 19841:2015; what has the shape of a declaration is one, and nothing else is

production compound_statement = node CompoundStatement (word open_brace · many (form statement) · mark close_brace)
production statement =
    form compound_statement
    ∣ leaf NullStatement semicolon
    ∣ unless a_declaration (node ExpressionStatement (form expression · mark semicolon))
    ∣ if_ a_declaration (form block_declaration)
    ∣ node IfStatement (mark if_word · condition · form statement · word else_word · form statement)
    ∣ before_no else_word (node IfStatement (mark if_word · condition · form statement))
    ∣ node WhileStatement (mark while_word · condition · form statement)
    ∣ node DoStatement (mark do_word · form statement · word while_word · condition · word semicolon)
    ∣ node ForStatement (mark for_word · word open_paren · form for_init_statement · optional_expression · word semicolon · optional_expression ·
    word close_paren · form statement)
    ∣ node SwitchStatement (mark switch_word · condition · form compound_statement)
    ∣ node CaseStatement (mark case_word · form conditional_expression · word colon · form statement)
    ∣ node DefaultStatement (mark default_word · word colon · form statement)
    ∣ node BreakStatement (mark break_word · word semicolon)
    ∣ node ContinueStatement (mark continue_word · word semicolon)
    ∣ node ReturnStatement (mark return_word · optional (form expression) · word semicolon)
    ∣ before_no catch_word (node TryBlock (mark try_word · form compound_statement · some (form handler)))
    ∣ node SynchronizedStatement (mark synchronized_word · form compound_statement)
    ∣ node AtomicStatement (mark is_atomic · form compound_statement)
production for_init_statement =
    if_ a_declaration (form block_declaration)
    ∣ unless a_declaration (form expression · word semicolon)
    ∣ node Absent nothing · word semicolon
production handler =
    node Handler (mark catch_word · word open_paren · (form (parameter_declaration whole) ∣ leaf Ellipsis ellipsis) · word close_paren · form
    compound_statement)
-- declarations of a unit: C++14 clause 7 and 8.4

production declaration_head = optional attribute · many (leaf DeclSpecifier is_specifier) · form (type_specifier_seq whole)
production simple_declaration =
    node_at at_name SimpleDeclaration (mark_next · form declaration_head · list (form (init_declarator named)) · word semicolon)
    ∣ node_at at_name FunctionDefinition (mark_next · form declaration_head · form (declarator whole named) · form compound_statement)
    ∣ node_at at_name ConstructorDefinition (mark_next · optional attribute · optional (leaf DeclSpecifier inline_word) · form
    (constructor_declarator qualified) · member_initializers · form compound_statement)
    ∣ node_at at_name DestructorDefinition (mark_next · optional attribute · optional (leaf DeclSpecifier inline_word) · form
    (destructor_declarator qualified) · form compound_statement)
production (constructor_declarator qualified) = node QualifiedDeclaratorId (type_name · word colon_colon · mark is_type_name) · function_suffix whole
production (constructor_declarator plain) = leaf DeclaratorId is_type_name · function_suffix whole
production (destructor_declarator qualified) = node QualifiedDestructorId (type_name · word colon_colon · word tilde · mark is_type_name) · no_parameters
production (destructor_declarator plain) = node DestructorId (word tilde · mark is_type_name) · no_parameters
production member_initializer =
    node BaseInitializer (mark is_type_name · word open_paren · form expression_list · word close_paren)
    ∣ node MemberInitializer (mark is_name · word open_paren · form expression_list · word close_paren)
production enumerator_definition = node_at at_token EnumeratorDefinition (mark is_name · optional (word equal · form conditional_expression))
production declaration =
    node_at at_token AliasDeclaration (word using_word · mark is_name · word equal · form (type_id whole) · word semicolon)
    ∣ node_at at_token ClassDeclaration (class_key · mark is_name · word semicolon)
    ∣ node_at at_token ClassSpecifier (
    class_key · mark is_name · optional (leaf VirtSpecifier final_word) · optional (word colon · node BaseSpecifier
    (optional (leaf AccessSpecifier is_access) · mark is_type_name))
    · node MemberSpecification (word open_brace · many (form member_declaration) · mark close_brace) · word semicolon)
    ∣ node_at at_token EnumSpecifier (word enum_word · optional class_key · mark is_name · braced_list (form enumerator_definition) · word semicolon)
    ∣ node LinkageSpecification (word extern_word · mark is_string · form simple_declaration)
    ∣ node LinkageBlock (word extern_word · mark is_string · word open_brace · many (form simple_declaration) · word close_brace)
    ∣ form simple_declaration
    ∣ leaf EmptyDeclaration semicolon
production translation_unit = many (form declaration)
-- members of a class: C++14 clause 9

production member_declaration =
    node AccessLabel (mark is_access · word colon)
    ∣ node_at at_name MemberDeclaration (mark_next · optional attribute · optional (leaf DeclSpecifier virtual_word) · form
    (type_specifier_seq whole) · form member_declarator · word semicolon)
    ∣ node_at at_name MemberDeclaration (mark_next · form (type_specifier_seq whole) · form initialized_member · word semicolon)
    ∣ node_at at_name MemberDeclaration (mark_next · form (type_specifier_seq whole) · form listed_member · some (word comma · form listed_member) ·
    word semicolon)
    ∣ node_at at_name FunctionDefinition (
    mark_next · optional attribute · optional (leaf DeclSpecifier virtual_word) · optional (leaf DeclSpecifier inline_word)
    · form (type_specifier_seq whole) · form (declarator whole named) · virt_specifiers · form compound_statement) · optional (word semicolon)
    ∣ node_at at_name ConstructorDeclaration (mark_next · optional attribute · optional (leaf DeclSpecifier explicit_word) · form
    (constructor_declarator plain)) · word semicolon
    ∣ node_at at_name ConstructorDefinition (mark_next · optional attribute · optional (leaf DeclSpecifier explicit_word) · form
    (constructor_declarator plain) · member_initializers · form compound_statement) · optional (word semicolon)
    ∣ node_at at_name DestructorDeclaration (mark_next · optional (leaf DeclSpecifier virtual_word) · form (destructor_declarator plain) ·
    virt_specifiers) · word semicolon
    ∣ node_at at_name DestructorDefinition (mark_next · optional (leaf DeclSpecifier virtual_word) · form (destructor_declarator plain) ·
    virt_specifiers · form compound_statement) · optional (word semicolon)
-- a member alone: = 0 makes a function pure, and is the initializer of what is none
production member_declarator =
    node_at at_name MemberDeclarator (form (declarator whole named) · mark_name · virt_specifiers · optional
    (node PureSpecifier (mark equal · leaf IntegerLiteral is_zero)))
-- a member alone with another initializer
production initialized_member =
    node_at at_name MemberDeclarator (form (declarator whole named) · mark_name · node EqualInitializer
    (mark equal · where_ is_not_zero (form assignment_expression)))
-- one of several members
production listed_member =
    node_at at_name MemberDeclarator (form (declarator whole named) · mark_name · optional
    (node EqualInitializer (mark equal · form assignment_expression)))
