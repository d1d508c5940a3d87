-- The alternatives of declarations and members, each by a name of its own.
use Rattle.cpp_ast.specs.declared.kinds.NodeKind.TheVariants.{ParameterDeclarationClause, VirtSpecifier, DeclSpecifier, AliasDeclaration, ClassDeclaration}
use Rattle.cpp_ast.specs.declared.kinds.NodeKind.TheVariants.{ClassSpecifier, BaseSpecifier, AccessSpecifier, MemberSpecification, EnumSpecifier}
use Rattle.cpp_ast.specs.declared.kinds.NodeKind.TheVariants.{LinkageSpecification, LinkageBlock, SimpleDeclaration, FunctionDefinition}
use Rattle.cpp_ast.specs.declared.kinds.NodeKind.TheVariants.{ConstructorDeclaration, ConstructorDefinition, DestructorDeclaration, DestructorDefinition}
use Rattle.cpp_ast.specs.declared.kinds.NodeKind.TheVariants.{EmptyDeclaration, AccessLabel, MemberDeclaration, PureSpecifier, BaseInitializer}
use Rattle.cpp_ast.specs.declared.kinds.NodeKind.TheVariants.{MemberInitializer, QualifiedDeclaratorId, DestructorId, QualifiedDestructorId, IntegerLiteral}
use Rattle.cpp_syntax.specs.Terminals.{is_name, is_type_name, is_zero, is_string, is_access, is_specifier, final_word, using_word, enum_word, extern_word}
use Rattle.cpp_syntax.specs.Terminals.{inline_word, virtual_word, explicit_word, open_paren, close_paren, open_brace, close_brace, semicolon, comma, colon}
use Rattle.cpp_syntax.specs.Terminals.{colon_colon, tilde, equal}
use Rattle.cpp_syntax.specs.Types.{is_not_zero}
use Rattle.cpp_syntax.specs.Rules.{whole, named, type_specifier_seq, type_id, declarator, function_qualifiers, expression_list, assignment_expression}
use Rattle.cpp_syntax.specs.Rules.{conditional_expression, init_declarator, compound_statement, enumerator_definition, declaration_head, simple_declaration}
use Rattle.cpp_syntax.specs.Rules.{constructor_declarator, destructor_declarator, member_declarator, initialized_member, listed_member, member_declaration}
use Rattle.cpp_syntax.specs.Rules.{qualified, plain, at_token, at_name, Rule, nothing, word, mark, mark_next, ◌·◌, many, form, node_at, where_, optional}
use Rattle.cpp_syntax.specs.Rules.{some, node}
use Rattle.cpp_syntax.specs.Grammar.{list, leaf, type_name, attribute, class_key, virt_specifiers, braced_list, member_initializers}

-- parts of a declaration

abbrev pub specifiers : Rule
specifiers = many (leaf DeclSpecifier is_specifier)

abbrev pub optional_attribute : Rule
optional_attribute = optional attribute

abbrev pub optional_inline : Rule
optional_inline = optional (leaf DeclSpecifier inline_word)

abbrev pub optional_virtual : Rule
optional_virtual = optional (leaf DeclSpecifier virtual_word)

abbrev pub optional_explicit : Rule
optional_explicit = optional (leaf DeclSpecifier explicit_word)

abbrev pub types : Rule
types = form (type_specifier_seq whole)

abbrev pub named_declarator : Rule
named_declarator = form (declarator whole named)

-- names of constructors and destructors

abbrev pub constructor_name : Rule
constructor_name = node QualifiedDeclaratorId (type_name · word colon_colon · mark is_type_name)

abbrev pub qualified_destructor_name : Rule
qualified_destructor_name = node QualifiedDestructorId (type_name · word colon_colon · word tilde · mark is_type_name)

abbrev pub destructor_name : Rule
destructor_name = node DestructorId (word tilde · mark is_type_name)

-- empty parentheses, and what follows parameters
abbrev pub empty_parameters : Rule
empty_parameters = mark open_paren · node ParameterDeclarationClause nothing · word close_paren · form function_qualifiers

-- initialisers of bases and members

abbrev pub initializer_arguments : Rule
initializer_arguments = word open_paren · form expression_list · word close_paren

abbrev pub base_initializer : Rule
base_initializer = node BaseInitializer (mark is_type_name · initializer_arguments)

abbrev pub named_initializer : Rule
named_initializer = node MemberInitializer (mark is_name · initializer_arguments)

-- what a constructor's declarator has behind it where it is defined
abbrev pub constructor_body : Rule
constructor_body = member_initializers · form compound_statement

-- simple declarations

abbrev pub object_declaration : Rule
object_declaration = node_at at_name SimpleDeclaration (mark_next · form declaration_head · list (form (init_declarator named)) · word semicolon)

abbrev pub function_definition : Rule
function_definition = node_at at_name FunctionDefinition (mark_next · form declaration_head · named_declarator · form compound_statement)

abbrev pub constructor_definition : Rule
constructor_definition =
    node_at at_name ConstructorDefinition (mark_next · optional_attribute · optional_inline · form (constructor_declarator qualified) ·
    constructor_body)

abbrev pub destructor_definition : Rule
destructor_definition =
    node_at at_name DestructorDefinition (mark_next · optional_attribute · optional_inline · form (destructor_declarator qualified) · form
    compound_statement)

-- declarations

abbrev pub alias_declaration : Rule
alias_declaration = node_at at_token AliasDeclaration (word using_word · mark is_name · word equal · form (type_id whole) · word semicolon)

abbrev pub class_declaration : Rule
class_declaration = node_at at_token ClassDeclaration (class_key · mark is_name · word semicolon)

abbrev pub optional_final : Rule
optional_final = optional (leaf VirtSpecifier final_word)

abbrev pub optional_access : Rule
optional_access = optional (leaf AccessSpecifier is_access)

abbrev pub base_specifier : Rule
base_specifier = node BaseSpecifier (optional_access · mark is_type_name)

abbrev pub base_clause : Rule
base_clause = word colon · base_specifier

abbrev pub member_specification : Rule
member_specification = node MemberSpecification (word open_brace · many (form member_declaration) · mark close_brace)

abbrev pub class_specifier : Rule
class_specifier = node_at at_token ClassSpecifier (class_key · mark is_name · optional_final · optional base_clause · member_specification · word semicolon)

abbrev pub enumerator_value : Rule
enumerator_value = word equal · form conditional_expression

abbrev pub enumerators : Rule
enumerators = list (form enumerator_definition) · optional (word comma)

abbrev pub enum_specifier : Rule
enum_specifier = node_at at_token EnumSpecifier (word enum_word · optional class_key · mark is_name · braced_list (form enumerator_definition) · word semicolon)

abbrev pub linkage_specification : Rule
linkage_specification = node LinkageSpecification (word extern_word · mark is_string · form simple_declaration)

abbrev pub linkage_block : Rule
linkage_block = node LinkageBlock (word extern_word · mark is_string · word open_brace · many (form simple_declaration) · word close_brace)

abbrev pub empty_declaration : Rule
empty_declaration = leaf EmptyDeclaration semicolon

-- members

abbrev pub access_label : Rule
access_label = node AccessLabel (mark is_access · word colon)

-- a member with its type, without what may stand before the type
abbrev pub single : Rule
single = types · form member_declarator · word semicolon

abbrev pub initialized : Rule
initialized = types · form initialized_member · word semicolon

abbrev pub more_members : Rule
more_members = some (word comma · form listed_member)

abbrev pub listed : Rule
listed = types · form listed_member · more_members · word semicolon

abbrev pub with_function_body : Rule
with_function_body = types · named_declarator · virt_specifiers · form compound_statement

abbrev pub single_declaration : Rule
single_declaration = node_at at_name MemberDeclaration (mark_next · optional_attribute · optional_virtual · single)

abbrev pub initialized_declaration : Rule
initialized_declaration = node_at at_name MemberDeclaration (mark_next · initialized)

abbrev pub listed_declaration : Rule
listed_declaration = node_at at_name MemberDeclaration (mark_next · listed)

abbrev pub member_function_alone : Rule
member_function_alone = node_at at_name FunctionDefinition (mark_next · optional_attribute · optional_virtual · optional_inline · with_function_body)

abbrev pub member_function : Rule
member_function = member_function_alone · optional (word semicolon)

abbrev pub constructor_declared : Rule
constructor_declared =
    node_at at_name ConstructorDeclaration (mark_next · optional_attribute · optional_explicit · form (constructor_declarator plain)) · word semicolon

abbrev pub constructor_defined : Rule
constructor_defined =
    node_at at_name ConstructorDefinition (mark_next · optional_attribute · optional_explicit · form (constructor_declarator plain) ·
    constructor_body) · optional (word semicolon)

abbrev pub destructor_declared : Rule
destructor_declared =
    node_at at_name DestructorDeclaration (mark_next · optional_virtual · form (destructor_declarator plain) · virt_specifiers) · word semicolon

abbrev pub destructor_defined : Rule
destructor_defined =
    node_at at_name DestructorDefinition (mark_next · optional_virtual · form (destructor_declarator plain) · virt_specifiers · form
    compound_statement) · optional (word semicolon)

abbrev pub pure_specifier : Rule
pure_specifier = node PureSpecifier (mark equal · leaf IntegerLiteral is_zero)

abbrev pub value : Rule
value = mark equal · form assignment_expression

abbrev pub value_but_zero : Rule
value_but_zero = mark equal · where_ is_not_zero (form assignment_expression)
