-- The table of kinds: the kids of each, whether it has a token, and whether it counts in the depth of a tree. What each
-- token is stands at `NodeKind`.
use Rattle.std.specs.Prelude.{◌≡◌, Bool, true, false, List, [], ◌∷◌}
use Rattle.cpp_ast.specs.declared.kinds.NodeKind.{NodeKind}
use Rattle.cpp_ast.specs.declared.kinds.NodeKind.TheVariants.{IntegerLiteral, CharacterLiteral, StringLiteral, BooleanLiteral, PointerLiteral, This}
use Rattle.cpp_ast.specs.declared.kinds.NodeKind.TheVariants.{UnqualifiedId, QualifiedId, StdAbort, ParenthesizedExpression, FunctionalCast, StaticCast, Lambda}
use Rattle.cpp_ast.specs.declared.kinds.NodeKind.TheVariants.{Subscript, FunctionCall, MemberAccess, PointerMemberAccess, PostfixIncrement, UnaryExpression}
use Rattle.cpp_ast.specs.declared.kinds.NodeKind.TheVariants.{SizeofExpression, SizeofType, CastExpression, BinaryExpression, ConditionalExpression}
use Rattle.cpp_ast.specs.declared.kinds.NodeKind.TheVariants.{AssignmentExpression, ThrowExpression, CommaExpression, LambdaIntroducer, CaptureDefault}
use Rattle.cpp_ast.specs.declared.kinds.NodeKind.TheVariants.{SimpleCapture, ReferenceCapture, ThisCapture, LambdaDeclarator, Mutable, TrailingReturnType}
use Rattle.cpp_ast.specs.declared.kinds.NodeKind.TheVariants.{TypeSpecifierSeq, CvQualifier, SimpleTypeSpecifier, TypeName, TxException, TypeId}
use Rattle.cpp_ast.specs.declared.kinds.NodeKind.TheVariants.{PointerDeclarator, ReferenceDeclarator, ArrayDeclarator, FunctionDeclarator}
use Rattle.cpp_ast.specs.declared.kinds.NodeKind.TheVariants.{ParenthesizedDeclarator, DeclaratorId, QualifiedDeclaratorId, DestructorId, QualifiedDestructorId}
use Rattle.cpp_ast.specs.declared.kinds.NodeKind.TheVariants.{OmittedId, ParameterDeclarationClause, ParameterDeclaration, FunctionQualifiers, TxQualifier}
use Rattle.cpp_ast.specs.declared.kinds.NodeKind.TheVariants.{NoexceptSpecification, InitDeclarator, EqualInitializer, ParenthesizedInitializer, BracedInitList}
use Rattle.cpp_ast.specs.declared.kinds.NodeKind.TheVariants.{Attribute, DeclSpecifier, AliasDeclaration, ClassDeclaration, ClassSpecifier, ClassKey}
use Rattle.cpp_ast.specs.declared.kinds.NodeKind.TheVariants.{BaseSpecifier, AccessSpecifier, MemberSpecification, EnumSpecifier, EnumeratorDefinition}
use Rattle.cpp_ast.specs.declared.kinds.NodeKind.TheVariants.{LinkageSpecification, LinkageBlock, SimpleDeclaration, FunctionDefinition, ConstructorDeclaration}
use Rattle.cpp_ast.specs.declared.kinds.NodeKind.TheVariants.{ConstructorDefinition, DestructorDeclaration, DestructorDefinition, EmptyDeclaration, AccessLabel}
use Rattle.cpp_ast.specs.declared.kinds.NodeKind.TheVariants.{MemberDeclaration, MemberDeclarator, VirtSpecifier, PureSpecifier, BaseInitializer}
use Rattle.cpp_ast.specs.declared.kinds.NodeKind.TheVariants.{MemberInitializer, CompoundStatement, NullStatement, ExpressionStatement, IfStatement}
use Rattle.cpp_ast.specs.declared.kinds.NodeKind.TheVariants.{WhileStatement, DoStatement, ForStatement, SwitchStatement, CaseStatement, DefaultStatement}
use Rattle.cpp_ast.specs.declared.kinds.NodeKind.TheVariants.{BreakStatement, ContinueStatement, ReturnStatement, TryBlock, Handler, Ellipsis}
use Rattle.cpp_ast.specs.declared.kinds.NodeKind.TheVariants.{SynchronizedStatement, AtomicStatement, Absent}

-- which kinds a kid may have: one kind only, or each kind that passes a test
pub data Which : Type 0 where
  only : NodeKind → Which
  group : (NodeKind → Bool) → Which

abbrev pub Is : Which → NodeKind → Type 0
Is (only kind) kid = kid ≡ kind
Is (group test) kid = test kid ≡ true

-- a kid or kids of a node: one, none or one, any number, or one or more
pub data Part : Type 0 where
  one : Which → Part
  optional : Which → Part
  any : Which → Part
  some : Which → Part

-- kids of these kinds are these parts, one behind the other
pub data FitsShape : List Part → List NodeKind → Type 0 where
  nothing : FitsShape [] []
  the_one : {which : Which} {parts : List Part} {kid : NodeKind} {kids : List NodeKind} → Is which kid → FitsShape parts kids
      → FitsShape (one which ∷ parts) (kid ∷ kids)
  missing : {which : Which} {parts : List Part} {kids : List NodeKind} → FitsShape parts kids → FitsShape (optional which ∷ parts) kids
  present : {which : Which} {parts : List Part} {kid : NodeKind} {kids : List NodeKind} → Is which kid → FitsShape parts kids
      → FitsShape (optional which ∷ parts) (kid ∷ kids)
  no_more : {which : Which} {parts : List Part} {kids : List NodeKind} → FitsShape parts kids → FitsShape (any which ∷ parts) kids
  one_more : {which : Which} {parts : List Part} {kid : NodeKind} {kids : List NodeKind} → Is which kid → FitsShape (any which ∷ parts) kids
      → FitsShape (any which ∷ parts) (kid ∷ kids)
  first : {which : Which} {parts : List Part} {kid : NodeKind} {kids : List NodeKind} → Is which kid → FitsShape (any which ∷ parts) kids
      → FitsShape (some which ∷ parts) (kid ∷ kids)

-- an expression
abbrev pub is_expression : NodeKind → Bool
is_expression IntegerLiteral = true
is_expression CharacterLiteral = true
is_expression StringLiteral = true
is_expression BooleanLiteral = true
is_expression PointerLiteral = true
is_expression This = true
is_expression UnqualifiedId = true
is_expression QualifiedId = true
is_expression StdAbort = true
is_expression ParenthesizedExpression = true
is_expression FunctionalCast = true
is_expression StaticCast = true
is_expression Lambda = true
is_expression Subscript = true
is_expression FunctionCall = true
is_expression MemberAccess = true
is_expression PointerMemberAccess = true
is_expression PostfixIncrement = true
is_expression UnaryExpression = true
is_expression SizeofExpression = true
is_expression SizeofType = true
is_expression CastExpression = true
is_expression BinaryExpression = true
is_expression ConditionalExpression = true
is_expression AssignmentExpression = true
is_expression ThrowExpression = true
is_expression CommaExpression = true
is_expression _ = false

abbrev pub expression : Which
expression = group is_expression

-- a part of a for that may be missing
abbrev pub is_expression_or_absent : NodeKind → Bool
is_expression_or_absent Absent = true
is_expression_or_absent kind = is_expression kind

abbrev pub expression_or_absent : Which
expression_or_absent = group is_expression_or_absent

-- the first part of a for
abbrev pub is_for_init : NodeKind → Bool
is_for_init SimpleDeclaration = true
is_for_init Absent = true
is_for_init kind = is_expression kind

abbrev pub for_init : Which
for_init = group is_for_init

-- what initialises, or an item between braces
abbrev pub is_initializer_clause : NodeKind → Bool
is_initializer_clause BracedInitList = true
is_initializer_clause kind = is_expression kind

abbrev pub initializer_clause : Which
initializer_clause = group is_initializer_clause

-- what initialises a variable
abbrev pub is_initializer : NodeKind → Bool
is_initializer EqualInitializer = true
is_initializer ParenthesizedInitializer = true
is_initializer _ = false

abbrev pub initializer : Which
initializer = group is_initializer

-- what a constructor initialises
abbrev pub is_member_initializer : NodeKind → Bool
is_member_initializer BaseInitializer = true
is_member_initializer MemberInitializer = true
is_member_initializer _ = false

abbrev pub member_initializer : Which
member_initializer = group is_member_initializer

-- a capture
abbrev pub is_capture : NodeKind → Bool
is_capture SimpleCapture = true
is_capture ReferenceCapture = true
is_capture ThisCapture = true
is_capture _ = false

abbrev pub capture : Which
capture = group is_capture

-- a type specifier that is one word, a name or std::tx_exception<..>
abbrev pub is_type_specifier : NodeKind → Bool
is_type_specifier SimpleTypeSpecifier = true
is_type_specifier TypeName = true
is_type_specifier TxException = true
is_type_specifier _ = false

abbrev pub type_specifier : Which
type_specifier = group is_type_specifier

-- a declarator
abbrev pub is_declarator : NodeKind → Bool
is_declarator PointerDeclarator = true
is_declarator ReferenceDeclarator = true
is_declarator ArrayDeclarator = true
is_declarator FunctionDeclarator = true
is_declarator ParenthesizedDeclarator = true
is_declarator DeclaratorId = true
is_declarator QualifiedDeclaratorId = true
is_declarator DestructorId = true
is_declarator QualifiedDestructorId = true
is_declarator OmittedId = true
is_declarator _ = false

abbrev pub declarator : Which
declarator = group is_declarator

-- what may stand behind a language
abbrev pub is_linked : NodeKind → Bool
is_linked SimpleDeclaration = true
is_linked FunctionDefinition = true
is_linked ConstructorDefinition = true
is_linked DestructorDefinition = true
is_linked _ = false

abbrev pub linked : Which
linked = group is_linked

-- a declaration of a unit
abbrev pub is_declaration : NodeKind → Bool
is_declaration AliasDeclaration = true
is_declaration ClassDeclaration = true
is_declaration ClassSpecifier = true
is_declaration EnumSpecifier = true
is_declaration LinkageSpecification = true
is_declaration LinkageBlock = true
is_declaration SimpleDeclaration = true
is_declaration FunctionDefinition = true
is_declaration ConstructorDefinition = true
is_declaration DestructorDefinition = true
is_declaration EmptyDeclaration = true
is_declaration _ = false

abbrev pub declaration : Which
declaration = group is_declaration

-- a member of a class
abbrev pub is_member : NodeKind → Bool
is_member AccessLabel = true
is_member MemberDeclaration = true
is_member FunctionDefinition = true
is_member ConstructorDeclaration = true
is_member ConstructorDefinition = true
is_member DestructorDeclaration = true
is_member DestructorDefinition = true
is_member _ = false

abbrev pub member : Which
member = group is_member

-- what may stand behind a member's declarator
abbrev pub is_member_value : NodeKind → Bool
is_member_value PureSpecifier = true
is_member_value EqualInitializer = true
is_member_value _ = false

abbrev pub member_value : Which
member_value = group is_member_value

-- what a handler catches
abbrev pub is_caught : NodeKind → Bool
is_caught ParameterDeclaration = true
is_caught Ellipsis = true
is_caught _ = false

abbrev pub caught : Which
caught = group is_caught

-- a statement
abbrev pub is_statement : NodeKind → Bool
is_statement CompoundStatement = true
is_statement NullStatement = true
is_statement ExpressionStatement = true
is_statement SimpleDeclaration = true
is_statement IfStatement = true
is_statement WhileStatement = true
is_statement DoStatement = true
is_statement ForStatement = true
is_statement SwitchStatement = true
is_statement CaseStatement = true
is_statement DefaultStatement = true
is_statement BreakStatement = true
is_statement ContinueStatement = true
is_statement ReturnStatement = true
is_statement TryBlock = true
is_statement SynchronizedStatement = true
is_statement AtomicStatement = true
is_statement _ = false

abbrev pub statement : Which
statement = group is_statement

-- the parts of each kind, in their order
abbrev pub shape_of : NodeKind → List Part
shape_of QualifiedId = one (only TypeName) ∷ []
shape_of ParenthesizedExpression = one expression ∷ []
shape_of FunctionalCast = one type_specifier ∷ any expression ∷ []
shape_of StaticCast = one (only TypeId) ∷ one expression ∷ []
shape_of Lambda = one (only LambdaIntroducer) ∷ optional (only LambdaDeclarator) ∷ optional (only CompoundStatement) ∷ []
shape_of Subscript = one expression ∷ one expression ∷ []
shape_of FunctionCall = one expression ∷ any expression ∷ []
shape_of MemberAccess = one expression ∷ []
shape_of PointerMemberAccess = one expression ∷ []
shape_of PostfixIncrement = one expression ∷ []
shape_of UnaryExpression = one expression ∷ []
shape_of SizeofExpression = one expression ∷ []
shape_of SizeofType = one (only TypeId) ∷ []
shape_of CastExpression = one (only TypeId) ∷ one expression ∷ []
shape_of BinaryExpression = one expression ∷ one expression ∷ []
shape_of ConditionalExpression = one expression ∷ one expression ∷ one expression ∷ []
shape_of AssignmentExpression = one expression ∷ one expression ∷ []
shape_of ThrowExpression = optional expression ∷ []
shape_of CommaExpression = one expression ∷ one expression ∷ []
shape_of LambdaIntroducer = optional (only CaptureDefault) ∷ any capture ∷ []
shape_of LambdaDeclarator =
    optional (only ParameterDeclarationClause) ∷ optional (only Mutable) ∷ optional (only TxQualifier) ∷ optional (only NoexceptSpecification) ∷
    optional (only TrailingReturnType) ∷ []
shape_of TrailingReturnType = one (only TypeId) ∷ []
shape_of TypeSpecifierSeq = any (only CvQualifier) ∷ some type_specifier ∷ any (only CvQualifier) ∷ []
shape_of TxException = one (only TypeId) ∷ []
shape_of TypeId = one (only TypeSpecifierSeq) ∷ one declarator ∷ []
shape_of PointerDeclarator = any (only CvQualifier) ∷ one declarator ∷ []
shape_of ReferenceDeclarator = one declarator ∷ []
shape_of ArrayDeclarator = one declarator ∷ optional expression ∷ []
shape_of FunctionDeclarator = one declarator ∷ one (only ParameterDeclarationClause) ∷ one (only FunctionQualifiers) ∷ []
shape_of ParenthesizedDeclarator = one declarator ∷ []
shape_of QualifiedDeclaratorId = one (only TypeName) ∷ []
shape_of QualifiedDestructorId = one (only TypeName) ∷ []
shape_of ParameterDeclarationClause = any (only ParameterDeclaration) ∷ []
shape_of ParameterDeclaration = one (only TypeSpecifierSeq) ∷ one declarator ∷ []
shape_of FunctionQualifiers = optional (only CvQualifier) ∷ optional (only TxQualifier) ∷ optional (only NoexceptSpecification) ∷ []
shape_of InitDeclarator = one declarator ∷ optional initializer ∷ []
shape_of EqualInitializer = one initializer_clause ∷ []
shape_of ParenthesizedInitializer = some expression ∷ []
shape_of BracedInitList = any initializer_clause ∷ []
shape_of AliasDeclaration = one (only TypeId) ∷ []
shape_of ClassDeclaration = one (only ClassKey) ∷ []
shape_of ClassSpecifier = one (only ClassKey) ∷ optional (only VirtSpecifier) ∷ optional (only BaseSpecifier) ∷ one (only MemberSpecification) ∷ []
shape_of BaseSpecifier = optional (only AccessSpecifier) ∷ []
shape_of MemberSpecification = any member ∷ []
shape_of EnumSpecifier = optional (only ClassKey) ∷ any (only EnumeratorDefinition) ∷ []
shape_of EnumeratorDefinition = optional expression ∷ []
shape_of LinkageSpecification = one linked ∷ []
shape_of LinkageBlock = any linked ∷ []
shape_of SimpleDeclaration = optional (only Attribute) ∷ any (only DeclSpecifier) ∷ one (only TypeSpecifierSeq) ∷ some (only InitDeclarator) ∷ []
shape_of FunctionDefinition =
    optional (only Attribute) ∷ any (only DeclSpecifier) ∷ one (only TypeSpecifierSeq) ∷ one declarator ∷ any (only VirtSpecifier) ∷ one
    (only CompoundStatement) ∷ []
shape_of ConstructorDeclaration = optional (only Attribute) ∷ any (only DeclSpecifier) ∷ one (only FunctionDeclarator) ∷ []
shape_of ConstructorDefinition =
    optional (only Attribute) ∷ any (only DeclSpecifier) ∷ one (only FunctionDeclarator) ∷ any member_initializer ∷ one (only CompoundStatement) ∷ []
shape_of DestructorDeclaration = any (only DeclSpecifier) ∷ one (only FunctionDeclarator) ∷ any (only VirtSpecifier) ∷ []
shape_of DestructorDefinition =
    optional (only Attribute) ∷ any (only DeclSpecifier) ∷ one (only FunctionDeclarator) ∷ any (only VirtSpecifier) ∷ one (only CompoundStatement) ∷
    []
shape_of MemberDeclaration = optional (only Attribute) ∷ any (only DeclSpecifier) ∷ one (only TypeSpecifierSeq) ∷ some (only MemberDeclarator) ∷ []
shape_of MemberDeclarator = one declarator ∷ any (only VirtSpecifier) ∷ optional member_value ∷ []
shape_of PureSpecifier = one (only IntegerLiteral) ∷ []
shape_of BaseInitializer = any expression ∷ []
shape_of MemberInitializer = any expression ∷ []
shape_of CompoundStatement = any statement ∷ []
shape_of ExpressionStatement = one expression ∷ []
shape_of IfStatement = one expression ∷ one statement ∷ optional statement ∷ []
shape_of WhileStatement = one expression ∷ one statement ∷ []
shape_of DoStatement = one statement ∷ one expression ∷ []
shape_of ForStatement = one for_init ∷ one expression_or_absent ∷ one expression_or_absent ∷ one statement ∷ []
shape_of SwitchStatement = one expression ∷ one (only CompoundStatement) ∷ []
shape_of CaseStatement = one expression ∷ one statement ∷ []
shape_of DefaultStatement = one statement ∷ []
shape_of ReturnStatement = optional expression ∷ []
shape_of TryBlock = one (only CompoundStatement) ∷ some (only Handler) ∷ []
shape_of Handler = one caught ∷ one (only CompoundStatement) ∷ []
shape_of SynchronizedStatement = one (only CompoundStatement) ∷ []
shape_of AtomicStatement = one (only CompoundStatement) ∷ []
-- the other kinds have no kids
shape_of _ = []

-- whether a node of the kind is one deeper than the node that holds it
abbrev pub counts_one : NodeKind → Bool
counts_one LambdaIntroducer = false
counts_one CaptureDefault = false
counts_one SimpleCapture = false
counts_one ReferenceCapture = false
counts_one ThisCapture = false
counts_one LambdaDeclarator = false
counts_one Mutable = false
counts_one TrailingReturnType = false
counts_one TypeSpecifierSeq = false
counts_one CvQualifier = false
counts_one SimpleTypeSpecifier = false
counts_one TypeName = false
counts_one TxException = false
counts_one OmittedId = false
counts_one ParameterDeclarationClause = false
counts_one FunctionQualifiers = false
counts_one TxQualifier = false
counts_one NoexceptSpecification = false
counts_one InitDeclarator = false
counts_one EqualInitializer = false
counts_one ParenthesizedInitializer = false
counts_one Attribute = false
counts_one DeclSpecifier = false
counts_one ClassKey = false
counts_one BaseSpecifier = false
counts_one AccessSpecifier = false
counts_one MemberSpecification = false
counts_one LinkageSpecification = false
counts_one LinkageBlock = false
counts_one MemberDeclarator = false
counts_one VirtSpecifier = false
counts_one PureSpecifier = false
counts_one BaseInitializer = false
counts_one MemberInitializer = false
counts_one Handler = false
counts_one Ellipsis = false
counts_one Absent = false
counts_one _ = true

-- whether each node of the kind has a token
abbrev pub has_token : NodeKind → Bool
has_token LambdaDeclarator = false
has_token TypeSpecifierSeq = false
has_token TypeId = false
has_token OmittedId = false
has_token ParameterDeclarationClause = false
has_token ParameterDeclaration = false
has_token FunctionQualifiers = false
has_token Absent = false
has_token _ = true
