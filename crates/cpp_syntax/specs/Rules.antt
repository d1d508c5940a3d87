-- How texts of a form are made: a rule is what a line of the grammar says, with the tree that is made of its text.
use Rattle.std.specs.Prelude.{ℕ, Bool}
use Rattle.cpp_ast.specs.declared.kinds.NodeKind.{NodeKind}
use Rattle.cpp_syntax.specs.declared.terminal.Terminal.{Terminal}
use Rattle.cpp_syntax.specs.Source.{Source}

-- Whether a type is read whole, or by its shape alone, where any balanced run of tokens stands for an array's bound.
pub data Reading : Type 0 where
  whole : Reading
  by_shape : Reading

-- Whether a declarator names what it declares: it does, it does not, it may, or it does in a block, where no function
-- is declared.
pub data Naming : Type 0 where
  named : Naming
  unnamed : Naming
  either : Naming
  in_block : Naming

-- Whether the name of a constructor or destructor stands behind that of its class, as outside the class.
pub data Qualifying : Type 0 where
  qualified : Qualifying
  plain : Qualifying

-- The forms of the grammar, by their names in C++14 annex A where they stand there.
pub data Nonterminal : Type 0 where
  -- expressions
  primary_expression : Nonterminal
  lambda_expression : Nonterminal
  lambda_introducer : Nonterminal
  lambda_declarator : Nonterminal
  functional_type : Nonterminal
  expression_list : Nonterminal
  postfix_expression : Nonterminal
  unary_expression : Nonterminal
  cast_expression : Nonterminal
  binary_expression : ℕ → Nonterminal
  conditional_expression : Nonterminal
  assignment_expression : Nonterminal
  expression : Nonterminal
  -- types and declarators
  type_specifier : Reading → Nonterminal
  type_specifier_seq : Reading → Nonterminal
  type_id : Reading → Nonterminal
  declarator : Reading → Naming → Nonterminal
  direct_declarator : Reading → Naming → Nonterminal
  parameter_declaration : Reading → Nonterminal
  parameter_declaration_clause : Reading → Nonterminal
  function_qualifiers : Nonterminal
  -- any tokens in whose brackets each is closed by its own kind
  balanced : Nonterminal
  -- declarations in a block, and what initialises
  braced_init_list : Nonterminal
  initializer : Nonterminal
  init_declarator : Naming → Nonterminal
  block_declaration : Nonterminal
  shaped_choice : Nonterminal
  shaped_init_declarator : Nonterminal
  shaped_declaration : Nonterminal
  -- statements
  compound_statement : Nonterminal
  statement : Nonterminal
  for_init_statement : Nonterminal
  handler : Nonterminal
  -- declarations of a unit and members of a class
  enumerator_definition : Nonterminal
  declaration_head : Nonterminal
  simple_declaration : Nonterminal
  constructor_declarator : Qualifying → Nonterminal
  destructor_declarator : Qualifying → Nonterminal
  member_initializer : Nonterminal
  member_declarator : Nonterminal
  initialized_member : Nonterminal
  listed_member : Nonterminal
  member_declaration : Nonterminal
  declaration : Nonterminal
  translation_unit : Nonterminal

-- What can be seen from an index on, of the shapes of the tokens there.
pub data Lookahead : Type 0 where
  -- a type in parentheses, behind which a cast's operand begins
  a_cast : Lookahead
  -- a type in parentheses
  a_type_in_parentheses : Lookahead
  -- parameters in parentheses
  parameters : Lookahead
  -- a declaration with its semicolon
  a_declaration : Lookahead

-- Where a node has its position.
pub data Positioning : Type 0 where
  -- its first byte
  at_first : Positioning
  -- its token
  at_token : Positioning
  -- the name that the declarator among its kids declares; where there is none, its first byte
  at_name : Positioning

-- A rule reads tokens, and adds trees to those that were read before it.
pub data Rule : Type 0 where
  -- nothing
  nothing : Rule
  -- a token
  word : (Terminal → Bool) → Rule
  -- a token, which is that of the node
  mark : (Terminal → Bool) → Rule
  -- no token, but the next one is that of the node
  mark_next : Rule
  -- no token, but the name that the last tree declares is the token of the node
  mark_name : Rule
  -- one rule, and then another
  ◌·◌ : Rule → Rule → Rule
  -- one rule or another
  ◌∣◌ : Rule → Rule → Rule
  -- a rule any number of times
  many : Rule → Rule
  -- a text of a form, whose trees it adds
  form : Nonterminal → Rule
  -- one node, whose kids are the trees of the rule
  node_at : Positioning → NodeKind → Rule → Rule
  -- one node, whose kids are all trees that were read before, and those of the rule
  wrap : NodeKind → Rule → Rule
  -- a node with a body in braces behind the tokens of the rule
  with_body : NodeKind → Rule → Rule
  -- a rule, where the tokens pass a test
  where_ : (Source → ℕ → ℕ → Bool) → Rule → Rule
  -- a rule, where no token follows that passes the test
  before_no : (Terminal → Bool) → Rule → Rule
  -- a rule, where this is seen from its first index on, or is not
  if_ : Lookahead → Rule → Rule
  unless : Lookahead → Rule → Rule

infixr 40 ◌·◌
infixr 30 ◌∣◌
abbrev pub optional : Rule → Rule
optional r = r ∣ nothing

abbrev pub some : Rule → Rule
some r = r · many r

abbrev pub node : NodeKind → Rule → Rule
node = node_at at_first
