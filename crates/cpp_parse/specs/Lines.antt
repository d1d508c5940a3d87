-- The lines of the grammar that say what a statement is, as its readers know them.
use Rattle.std.specs.Prelude.{Bool}
use Rattle.cpp_ast.specs.declared.kinds.NodeKind.{NodeKind}
use Rattle.cpp_ast.specs.declared.kinds.NodeKind.TheVariants.{ExpressionStatement, IfStatement, WhileStatement, DoStatement, ForStatement, SwitchStatement}
use Rattle.cpp_ast.specs.declared.kinds.NodeKind.TheVariants.{CaseStatement, DefaultStatement, ReturnStatement, TryBlock, Ellipsis}
use Rattle.cpp_syntax.specs.declared.terminal.Terminal.{Terminal}
use Rattle.cpp_syntax.specs.Terminals.{if_word, else_word, while_word, do_word, for_word, switch_word, case_word, default_word, return_word, try_word}
use Rattle.cpp_syntax.specs.Terminals.{catch_word, open_paren, close_paren, semicolon, colon, ellipsis}
use Rattle.cpp_syntax.specs.Rules.{whole, expression, conditional_expression, parameter_declaration, block_declaration, compound_statement, statement}
use Rattle.cpp_syntax.specs.Rules.{for_init_statement, handler, a_declaration, Rule, word, mark, ◌·◌, ◌∣◌, form, node, before_no, if_, unless, optional, some}
use Rattle.cpp_syntax.specs.Grammar.{condition, optional_expression, leaf}

abbrev pub expression_statement : Rule
expression_statement = node ExpressionStatement (form expression · mark semicolon)

-- what has the shape of a declaration is one, and nothing else is
abbrev pub declaration_or_expression : Rule
declaration_or_expression = unless a_declaration expression_statement ∣ if_ a_declaration (form block_declaration)

abbrev pub if_statement : Rule
if_statement =
    node IfStatement (mark if_word · condition · form statement · word else_word · form statement)
    ∣ before_no else_word (node IfStatement (mark if_word · condition · form statement))

abbrev pub while_statement : Rule
while_statement = node WhileStatement (mark while_word · condition · form statement)

-- what stands behind the body of a do
abbrev pub until : Rule
until = word while_word · condition · word semicolon

abbrev pub do_statement : Rule
do_statement = node DoStatement (mark do_word · form statement · until)

-- what stands behind the first part of a for
abbrev pub for_rest : Rule
for_rest = optional_expression · word semicolon · optional_expression · word close_paren · form statement

abbrev pub for_statement : Rule
for_statement = node ForStatement (mark for_word · word open_paren · form for_init_statement · for_rest)

abbrev pub switch_statement : Rule
switch_statement = node SwitchStatement (mark switch_word · condition · form compound_statement)

-- what stands behind a label
abbrev pub labelled : Rule
labelled = word colon · form statement

abbrev pub case_statement : Rule
case_statement = node CaseStatement (mark case_word · form conditional_expression · labelled)

abbrev pub default_statement : Rule
default_statement = node DefaultStatement (mark default_word · labelled)

abbrev pub return_statement : Rule
return_statement = node ReturnStatement (mark return_word · optional (form expression) · word semicolon)

abbrev pub try_block : Rule
try_block = before_no catch_word (node TryBlock (mark try_word · form compound_statement · some (form handler)))

abbrev pub exception_declaration : Rule
exception_declaration = form (parameter_declaration whole) ∣ leaf Ellipsis ellipsis

-- a word alone, and a word with statements in braces
abbrev pub jump : NodeKind → (Terminal → Bool) → Rule
jump kind test = node kind (mark test · word semicolon)

abbrev pub marked_block : NodeKind → (Terminal → Bool) → Rule
marked_block kind test = node kind (mark test · form compound_statement)
