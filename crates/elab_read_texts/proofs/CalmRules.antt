-- Tests on rules of the grammar: no name that a declarator has stands directly behind `class`, `struct`, `enum` or `using`.
use Rattle.std.specs.Prelude.{Bool, true, false, not, ◌&&◌, if◌then◌else◌}
use Rattle.cpp_ast.specs.declared.kinds.NodeKind.{NodeKind}
use Rattle.cpp_ast.specs.declared.kinds.NodeKind.TheVariants as k
use Rattle.cpp_syntax.specs.declared.terminal.Terminal.{Terminal}
use Rattle.cpp_syntax.specs.declared.terminal.Terminal.TheVariants as terminal
use Rattle.cpp_syntax.specs.Terminals.{is_name}
use Rattle.cpp_syntax.specs.Classes.{is_introducer}
use Rattle.cpp_syntax.specs.Rules.{Reading, whole, by_shape, Nonterminal, type_specifier, type_specifier_seq, type_id, declarator, direct_declarator}
use Rattle.cpp_syntax.specs.Rules.{parameter_declaration, parameter_declaration_clause, balanced, shaped_choice, shaped_init_declarator}
use Rattle.cpp_syntax.specs.Rules.{shaped_declaration, constructor_declarator, destructor_declarator, simple_declaration, member_declaration, declaration, translation_unit}
use Rattle.cpp_syntax.specs.Rules.{member_initializer, compound_statement}
use Rattle.cpp_syntax.specs.Rules.{Rule, nothing, word, mark, mark_next, mark_name, ◌·◌, ◌∣◌, many, form, node_at, wrap, with_body, where_}
use Rattle.cpp_syntax.specs.Rules.{before_no, if_, unless}
use Rattle.cpp_syntax.proofs.TerminalTables.{passes, implies}
use Rattle.elab_read_texts.specs.Names.{is_declarator}
use Rattle.elab_read_texts.proofs.Terminals.{is_other_word}

-- one test follows from another
abbrev pub follows : (Terminal → Bool) → (Terminal → Bool) → Bool
follows test other = passes (λ (s : Terminal). implies (test s) (other s))

-- no terminal that passes introduces the name of a type
abbrev pub is_calm : (Terminal → Bool) → Bool
is_calm test = not (test terminal.Class) && not (test terminal.Struct) && not (test terminal.Enum) && not (test terminal.Using)

abbrev pub is_whole : Reading → Bool
is_whole whole = true
is_whole by_shape = false

-- forms that read their tokens, not their shape alone
abbrev pub is_read : Nonterminal → Bool
is_read (type_specifier reading) = is_whole reading
is_read (type_specifier_seq reading) = is_whole reading
is_read (type_id reading) = is_whole reading
is_read (declarator reading naming) = is_whole reading
is_read (direct_declarator reading naming) = is_whole reading
is_read (parameter_declaration reading) = is_whole reading
is_read (parameter_declaration_clause reading) = is_whole reading
is_read balanced = false
is_read shaped_choice = false
is_read shaped_init_declarator = false
is_read shaped_declaration = false
is_read _ = true

-- whether nothing is introduced behind a rule, where it is so before or not
abbrev pub calms : Rule → Bool → Bool
calms nothing c = c
calms (word test) c = is_calm test
calms (mark test) c = is_calm test
calms mark_next c = c
calms mark_name c = c
calms (p · q) c = calms q (calms p c)
calms (p ∣ q) c = calms p c && calms q c
calms (many p) c = c && calms p true
calms (form f) c = c && is_read f
calms (node_at positioning kind p) c = calms p c
calms (wrap kind p) c = calms p c
calms (with_body kind p) c = calms p c
calms (where_ test p) c = calms p c
calms (before_no test p) c = calms p c
calms (if_ look p) c = calms p c
calms (unless look p) c = calms p c

-- what a rule marks is a name that is not introduced
abbrev pub marks_no_token : Rule → Bool
marks_no_token (word test) = true
marks_no_token (node_at positioning kind p) = true
marks_no_token _ = false

abbrev pub marks_plainly : Rule → Bool → Bool
marks_plainly (mark test) c = c && follows test is_name
marks_plainly (p · q) c = marks_no_token p && marks_plainly q (calms p c)
marks_plainly _ c = false

-- forms in whose trees each declarator has a name of no type
abbrev pub is_plain : Nonterminal → Bool
is_plain (constructor_declarator qualifying) = false
is_plain (destructor_declarator qualifying) = false
is_plain simple_declaration = false
is_plain member_declaration = false
is_plain declaration = false
is_plain translation_unit = false
is_plain f = is_read f

abbrev pub reads_plainly : Rule → Bool → Bool
reads_plainly nothing c = true
reads_plainly (word test) c = true
reads_plainly (mark test) c = true
reads_plainly mark_next c = true
reads_plainly mark_name c = true
reads_plainly (p · q) c = reads_plainly p c && reads_plainly q (calms p c)
reads_plainly (p ∣ q) c = reads_plainly p c && reads_plainly q c
reads_plainly (many p) c = c && (calms p true && reads_plainly p true)
reads_plainly (form f) c = c && is_plain f
reads_plainly (node_at positioning kind p) c = (if is_declarator kind then marks_plainly p c else true) && reads_plainly p c
reads_plainly (wrap kind p) c = not (is_declarator kind) && reads_plainly p c
reads_plainly (with_body kind p) c = not (is_declarator kind) && (calms p c && reads_plainly p c)
reads_plainly (where_ test p) c = reads_plainly p c
reads_plainly (before_no test p) c = reads_plainly p c
reads_plainly (if_ look p) c = reads_plainly p c
reads_plainly (unless look p) c = reads_plainly p c

-- no tree that a rule adds is the word `virtual`
abbrev pub is_specifier_node : NodeKind → Bool
is_specifier_node k.DeclSpecifier = true
is_specifier_node _ = false

abbrev pub marks_other : Rule → Bool
marks_other (mark test) = follows test is_other_word
marks_other _ = false

abbrev pub adds_no_specifier : Nonterminal → Bool
adds_no_specifier (constructor_declarator qualifying) = true
adds_no_specifier member_initializer = true
adds_no_specifier compound_statement = true
adds_no_specifier _ = false

abbrev pub is_without_virtual : Rule → Bool
is_without_virtual (p · q) = is_without_virtual p && is_without_virtual q
is_without_virtual (p ∣ q) = is_without_virtual p && is_without_virtual q
is_without_virtual (many p) = is_without_virtual p
is_without_virtual (form f) = adds_no_specifier f
is_without_virtual (node_at positioning kind p) = if is_specifier_node kind then marks_other p else true
is_without_virtual (wrap kind p) = not (is_specifier_node kind)
is_without_virtual (with_body kind p) = not (is_specifier_node kind)
is_without_virtual (where_ test p) = is_without_virtual p
is_without_virtual (before_no test p) = is_without_virtual p
is_without_virtual (if_ look p) = is_without_virtual p
is_without_virtual (unless look p) = is_without_virtual p
is_without_virtual _ = true

-- a class: the word that introduces it, then its name
abbrev pub introduces_first : Rule → Bool
introduces_first (node_at positioning kind (mark test)) = follows test is_introducer
introduces_first _ = false

abbrev pub names_first : Rule → Bool
names_first (mark test · p) = follows test is_name
names_first _ = false

abbrev pub introduces_name : Rule → Bool
introduces_name (p · q) = introduces_first p && names_first q
introduces_name _ = false

-- what is asked of the nodes of a unit
abbrev pub node_named : NodeKind → Rule → Bool → Bool
node_named k.ClassSpecifier p c = introduces_name p
node_named k.MemberDeclaration p c = reads_plainly p c
node_named k.FunctionDefinition p c = reads_plainly p c
node_named k.ConstructorDeclaration p c = is_without_virtual p
node_named k.ConstructorDefinition p c = is_without_virtual p
node_named kind p c = true

-- kinds of which nothing is asked
abbrev pub is_free_node : NodeKind → Bool
is_free_node k.ClassSpecifier = false
is_free_node k.MemberDeclaration = false
is_free_node k.FunctionDefinition = false
is_free_node k.ConstructorDeclaration = false
is_free_node k.ConstructorDefinition = false
is_free_node _ = true

abbrev pub reads_named : Rule → Bool → Bool
reads_named nothing c = true
reads_named (word test) c = true
reads_named (mark test) c = true
reads_named mark_next c = true
reads_named mark_name c = true
reads_named (p · q) c = reads_named p c && reads_named q (calms p c)
reads_named (p ∣ q) c = reads_named p c && reads_named q c
reads_named (many p) c = c && (calms p true && reads_named p true)
reads_named (form f) c = c && is_read f
reads_named (node_at positioning kind p) c = node_named kind p c && reads_named p c
reads_named (wrap kind p) c = is_free_node kind && reads_named p c
reads_named (with_body kind p) c = is_free_node kind && (calms p c && reads_named p c)
reads_named (where_ test p) c = reads_named p c
reads_named (before_no test p) c = reads_named p c
reads_named (if_ look p) c = reads_named p c
reads_named (unless look p) c = reads_named p c
