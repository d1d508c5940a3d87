-- The names that a text declares: which are names of types, and which are not.
use Rattle.std.specs.Prelude.{◌≡◌, ℕ, Bool, true, false, not, ◌&&◌, List, length, codes, Option, Some, None, is_some}
use Rattle.std.specs.Str.{bytes_eq}
use Rattle.cpp_types.specs.Trivial.{is_destructor_name}
use Rattle.cpp_lex.specs.Tokens.{Lexeme}
use Rattle.cpp_ast.specs.declared.kinds.NodeKind.{NodeKind}
use Rattle.cpp_ast.specs.declared.kinds.NodeKind.TheVariants as k
use Rattle.cpp_ast.specs.Trees as syntax
use Rattle.cpp_syntax.specs.Classes.{type_index}
use Rattle.elab_rules.specs.elab_ctx.Steps.{spelling}
use Rattle.elab_fits_forms.specs.Types.{is_empty}
use Rattle.elab_read_texts.specs.Texts.{IsRead}

-- somewhere among the tokens the word stands directly behind `class`, `struct`, `enum` or `using`
abbrev pub is_type_name : List Lexeme → List ℕ → Bool
is_type_name s word = is_some (type_index s word (length s))

-- a name of no type, which does not begin with `~`
abbrev pub is_plain_name : List Lexeme → List ℕ → Bool
is_plain_name s word = not (is_destructor_name word) && not (is_type_name s word)

-- the name of a class: that of a type, which does not begin with `~`
abbrev pub is_class_name : List Lexeme → List ℕ → Bool
is_class_name s word = not (is_empty word) && (not (is_destructor_name word) && is_type_name s word)

abbrev pub is_declarator : NodeKind → Bool
is_declarator k.DeclaratorId = true
is_declarator k.QualifiedDeclaratorId = true
is_declarator k.DestructorId = true
is_declarator k.QualifiedDestructorId = true
is_declarator _ = false

abbrev pub is_plain_token : List Lexeme → Option ℕ → Bool
is_plain_token s (Some t) = is_plain_name s (spelling s t)
is_plain_token s None = true

abbrev pub is_declared_plainly : List Lexeme → Bool → Option ℕ → Bool
is_declared_plainly s true token = is_plain_token s token
is_declared_plainly s false token = true

-- each name that declarators in a tree have is one of no type
abbrev mutual
  pub declares_plainly : List Lexeme → syntax.Tree → Bool
  declares_plainly s (syntax.node kind p token kids) = is_declared_plainly s (is_declarator kind) token && declare_plainly s kids

  pub declare_plainly : List Lexeme → syntax.Trees → Bool
  declare_plainly s syntax.none = true
  declare_plainly s (syntax.more t ts) = declares_plainly s t && declare_plainly s ts

-- no word `virtual` stands before a declarator
abbrev pub is_not_virtual : List Lexeme → syntax.Tree → Bool
is_not_virtual s (syntax.node k.DeclSpecifier p (Some t) kids) = not (bytes_eq (spelling s t) (codes "virtual"))
is_not_virtual s t = true

abbrev pub are_not_virtual : List Lexeme → syntax.Trees → Bool
are_not_virtual s syntax.none = true
are_not_virtual s (syntax.more t ts) = is_not_virtual s t && are_not_virtual s ts

-- a class has the name of a type; members and functions have names of no type; constructors are not virtual
abbrev pub is_node_named : List Lexeme → NodeKind → Option ℕ → syntax.Trees → Bool
is_node_named s k.ClassSpecifier (Some t) kids = is_class_name s (spelling s t)
is_node_named s k.MemberDeclaration token kids = declare_plainly s kids
is_node_named s k.FunctionDefinition token kids = declare_plainly s kids
is_node_named s k.ConstructorDeclaration token kids = are_not_virtual s kids
is_node_named s k.ConstructorDefinition token kids = are_not_virtual s kids
is_node_named s kind token kids = true

abbrev mutual
  pub is_named : List Lexeme → syntax.Tree → Bool
  is_named s (syntax.node kind p token kids) = is_node_named s kind token kids && are_named s kids

  pub are_named : List Lexeme → syntax.Trees → Bool
  are_named s syntax.none = true
  are_named s (syntax.more t ts) = is_named s t && are_named s ts

-- The law: so it is in each unit that is read. No member of a class but a constructor has the name of the class, then, and no name but that of a destructor
-- begins with `~`.
abbrev pub ReadUnitsAreNamed : Type 0
ReadUnitsAreNamed = (number : ℕ) (text : List ℕ) (tokens : List Lexeme) (decls : syntax.Trees) → IsRead number text tokens decls
    → are_named tokens decls ≡ true
