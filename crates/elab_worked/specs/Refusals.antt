-- Units that are refused, one for each rule.
use Rattle.std.specs.Prelude.{List, [], ◌∷◌, Some, None, codes}
use Rattle.elab_rules.specs.cpp_lex.Tokens.{Lexeme}
use Rattle.elab_rules.specs.cpp_lex.declared.TokKind.TheVariants as t
use Rattle.elab_rules.specs.cpp_ast.declared.kinds.NodeKind.TheVariants as k
use Rattle.elab_rules.specs.cpp_ast.Trees.{Tree, node, none, more}
use Rattle.elab_worked.specs.Notation.{at, token}

--     void f(int) {} void f(long) {} int main() { f(1u); return 0; }
abbrev pub ambiguous_tokens : List Lexeme
ambiguous_tokens = token t.Key 0 4 0 (codes "void")
    ∷ token t.Name 5 6 0 (codes "f")
    ∷ token t.Punct 6 7 0 (codes "(")
    ∷ token t.Key 7 10 0 (codes "int")
    ∷ token t.Punct 10 11 0 (codes ")")
    ∷ token t.Punct 12 13 0 (codes "{")
    ∷ token t.Punct 13 14 0 (codes "}")
    ∷ token t.Key 15 19 0 (codes "void")
    ∷ token t.Name 20 21 0 (codes "f")
    ∷ token t.Punct 21 22 0 (codes "(")
    ∷ token t.Key 22 26 0 (codes "long")
    ∷ token t.Punct 26 27 0 (codes ")")
    ∷ token t.Punct 28 29 0 (codes "{")
    ∷ token t.Punct 29 30 0 (codes "}")
    ∷ token t.Key 31 34 0 (codes "int")
    ∷ token t.Name 35 39 0 (codes "main")
    ∷ token t.Punct 39 40 0 (codes "(")
    ∷ token t.Punct 40 41 0 (codes ")")
    ∷ token t.Punct 42 43 0 (codes "{")
    ∷ token t.Name 44 45 0 (codes "f")
    ∷ token t.Punct 45 46 0 (codes "(")
    ∷ token t.Int 46 48 1 (codes "1u")
    ∷ token t.Punct 48 49 0 (codes ")")
    ∷ token t.Punct 49 50 0 (codes ";")
    ∷ token t.Key 51 57 0 (codes "return")
    ∷ token t.Int 58 59 0 (codes "0")
    ∷ token t.Punct 59 60 0 (codes ";")
    ∷ token t.Punct 61 62 0 (codes "}")
    ∷ []

abbrev pub ambiguous_decls : List Tree
ambiguous_decls = (node k.FunctionDefinition (at 5) (Some 0)
    (more (node k.TypeSpecifierSeq (at 0) None (more (node k.SimpleTypeSpecifier (at 0) (Some 0) none) none))
    (more (node k.FunctionDeclarator (at 5) (Some 2) (more (node k.DeclaratorId (at 5) (Some 1) none)
    (more (node k.ParameterDeclarationClause (at 7) None
    (more (node k.ParameterDeclaration (at 7) None (more (node k.TypeSpecifierSeq (at 7) None (more (node k.SimpleTypeSpecifier (at 7) (Some 3) none) none))
    (more (node k.OmittedId (at 10) None none) none))) none)) (more (node k.FunctionQualifiers (at 12) None none) none))))
    (more (node k.CompoundStatement (at 12) (Some 6) none) none))))
    ∷ (node k.FunctionDefinition (at 20) (Some 7) (more (node k.TypeSpecifierSeq (at 15) None (more (node k.SimpleTypeSpecifier (at 15) (Some 7) none) none))
    (more (node k.FunctionDeclarator (at 20) (Some 9)
    (more (node k.DeclaratorId (at 20) (Some 8) none)
    (more (node k.ParameterDeclarationClause (at 22) None
    (more (node k.ParameterDeclaration (at 22) None
    (more (node k.TypeSpecifierSeq (at 22) None (more (node k.SimpleTypeSpecifier (at 22) (Some 10) none) none))
    (more (node k.OmittedId (at 26) None none) none))) none)) (more (node k.FunctionQualifiers (at 28) None none) none))))
    (more (node k.CompoundStatement (at 28) (Some 13) none) none))))
    ∷ (node k.FunctionDefinition (at 35) (Some 14) (more (node k.TypeSpecifierSeq (at 31) None (more (node k.SimpleTypeSpecifier (at 31) (Some 14) none) none))
    (more (node k.FunctionDeclarator (at 35) (Some 16)
    (more (node k.DeclaratorId (at 35) (Some 15) none)
    (more (node k.ParameterDeclarationClause (at 40) None none) (more (node k.FunctionQualifiers (at 42) None none) none))))
    (more (node k.CompoundStatement (at 42) (Some 27)
    (more (node k.ExpressionStatement (at 44) (Some 23)
    (more (node k.FunctionCall (at 44) (Some 20) (more (node k.UnqualifiedId (at 44) (Some 19) none)
    (more (node k.IntegerLiteral (at 46) (Some 21) none) none))) none))
    (more (node k.ReturnStatement (at 51) (Some 24) (more (node k.IntegerLiteral (at 58) (Some 25) none) none)) none))) none))))
    ∷ []

--     int main() { break; return 0; }
abbrev pub bad_break_tokens : List Lexeme
bad_break_tokens = token t.Key 0 3 0 (codes "int")
    ∷ token t.Name 4 8 0 (codes "main")
    ∷ token t.Punct 8 9 0 (codes "(")
    ∷ token t.Punct 9 10 0 (codes ")")
    ∷ token t.Punct 11 12 0 (codes "{")
    ∷ token t.Key 13 18 0 (codes "break")
    ∷ token t.Punct 18 19 0 (codes ";")
    ∷ token t.Key 20 26 0 (codes "return")
    ∷ token t.Int 27 28 0 (codes "0")
    ∷ token t.Punct 28 29 0 (codes ";")
    ∷ token t.Punct 30 31 0 (codes "}")
    ∷ []

abbrev pub bad_break_decls : List Tree
bad_break_decls = (node k.FunctionDefinition (at 4) (Some 0)
    (more (node k.TypeSpecifierSeq (at 0) None (more (node k.SimpleTypeSpecifier (at 0) (Some 0) none) none))
    (more (node k.FunctionDeclarator (at 4) (Some 2) (more (node k.DeclaratorId (at 4) (Some 1) none)
    (more (node k.ParameterDeclarationClause (at 9) None none) (more (node k.FunctionQualifiers (at 11) None none) none))))
    (more (node k.CompoundStatement (at 11) (Some 10)
    (more (node k.BreakStatement (at 13) (Some 5) none)
    (more (node k.ReturnStatement (at 20) (Some 7) (more (node k.IntegerLiteral (at 27) (Some 8) none) none)) none))) none))))
    ∷ []

--     int main() { switch (1) { case 1: ; case 1: ; } return 0; }
abbrev pub bad_case_tokens : List Lexeme
bad_case_tokens = token t.Key 0 3 0 (codes "int")
    ∷ token t.Name 4 8 0 (codes "main")
    ∷ token t.Punct 8 9 0 (codes "(")
    ∷ token t.Punct 9 10 0 (codes ")")
    ∷ token t.Punct 11 12 0 (codes "{")
    ∷ token t.Key 13 19 0 (codes "switch")
    ∷ token t.Punct 20 21 0 (codes "(")
    ∷ token t.Int 21 22 1 (codes "1")
    ∷ token t.Punct 22 23 0 (codes ")")
    ∷ token t.Punct 24 25 0 (codes "{")
    ∷ token t.Key 26 30 0 (codes "case")
    ∷ token t.Int 31 32 1 (codes "1")
    ∷ token t.Punct 32 33 0 (codes ":")
    ∷ token t.Punct 34 35 0 (codes ";")
    ∷ token t.Key 36 40 0 (codes "case")
    ∷ token t.Int 41 42 1 (codes "1")
    ∷ token t.Punct 42 43 0 (codes ":")
    ∷ token t.Punct 44 45 0 (codes ";")
    ∷ token t.Punct 46 47 0 (codes "}")
    ∷ token t.Key 48 54 0 (codes "return")
    ∷ token t.Int 55 56 0 (codes "0")
    ∷ token t.Punct 56 57 0 (codes ";")
    ∷ token t.Punct 58 59 0 (codes "}")
    ∷ []

abbrev pub bad_case_decls : List Tree
bad_case_decls = (node k.FunctionDefinition (at 4) (Some 0)
    (more (node k.TypeSpecifierSeq (at 0) None (more (node k.SimpleTypeSpecifier (at 0) (Some 0) none) none))
    (more (node k.FunctionDeclarator (at 4) (Some 2) (more (node k.DeclaratorId (at 4) (Some 1) none)
    (more (node k.ParameterDeclarationClause (at 9) None none) (more (node k.FunctionQualifiers (at 11) None none) none))))
    (more (node k.CompoundStatement (at 11) (Some 22)
    (more (node k.SwitchStatement (at 13) (Some 5) (more (node k.IntegerLiteral (at 21) (Some 7) none)
    (more (node k.CompoundStatement (at 24) (Some 18)
    (more (node k.CaseStatement (at 26) (Some 10) (more (node k.IntegerLiteral (at 31) (Some 11) none)
    (more (node k.NullStatement (at 34) (Some 13) none) none)))
    (more (node k.CaseStatement (at 36) (Some 14) (more (node k.IntegerLiteral (at 41) (Some 15) none)
    (more (node k.NullStatement (at 44) (Some 17) none) none))) none))) none)))
    (more (node k.ReturnStatement (at 48) (Some 19) (more (node k.IntegerLiteral (at 55) (Some 20) none) none)) none))) none))))
    ∷ []

--     int main() { try { } catch (int* p) { } return 0; }
abbrev pub bad_catch_tokens : List Lexeme
bad_catch_tokens = token t.Key 0 3 0 (codes "int")
    ∷ token t.Name 4 8 0 (codes "main")
    ∷ token t.Punct 8 9 0 (codes "(")
    ∷ token t.Punct 9 10 0 (codes ")")
    ∷ token t.Punct 11 12 0 (codes "{")
    ∷ token t.Key 13 16 0 (codes "try")
    ∷ token t.Punct 17 18 0 (codes "{")
    ∷ token t.Punct 19 20 0 (codes "}")
    ∷ token t.Key 21 26 0 (codes "catch")
    ∷ token t.Punct 27 28 0 (codes "(")
    ∷ token t.Key 28 31 0 (codes "int")
    ∷ token t.Punct 31 32 0 (codes "*")
    ∷ token t.Name 33 34 0 (codes "p")
    ∷ token t.Punct 34 35 0 (codes ")")
    ∷ token t.Punct 36 37 0 (codes "{")
    ∷ token t.Punct 38 39 0 (codes "}")
    ∷ token t.Key 40 46 0 (codes "return")
    ∷ token t.Int 47 48 0 (codes "0")
    ∷ token t.Punct 48 49 0 (codes ";")
    ∷ token t.Punct 50 51 0 (codes "}")
    ∷ []

abbrev pub bad_catch_decls : List Tree
bad_catch_decls = (node k.FunctionDefinition (at 4) (Some 0)
    (more (node k.TypeSpecifierSeq (at 0) None (more (node k.SimpleTypeSpecifier (at 0) (Some 0) none) none))
    (more (node k.FunctionDeclarator (at 4) (Some 2) (more (node k.DeclaratorId (at 4) (Some 1) none)
    (more (node k.ParameterDeclarationClause (at 9) None none) (more (node k.FunctionQualifiers (at 11) None none) none))))
    (more (node k.CompoundStatement (at 11) (Some 19)
    (more (node k.TryBlock (at 13) (Some 5) (more (node k.CompoundStatement (at 17) (Some 7) none)
    (more (node k.Handler (at 21) (Some 8) (more (node k.ParameterDeclaration (at 33) None
    (more (node k.TypeSpecifierSeq (at 28) None (more (node k.SimpleTypeSpecifier (at 28) (Some 10) none) none))
    (more (node k.PointerDeclarator (at 31) (Some 11) (more (node k.DeclaratorId (at 33) (Some 12) none) none)) none)))
    (more (node k.CompoundStatement (at 36) (Some 15) none) none))) none)))
    (more (node k.ReturnStatement (at 40) (Some 16) (more (node k.IntegerLiteral (at 47) (Some 17) none) none)) none))) none))))
    ∷ []

--     void x; int main() { return 0; }
abbrev pub bad_declaration_tokens : List Lexeme
bad_declaration_tokens = token t.Key 0 4 0 (codes "void")
    ∷ token t.Name 5 6 0 (codes "x")
    ∷ token t.Punct 6 7 0 (codes ";")
    ∷ token t.Key 8 11 0 (codes "int")
    ∷ token t.Name 12 16 0 (codes "main")
    ∷ token t.Punct 16 17 0 (codes "(")
    ∷ token t.Punct 17 18 0 (codes ")")
    ∷ token t.Punct 19 20 0 (codes "{")
    ∷ token t.Key 21 27 0 (codes "return")
    ∷ token t.Int 28 29 0 (codes "0")
    ∷ token t.Punct 29 30 0 (codes ";")
    ∷ token t.Punct 31 32 0 (codes "}")
    ∷ []

abbrev pub bad_declaration_decls : List Tree
bad_declaration_decls = (node k.SimpleDeclaration (at 5) (Some 0)
    (more (node k.TypeSpecifierSeq (at 0) None (more (node k.SimpleTypeSpecifier (at 0) (Some 0) none) none))
    (more (node k.InitDeclarator (at 5) (Some 1) (more (node k.DeclaratorId (at 5) (Some 1) none) none)) none)))
    ∷ (node k.FunctionDefinition (at 12) (Some 3) (more (node k.TypeSpecifierSeq (at 8) None (more (node k.SimpleTypeSpecifier (at 8) (Some 3) none) none))
    (more (node k.FunctionDeclarator (at 12) (Some 5)
    (more (node k.DeclaratorId (at 12) (Some 4) none)
    (more (node k.ParameterDeclarationClause (at 17) None none) (more (node k.FunctionQualifiers (at 19) None none) none))))
    (more (node k.CompoundStatement (at 19) (Some 11)
    (more (node k.ReturnStatement (at 21) (Some 8) (more (node k.IntegerLiteral (at 28) (Some 9) none) none)) none)) none))))
    ∷ []

--     const int x; int main() { return 0; }
abbrev pub bad_init_tokens : List Lexeme
bad_init_tokens = token t.Key 0 5 0 (codes "const")
    ∷ token t.Key 6 9 0 (codes "int")
    ∷ token t.Name 10 11 0 (codes "x")
    ∷ token t.Punct 11 12 0 (codes ";")
    ∷ token t.Key 13 16 0 (codes "int")
    ∷ token t.Name 17 21 0 (codes "main")
    ∷ token t.Punct 21 22 0 (codes "(")
    ∷ token t.Punct 22 23 0 (codes ")")
    ∷ token t.Punct 24 25 0 (codes "{")
    ∷ token t.Key 26 32 0 (codes "return")
    ∷ token t.Int 33 34 0 (codes "0")
    ∷ token t.Punct 34 35 0 (codes ";")
    ∷ token t.Punct 36 37 0 (codes "}")
    ∷ []

abbrev pub bad_init_decls : List Tree
bad_init_decls = (node k.SimpleDeclaration (at 10) (Some 0)
    (more (node k.TypeSpecifierSeq (at 0) None (more (node k.CvQualifier (at 0) (Some 0) none) (more (node k.SimpleTypeSpecifier (at 6) (Some 1) none) none)))
    (more (node k.InitDeclarator (at 10) (Some 2) (more (node k.DeclaratorId (at 10) (Some 2) none) none)) none)))
    ∷ (node k.FunctionDefinition (at 17) (Some 4) (more (node k.TypeSpecifierSeq (at 13) None (more (node k.SimpleTypeSpecifier (at 13) (Some 4) none) none))
    (more (node k.FunctionDeclarator (at 17) (Some 6)
    (more (node k.DeclaratorId (at 17) (Some 5) none)
    (more (node k.ParameterDeclarationClause (at 22) None none) (more (node k.FunctionQualifiers (at 24) None none) none))))
    (more (node k.CompoundStatement (at 24) (Some 12)
    (more (node k.ReturnStatement (at 26) (Some 9) (more (node k.IntegerLiteral (at 33) (Some 10) none) none)) none)) none))))
    ∷ []

--     long main() { return 0; }
abbrev pub bad_main_tokens : List Lexeme
bad_main_tokens = token t.Key 0 4 0 (codes "long")
    ∷ token t.Name 5 9 0 (codes "main")
    ∷ token t.Punct 9 10 0 (codes "(")
    ∷ token t.Punct 10 11 0 (codes ")")
    ∷ token t.Punct 12 13 0 (codes "{")
    ∷ token t.Key 14 20 0 (codes "return")
    ∷ token t.Int 21 22 0 (codes "0")
    ∷ token t.Punct 22 23 0 (codes ";")
    ∷ token t.Punct 24 25 0 (codes "}")
    ∷ []

abbrev pub bad_main_decls : List Tree
bad_main_decls = (node k.FunctionDefinition (at 5) (Some 0)
    (more (node k.TypeSpecifierSeq (at 0) None (more (node k.SimpleTypeSpecifier (at 0) (Some 0) none) none))
    (more (node k.FunctionDeclarator (at 5) (Some 2) (more (node k.DeclaratorId (at 5) (Some 1) none)
    (more (node k.ParameterDeclarationClause (at 10) None none) (more (node k.FunctionQualifiers (at 12) None none) none))))
    (more (node k.CompoundStatement (at 12) (Some 8) (more
    (node k.ReturnStatement (at 14) (Some 5) (more (node k.IntegerLiteral (at 21) (Some 6) none) none)) none)) none))))
    ∷ []

--     int main() { int a = 1; return *a; }
abbrev pub bad_operand_tokens : List Lexeme
bad_operand_tokens = token t.Key 0 3 0 (codes "int")
    ∷ token t.Name 4 8 0 (codes "main")
    ∷ token t.Punct 8 9 0 (codes "(")
    ∷ token t.Punct 9 10 0 (codes ")")
    ∷ token t.Punct 11 12 0 (codes "{")
    ∷ token t.Key 13 16 0 (codes "int")
    ∷ token t.Name 17 18 0 (codes "a")
    ∷ token t.Punct 19 20 0 (codes "=")
    ∷ token t.Int 21 22 1 (codes "1")
    ∷ token t.Punct 22 23 0 (codes ";")
    ∷ token t.Key 24 30 0 (codes "return")
    ∷ token t.Punct 31 32 0 (codes "*")
    ∷ token t.Name 32 33 0 (codes "a")
    ∷ token t.Punct 33 34 0 (codes ";")
    ∷ token t.Punct 35 36 0 (codes "}")
    ∷ []

abbrev pub bad_operand_decls : List Tree
bad_operand_decls = (node k.FunctionDefinition (at 4) (Some 0)
    (more (node k.TypeSpecifierSeq (at 0) None (more (node k.SimpleTypeSpecifier (at 0) (Some 0) none) none))
    (more (node k.FunctionDeclarator (at 4) (Some 2) (more (node k.DeclaratorId (at 4) (Some 1) none)
    (more (node k.ParameterDeclarationClause (at 9) None none) (more (node k.FunctionQualifiers (at 11) None none) none))))
    (more (node k.CompoundStatement (at 11) (Some 14)
    (more (node k.SimpleDeclaration (at 17) (Some 5) (more (node k.TypeSpecifierSeq (at 13) None (more (node k.SimpleTypeSpecifier (at 13) (Some 5) none) none))
    (more (node k.InitDeclarator (at 17) (Some 6) (more (node k.DeclaratorId (at 17) (Some 6) none)
    (more (node k.EqualInitializer (at 19) (Some 7) (more (node k.IntegerLiteral (at 21) (Some 8) none) none)) none))) none)))
    (more (node k.ReturnStatement (at 24) (Some 10) (more
    (node k.UnaryExpression (at 31) (Some 11) (more (node k.UnqualifiedId (at 32) (Some 12) none) none)) none)) none))) none))))
    ∷ []

--     void f() { return 1; } int main() { return 0; }
abbrev pub bad_return_tokens : List Lexeme
bad_return_tokens = token t.Key 0 4 0 (codes "void")
    ∷ token t.Name 5 6 0 (codes "f")
    ∷ token t.Punct 6 7 0 (codes "(")
    ∷ token t.Punct 7 8 0 (codes ")")
    ∷ token t.Punct 9 10 0 (codes "{")
    ∷ token t.Key 11 17 0 (codes "return")
    ∷ token t.Int 18 19 1 (codes "1")
    ∷ token t.Punct 19 20 0 (codes ";")
    ∷ token t.Punct 21 22 0 (codes "}")
    ∷ token t.Key 23 26 0 (codes "int")
    ∷ token t.Name 27 31 0 (codes "main")
    ∷ token t.Punct 31 32 0 (codes "(")
    ∷ token t.Punct 32 33 0 (codes ")")
    ∷ token t.Punct 34 35 0 (codes "{")
    ∷ token t.Key 36 42 0 (codes "return")
    ∷ token t.Int 43 44 0 (codes "0")
    ∷ token t.Punct 44 45 0 (codes ";")
    ∷ token t.Punct 46 47 0 (codes "}")
    ∷ []

abbrev pub bad_return_decls : List Tree
bad_return_decls = (node k.FunctionDefinition (at 5) (Some 0)
    (more (node k.TypeSpecifierSeq (at 0) None (more (node k.SimpleTypeSpecifier (at 0) (Some 0) none) none))
    (more (node k.FunctionDeclarator (at 5) (Some 2) (more (node k.DeclaratorId (at 5) (Some 1) none)
    (more (node k.ParameterDeclarationClause (at 7) None none) (more (node k.FunctionQualifiers (at 9) None none) none))))
    (more (node k.CompoundStatement (at 9) (Some 8) (more
    (node k.ReturnStatement (at 11) (Some 5) (more (node k.IntegerLiteral (at 18) (Some 6) none) none)) none)) none))))
    ∷ (node k.FunctionDefinition (at 27) (Some 9) (more (node k.TypeSpecifierSeq (at 23) None (more (node k.SimpleTypeSpecifier (at 23) (Some 9) none) none))
    (more (node k.FunctionDeclarator (at 27) (Some 11)
    (more (node k.DeclaratorId (at 27) (Some 10) none)
    (more (node k.ParameterDeclarationClause (at 32) None none) (more (node k.FunctionQualifiers (at 34) None none) none))))
    (more (node k.CompoundStatement (at 34) (Some 17)
    (more (node k.ReturnStatement (at 36) (Some 14) (more (node k.IntegerLiteral (at 43) (Some 15) none) none)) none)) none))))
    ∷ []

--     int main() { int x = 1; throw &x; }
abbrev pub bad_throw_tokens : List Lexeme
bad_throw_tokens = token t.Key 0 3 0 (codes "int")
    ∷ token t.Name 4 8 0 (codes "main")
    ∷ token t.Punct 8 9 0 (codes "(")
    ∷ token t.Punct 9 10 0 (codes ")")
    ∷ token t.Punct 11 12 0 (codes "{")
    ∷ token t.Key 13 16 0 (codes "int")
    ∷ token t.Name 17 18 0 (codes "x")
    ∷ token t.Punct 19 20 0 (codes "=")
    ∷ token t.Int 21 22 1 (codes "1")
    ∷ token t.Punct 22 23 0 (codes ";")
    ∷ token t.Key 24 29 0 (codes "throw")
    ∷ token t.Punct 30 31 0 (codes "&")
    ∷ token t.Name 31 32 0 (codes "x")
    ∷ token t.Punct 32 33 0 (codes ";")
    ∷ token t.Punct 34 35 0 (codes "}")
    ∷ []

abbrev pub bad_throw_decls : List Tree
bad_throw_decls = (node k.FunctionDefinition (at 4) (Some 0)
    (more (node k.TypeSpecifierSeq (at 0) None (more (node k.SimpleTypeSpecifier (at 0) (Some 0) none) none))
    (more (node k.FunctionDeclarator (at 4) (Some 2) (more (node k.DeclaratorId (at 4) (Some 1) none)
    (more (node k.ParameterDeclarationClause (at 9) None none) (more (node k.FunctionQualifiers (at 11) None none) none))))
    (more (node k.CompoundStatement (at 11) (Some 14)
    (more (node k.SimpleDeclaration (at 17) (Some 5) (more (node k.TypeSpecifierSeq (at 13) None (more (node k.SimpleTypeSpecifier (at 13) (Some 5) none) none))
    (more (node k.InitDeclarator (at 17) (Some 6) (more (node k.DeclaratorId (at 17) (Some 6) none)
    (more (node k.EqualInitializer (at 19) (Some 7) (more (node k.IntegerLiteral (at 21) (Some 8) none) none)) none))) none)))
    (more (node k.ExpressionStatement (at 24) (Some 13)
    (more (node k.ThrowExpression (at 24) (Some 10) (more
    (node k.UnaryExpression (at 30) (Some 11) (more (node k.UnqualifiedId (at 31) (Some 12) none) none)) none)) none)) none))) none))))
    ∷ []

--     int main() { const int a = 1; a = 2; return 0; }
abbrev pub const_target_tokens : List Lexeme
const_target_tokens = token t.Key 0 3 0 (codes "int")
    ∷ token t.Name 4 8 0 (codes "main")
    ∷ token t.Punct 8 9 0 (codes "(")
    ∷ token t.Punct 9 10 0 (codes ")")
    ∷ token t.Punct 11 12 0 (codes "{")
    ∷ token t.Key 13 18 0 (codes "const")
    ∷ token t.Key 19 22 0 (codes "int")
    ∷ token t.Name 23 24 0 (codes "a")
    ∷ token t.Punct 25 26 0 (codes "=")
    ∷ token t.Int 27 28 1 (codes "1")
    ∷ token t.Punct 28 29 0 (codes ";")
    ∷ token t.Name 30 31 0 (codes "a")
    ∷ token t.Punct 32 33 0 (codes "=")
    ∷ token t.Int 34 35 2 (codes "2")
    ∷ token t.Punct 35 36 0 (codes ";")
    ∷ token t.Key 37 43 0 (codes "return")
    ∷ token t.Int 44 45 0 (codes "0")
    ∷ token t.Punct 45 46 0 (codes ";")
    ∷ token t.Punct 47 48 0 (codes "}")
    ∷ []

abbrev pub const_target_decls : List Tree
const_target_decls = (node k.FunctionDefinition (at 4) (Some 0)
    (more (node k.TypeSpecifierSeq (at 0) None (more (node k.SimpleTypeSpecifier (at 0) (Some 0) none) none))
    (more (node k.FunctionDeclarator (at 4) (Some 2) (more (node k.DeclaratorId (at 4) (Some 1) none)
    (more (node k.ParameterDeclarationClause (at 9) None none) (more (node k.FunctionQualifiers (at 11) None none) none))))
    (more (node k.CompoundStatement (at 11) (Some 18)
    (more (node k.SimpleDeclaration (at 23) (Some 5) (more
    (node k.TypeSpecifierSeq (at 13) None (more (node k.CvQualifier (at 13) (Some 5) none) (more (node k.SimpleTypeSpecifier (at 19) (Some 6) none) none)))
    (more (node k.InitDeclarator (at 23) (Some 7) (more (node k.DeclaratorId (at 23) (Some 7) none)
    (more (node k.EqualInitializer (at 25) (Some 8) (more (node k.IntegerLiteral (at 27) (Some 9) none) none)) none))) none)))
    (more (node k.ExpressionStatement (at 30) (Some 14)
    (more (node k.AssignmentExpression (at 30) (Some 12)
    (more (node k.UnqualifiedId (at 30) (Some 11) none) (more (node k.IntegerLiteral (at 34) (Some 13) none) none))) none))
    (more (node k.ReturnStatement (at 37) (Some 15) (more (node k.IntegerLiteral (at 44) (Some 16) none) none)) none)))) none))))
    ∷ []

--     int main() { switch (1) { case 0: int x = 1; case 1: ; } return 0; }
abbrev pub jump_past_init_tokens : List Lexeme
jump_past_init_tokens = token t.Key 0 3 0 (codes "int")
    ∷ token t.Name 4 8 0 (codes "main")
    ∷ token t.Punct 8 9 0 (codes "(")
    ∷ token t.Punct 9 10 0 (codes ")")
    ∷ token t.Punct 11 12 0 (codes "{")
    ∷ token t.Key 13 19 0 (codes "switch")
    ∷ token t.Punct 20 21 0 (codes "(")
    ∷ token t.Int 21 22 1 (codes "1")
    ∷ token t.Punct 22 23 0 (codes ")")
    ∷ token t.Punct 24 25 0 (codes "{")
    ∷ token t.Key 26 30 0 (codes "case")
    ∷ token t.Int 31 32 0 (codes "0")
    ∷ token t.Punct 32 33 0 (codes ":")
    ∷ token t.Key 34 37 0 (codes "int")
    ∷ token t.Name 38 39 0 (codes "x")
    ∷ token t.Punct 40 41 0 (codes "=")
    ∷ token t.Int 42 43 1 (codes "1")
    ∷ token t.Punct 43 44 0 (codes ";")
    ∷ token t.Key 45 49 0 (codes "case")
    ∷ token t.Int 50 51 1 (codes "1")
    ∷ token t.Punct 51 52 0 (codes ":")
    ∷ token t.Punct 53 54 0 (codes ";")
    ∷ token t.Punct 55 56 0 (codes "}")
    ∷ token t.Key 57 63 0 (codes "return")
    ∷ token t.Int 64 65 0 (codes "0")
    ∷ token t.Punct 65 66 0 (codes ";")
    ∷ token t.Punct 67 68 0 (codes "}")
    ∷ []

abbrev pub jump_past_init_decls : List Tree
jump_past_init_decls = (node k.FunctionDefinition (at 4) (Some 0)
    (more (node k.TypeSpecifierSeq (at 0) None (more (node k.SimpleTypeSpecifier (at 0) (Some 0) none) none))
    (more (node k.FunctionDeclarator (at 4) (Some 2) (more (node k.DeclaratorId (at 4) (Some 1) none)
    (more (node k.ParameterDeclarationClause (at 9) None none) (more (node k.FunctionQualifiers (at 11) None none) none))))
    (more (node k.CompoundStatement (at 11) (Some 26)
    (more (node k.SwitchStatement (at 13) (Some 5) (more (node k.IntegerLiteral (at 21) (Some 7) none)
    (more (node k.CompoundStatement (at 24) (Some 22)
    (more (node k.CaseStatement (at 26) (Some 10) (more (node k.IntegerLiteral (at 31) (Some 11) none)
    (more (node k.SimpleDeclaration (at 38) (Some 13)
    (more (node k.TypeSpecifierSeq (at 34) None (more (node k.SimpleTypeSpecifier (at 34) (Some 13) none) none))
    (more (node k.InitDeclarator (at 38) (Some 14) (more (node k.DeclaratorId (at 38) (Some 14) none)
    (more (node k.EqualInitializer (at 40) (Some 15) (more (node k.IntegerLiteral (at 42) (Some 16) none) none)) none))) none))) none)))
    (more (node k.CaseStatement (at 45) (Some 18) (more (node k.IntegerLiteral (at 50) (Some 19) none)
    (more (node k.NullStatement (at 53) (Some 21) none) none))) none))) none)))
    (more (node k.ReturnStatement (at 57) (Some 23) (more (node k.IntegerLiteral (at 64) (Some 24) none) none)) none))) none))))
    ∷ []

--     int main() { char a[1] = {300}; return 0; }
abbrev pub narrowing_tokens : List Lexeme
narrowing_tokens = token t.Key 0 3 0 (codes "int")
    ∷ token t.Name 4 8 0 (codes "main")
    ∷ token t.Punct 8 9 0 (codes "(")
    ∷ token t.Punct 9 10 0 (codes ")")
    ∷ token t.Punct 11 12 0 (codes "{")
    ∷ token t.Key 13 17 0 (codes "char")
    ∷ token t.Name 18 19 0 (codes "a")
    ∷ token t.Punct 19 20 0 (codes "[")
    ∷ token t.Int 20 21 1 (codes "1")
    ∷ token t.Punct 21 22 0 (codes "]")
    ∷ token t.Punct 23 24 0 (codes "=")
    ∷ token t.Punct 25 26 0 (codes "{")
    ∷ token t.Int 26 29 300 (codes "300")
    ∷ token t.Punct 29 30 0 (codes "}")
    ∷ token t.Punct 30 31 0 (codes ";")
    ∷ token t.Key 32 38 0 (codes "return")
    ∷ token t.Int 39 40 0 (codes "0")
    ∷ token t.Punct 40 41 0 (codes ";")
    ∷ token t.Punct 42 43 0 (codes "}")
    ∷ []

abbrev pub narrowing_decls : List Tree
narrowing_decls = (node k.FunctionDefinition (at 4) (Some 0)
    (more (node k.TypeSpecifierSeq (at 0) None (more (node k.SimpleTypeSpecifier (at 0) (Some 0) none) none))
    (more (node k.FunctionDeclarator (at 4) (Some 2) (more (node k.DeclaratorId (at 4) (Some 1) none)
    (more (node k.ParameterDeclarationClause (at 9) None none) (more (node k.FunctionQualifiers (at 11) None none) none))))
    (more (node k.CompoundStatement (at 11) (Some 18)
    (more (node k.SimpleDeclaration (at 18) (Some 5) (more (node k.TypeSpecifierSeq (at 13) None (more (node k.SimpleTypeSpecifier (at 13) (Some 5) none) none))
    (more (node k.InitDeclarator (at 18) (Some 6) (more
    (node k.ArrayDeclarator (at 18) (Some 7) (more (node k.DeclaratorId (at 18) (Some 6) none) (more (node k.IntegerLiteral (at 20) (Some 8) none) none)))
    (more (node k.EqualInitializer (at 23) (Some 10) (more
    (node k.BracedInitList (at 25) (Some 11) (more (node k.IntegerLiteral (at 26) (Some 12) none) none)) none)) none))) none)))
    (more (node k.ReturnStatement (at 32) (Some 15) (more (node k.IntegerLiteral (at 39) (Some 16) none) none)) none))) none))))
    ∷ []

--     int main() { int* p = 1; return 0; }
abbrev pub no_conversion_tokens : List Lexeme
no_conversion_tokens = token t.Key 0 3 0 (codes "int")
    ∷ token t.Name 4 8 0 (codes "main")
    ∷ token t.Punct 8 9 0 (codes "(")
    ∷ token t.Punct 9 10 0 (codes ")")
    ∷ token t.Punct 11 12 0 (codes "{")
    ∷ token t.Key 13 16 0 (codes "int")
    ∷ token t.Punct 16 17 0 (codes "*")
    ∷ token t.Name 18 19 0 (codes "p")
    ∷ token t.Punct 20 21 0 (codes "=")
    ∷ token t.Int 22 23 1 (codes "1")
    ∷ token t.Punct 23 24 0 (codes ";")
    ∷ token t.Key 25 31 0 (codes "return")
    ∷ token t.Int 32 33 0 (codes "0")
    ∷ token t.Punct 33 34 0 (codes ";")
    ∷ token t.Punct 35 36 0 (codes "}")
    ∷ []

abbrev pub no_conversion_decls : List Tree
no_conversion_decls = (node k.FunctionDefinition (at 4) (Some 0)
    (more (node k.TypeSpecifierSeq (at 0) None (more (node k.SimpleTypeSpecifier (at 0) (Some 0) none) none))
    (more (node k.FunctionDeclarator (at 4) (Some 2) (more (node k.DeclaratorId (at 4) (Some 1) none)
    (more (node k.ParameterDeclarationClause (at 9) None none) (more (node k.FunctionQualifiers (at 11) None none) none))))
    (more (node k.CompoundStatement (at 11) (Some 14)
    (more (node k.SimpleDeclaration (at 18) (Some 5) (more (node k.TypeSpecifierSeq (at 13) None (more (node k.SimpleTypeSpecifier (at 13) (Some 5) none) none))
    (more (node k.InitDeclarator (at 18) (Some 7) (more (node k.PointerDeclarator (at 16) (Some 6) (more (node k.DeclaratorId (at 18) (Some 7) none) none))
    (more (node k.EqualInitializer (at 20) (Some 8) (more (node k.IntegerLiteral (at 22) (Some 9) none) none)) none))) none)))
    (more (node k.ReturnStatement (at 25) (Some 11) (more (node k.IntegerLiteral (at 32) (Some 12) none) none)) none))) none))))
    ∷ []

--     int main() { std::tx_exception<int> e; return 0; }
abbrev pub no_default_tokens : List Lexeme
no_default_tokens = token t.Key 0 3 0 (codes "int")
    ∷ token t.Name 4 8 0 (codes "main")
    ∷ token t.Punct 8 9 0 (codes "(")
    ∷ token t.Punct 9 10 0 (codes ")")
    ∷ token t.Punct 11 12 0 (codes "{")
    ∷ token t.Name 13 16 0 (codes "std")
    ∷ token t.Punct 16 18 0 (codes "::")
    ∷ token t.Name 18 30 0 (codes "tx_exception")
    ∷ token t.Punct 30 31 0 (codes "<")
    ∷ token t.Key 31 34 0 (codes "int")
    ∷ token t.Punct 34 35 0 (codes ">")
    ∷ token t.Name 36 37 0 (codes "e")
    ∷ token t.Punct 37 38 0 (codes ";")
    ∷ token t.Key 39 45 0 (codes "return")
    ∷ token t.Int 46 47 0 (codes "0")
    ∷ token t.Punct 47 48 0 (codes ";")
    ∷ token t.Punct 49 50 0 (codes "}")
    ∷ []

abbrev pub no_default_decls : List Tree
no_default_decls = (node k.FunctionDefinition (at 4) (Some 0)
    (more (node k.TypeSpecifierSeq (at 0) None (more (node k.SimpleTypeSpecifier (at 0) (Some 0) none) none))
    (more (node k.FunctionDeclarator (at 4) (Some 2) (more (node k.DeclaratorId (at 4) (Some 1) none)
    (more (node k.ParameterDeclarationClause (at 9) None none) (more (node k.FunctionQualifiers (at 11) None none) none))))
    (more (node k.CompoundStatement (at 11) (Some 16)
    (more (node k.SimpleDeclaration (at 36) (Some 5) (more
    (node k.TypeSpecifierSeq (at 13) None (more (node k.TxException (at 13) (Some 7)
    (more (node k.TypeId (at 31) None (more (node k.TypeSpecifierSeq (at 31) None (more (node k.SimpleTypeSpecifier (at 31) (Some 9) none) none))
    (more (node k.OmittedId (at 34) None none) none))) none)) none))
    (more (node k.InitDeclarator (at 36) (Some 11) (more (node k.DeclaratorId (at 36) (Some 11) none) none)) none)))
    (more (node k.ReturnStatement (at 39) (Some 13) (more (node k.IntegerLiteral (at 46) (Some 14) none) none)) none))) none))))
    ∷ []

--     enum class E { a }; int main() { return E::b == E::a; }
abbrev pub no_member_tokens : List Lexeme
no_member_tokens = token t.Key 0 4 0 (codes "enum")
    ∷ token t.Key 5 10 0 (codes "class")
    ∷ token t.Name 11 12 0 (codes "E")
    ∷ token t.Punct 13 14 0 (codes "{")
    ∷ token t.Name 15 16 0 (codes "a")
    ∷ token t.Punct 17 18 0 (codes "}")
    ∷ token t.Punct 18 19 0 (codes ";")
    ∷ token t.Key 20 23 0 (codes "int")
    ∷ token t.Name 24 28 0 (codes "main")
    ∷ token t.Punct 28 29 0 (codes "(")
    ∷ token t.Punct 29 30 0 (codes ")")
    ∷ token t.Punct 31 32 0 (codes "{")
    ∷ token t.Key 33 39 0 (codes "return")
    ∷ token t.Name 40 41 0 (codes "E")
    ∷ token t.Punct 41 43 0 (codes "::")
    ∷ token t.Name 43 44 0 (codes "b")
    ∷ token t.Punct 45 47 0 (codes "==")
    ∷ token t.Name 48 49 0 (codes "E")
    ∷ token t.Punct 49 51 0 (codes "::")
    ∷ token t.Name 51 52 0 (codes "a")
    ∷ token t.Punct 52 53 0 (codes ";")
    ∷ token t.Punct 54 55 0 (codes "}")
    ∷ []

abbrev pub no_member_decls : List Tree
no_member_decls = (node k.EnumSpecifier (at 11) (Some 2)
    (more (node k.ClassKey (at 5) (Some 1) none) (more (node k.EnumeratorDefinition (at 15) (Some 4) none) none)))
    ∷ (node k.FunctionDefinition (at 24) (Some 7) (more (node k.TypeSpecifierSeq (at 20) None (more (node k.SimpleTypeSpecifier (at 20) (Some 7) none) none))
    (more (node k.FunctionDeclarator (at 24) (Some 9)
    (more (node k.DeclaratorId (at 24) (Some 8) none)
    (more (node k.ParameterDeclarationClause (at 29) None none) (more (node k.FunctionQualifiers (at 31) None none) none))))
    (more (node k.CompoundStatement (at 31) (Some 21)
    (more (node k.ReturnStatement (at 33) (Some 12)
    (more (node k.BinaryExpression (at 40) (Some 16)
    (more (node k.QualifiedId (at 40) (Some 15) (more (node k.TypeName (at 40) (Some 13) none) none))
    (more (node k.QualifiedId (at 48) (Some 19) (more (node k.TypeName (at 48) (Some 17) none) none)) none))) none)) none)) none))))
    ∷ []

--     int f(int a) { return a; } int main() { return f(); }
abbrev pub no_viable_tokens : List Lexeme
no_viable_tokens = token t.Key 0 3 0 (codes "int")
    ∷ token t.Name 4 5 0 (codes "f")
    ∷ token t.Punct 5 6 0 (codes "(")
    ∷ token t.Key 6 9 0 (codes "int")
    ∷ token t.Name 10 11 0 (codes "a")
    ∷ token t.Punct 11 12 0 (codes ")")
    ∷ token t.Punct 13 14 0 (codes "{")
    ∷ token t.Key 15 21 0 (codes "return")
    ∷ token t.Name 22 23 0 (codes "a")
    ∷ token t.Punct 23 24 0 (codes ";")
    ∷ token t.Punct 25 26 0 (codes "}")
    ∷ token t.Key 27 30 0 (codes "int")
    ∷ token t.Name 31 35 0 (codes "main")
    ∷ token t.Punct 35 36 0 (codes "(")
    ∷ token t.Punct 36 37 0 (codes ")")
    ∷ token t.Punct 38 39 0 (codes "{")
    ∷ token t.Key 40 46 0 (codes "return")
    ∷ token t.Name 47 48 0 (codes "f")
    ∷ token t.Punct 48 49 0 (codes "(")
    ∷ token t.Punct 49 50 0 (codes ")")
    ∷ token t.Punct 50 51 0 (codes ";")
    ∷ token t.Punct 52 53 0 (codes "}")
    ∷ []

abbrev pub no_viable_decls : List Tree
no_viable_decls = (node k.FunctionDefinition (at 4) (Some 0)
    (more (node k.TypeSpecifierSeq (at 0) None (more (node k.SimpleTypeSpecifier (at 0) (Some 0) none) none))
    (more (node k.FunctionDeclarator (at 4) (Some 2) (more (node k.DeclaratorId (at 4) (Some 1) none)
    (more (node k.ParameterDeclarationClause (at 6) None
    (more (node k.ParameterDeclaration (at 10) None (more (node k.TypeSpecifierSeq (at 6) None (more (node k.SimpleTypeSpecifier (at 6) (Some 3) none) none))
    (more (node k.DeclaratorId (at 10) (Some 4) none) none))) none)) (more (node k.FunctionQualifiers (at 13) None none) none))))
    (more (node k.CompoundStatement (at 13) (Some 10)
    (more (node k.ReturnStatement (at 15) (Some 7) (more (node k.UnqualifiedId (at 22) (Some 8) none) none)) none)) none))))
    ∷ (node k.FunctionDefinition (at 31) (Some 11) (more (node k.TypeSpecifierSeq (at 27) None (more (node k.SimpleTypeSpecifier (at 27) (Some 11) none) none))
    (more (node k.FunctionDeclarator (at 31) (Some 13)
    (more (node k.DeclaratorId (at 31) (Some 12) none)
    (more (node k.ParameterDeclarationClause (at 36) None none) (more (node k.FunctionQualifiers (at 38) None none) none))))
    (more (node k.CompoundStatement (at 38) (Some 21)
    (more (node k.ReturnStatement (at 40) (Some 16)
    (more (node k.FunctionCall (at 47) (Some 18) (more (node k.UnqualifiedId (at 47) (Some 17) none) none)) none)) none)) none))))
    ∷ []

--     int main() { int x = 1; return x(); }
abbrev pub not_callable_tokens : List Lexeme
not_callable_tokens = token t.Key 0 3 0 (codes "int")
    ∷ token t.Name 4 8 0 (codes "main")
    ∷ token t.Punct 8 9 0 (codes "(")
    ∷ token t.Punct 9 10 0 (codes ")")
    ∷ token t.Punct 11 12 0 (codes "{")
    ∷ token t.Key 13 16 0 (codes "int")
    ∷ token t.Name 17 18 0 (codes "x")
    ∷ token t.Punct 19 20 0 (codes "=")
    ∷ token t.Int 21 22 1 (codes "1")
    ∷ token t.Punct 22 23 0 (codes ";")
    ∷ token t.Key 24 30 0 (codes "return")
    ∷ token t.Name 31 32 0 (codes "x")
    ∷ token t.Punct 32 33 0 (codes "(")
    ∷ token t.Punct 33 34 0 (codes ")")
    ∷ token t.Punct 34 35 0 (codes ";")
    ∷ token t.Punct 36 37 0 (codes "}")
    ∷ []

abbrev pub not_callable_decls : List Tree
not_callable_decls = (node k.FunctionDefinition (at 4) (Some 0)
    (more (node k.TypeSpecifierSeq (at 0) None (more (node k.SimpleTypeSpecifier (at 0) (Some 0) none) none))
    (more (node k.FunctionDeclarator (at 4) (Some 2) (more (node k.DeclaratorId (at 4) (Some 1) none)
    (more (node k.ParameterDeclarationClause (at 9) None none) (more (node k.FunctionQualifiers (at 11) None none) none))))
    (more (node k.CompoundStatement (at 11) (Some 15)
    (more (node k.SimpleDeclaration (at 17) (Some 5) (more (node k.TypeSpecifierSeq (at 13) None (more (node k.SimpleTypeSpecifier (at 13) (Some 5) none) none))
    (more (node k.InitDeclarator (at 17) (Some 6) (more (node k.DeclaratorId (at 17) (Some 6) none)
    (more (node k.EqualInitializer (at 19) (Some 7) (more (node k.IntegerLiteral (at 21) (Some 8) none) none)) none))) none)))
    (more (node k.ReturnStatement (at 24) (Some 10) (more
    (node k.FunctionCall (at 31) (Some 12) (more (node k.UnqualifiedId (at 31) (Some 11) none) none)) none)) none))) none))))
    ∷ []

--     int n = 2; int a[n]; int main() { return 0; }
abbrev pub not_constant_tokens : List Lexeme
not_constant_tokens = token t.Key 0 3 0 (codes "int")
    ∷ token t.Name 4 5 0 (codes "n")
    ∷ token t.Punct 6 7 0 (codes "=")
    ∷ token t.Int 8 9 2 (codes "2")
    ∷ token t.Punct 9 10 0 (codes ";")
    ∷ token t.Key 11 14 0 (codes "int")
    ∷ token t.Name 15 16 0 (codes "a")
    ∷ token t.Punct 16 17 0 (codes "[")
    ∷ token t.Name 17 18 0 (codes "n")
    ∷ token t.Punct 18 19 0 (codes "]")
    ∷ token t.Punct 19 20 0 (codes ";")
    ∷ token t.Key 21 24 0 (codes "int")
    ∷ token t.Name 25 29 0 (codes "main")
    ∷ token t.Punct 29 30 0 (codes "(")
    ∷ token t.Punct 30 31 0 (codes ")")
    ∷ token t.Punct 32 33 0 (codes "{")
    ∷ token t.Key 34 40 0 (codes "return")
    ∷ token t.Int 41 42 0 (codes "0")
    ∷ token t.Punct 42 43 0 (codes ";")
    ∷ token t.Punct 44 45 0 (codes "}")
    ∷ []

abbrev pub not_constant_decls : List Tree
not_constant_decls = (node k.SimpleDeclaration (at 4) (Some 0)
    (more (node k.TypeSpecifierSeq (at 0) None (more (node k.SimpleTypeSpecifier (at 0) (Some 0) none) none))
    (more (node k.InitDeclarator (at 4) (Some 1) (more (node k.DeclaratorId (at 4) (Some 1) none)
    (more (node k.EqualInitializer (at 6) (Some 2) (more (node k.IntegerLiteral (at 8) (Some 3) none) none)) none))) none)))
    ∷ (node k.SimpleDeclaration (at 15) (Some 5) (more (node k.TypeSpecifierSeq (at 11) None (more (node k.SimpleTypeSpecifier (at 11) (Some 5) none) none))
    (more (node k.InitDeclarator (at 15) (Some 6)
    (more (node k.ArrayDeclarator (at 15) (Some 7)
    (more (node k.DeclaratorId (at 15) (Some 6) none) (more (node k.UnqualifiedId (at 17) (Some 8) none) none))) none)) none)))
    ∷ (node k.FunctionDefinition (at 25) (Some 11) (more (node k.TypeSpecifierSeq (at 21) None (more (node k.SimpleTypeSpecifier (at 21) (Some 11) none) none))
    (more (node k.FunctionDeclarator (at 25) (Some 13)
    (more (node k.DeclaratorId (at 25) (Some 12) none)
    (more (node k.ParameterDeclarationClause (at 30) None none) (more (node k.FunctionQualifiers (at 32) None none) none))))
    (more (node k.CompoundStatement (at 32) (Some 19)
    (more (node k.ReturnStatement (at 34) (Some 16) (more (node k.IntegerLiteral (at 41) (Some 17) none) none)) none)) none))))
    ∷ []

--     int main() { 1 = 2; return 0; }
abbrev pub not_lvalue_tokens : List Lexeme
not_lvalue_tokens = token t.Key 0 3 0 (codes "int")
    ∷ token t.Name 4 8 0 (codes "main")
    ∷ token t.Punct 8 9 0 (codes "(")
    ∷ token t.Punct 9 10 0 (codes ")")
    ∷ token t.Punct 11 12 0 (codes "{")
    ∷ token t.Int 13 14 1 (codes "1")
    ∷ token t.Punct 15 16 0 (codes "=")
    ∷ token t.Int 17 18 2 (codes "2")
    ∷ token t.Punct 18 19 0 (codes ";")
    ∷ token t.Key 20 26 0 (codes "return")
    ∷ token t.Int 27 28 0 (codes "0")
    ∷ token t.Punct 28 29 0 (codes ";")
    ∷ token t.Punct 30 31 0 (codes "}")
    ∷ []

abbrev pub not_lvalue_decls : List Tree
not_lvalue_decls = (node k.FunctionDefinition (at 4) (Some 0)
    (more (node k.TypeSpecifierSeq (at 0) None (more (node k.SimpleTypeSpecifier (at 0) (Some 0) none) none))
    (more (node k.FunctionDeclarator (at 4) (Some 2) (more (node k.DeclaratorId (at 4) (Some 1) none)
    (more (node k.ParameterDeclarationClause (at 9) None none) (more (node k.FunctionQualifiers (at 11) None none) none))))
    (more (node k.CompoundStatement (at 11) (Some 12)
    (more (node k.ExpressionStatement (at 13) (Some 8)
    (more (node k.AssignmentExpression (at 13) (Some 6)
    (more (node k.IntegerLiteral (at 13) (Some 5) none) (more (node k.IntegerLiteral (at 17) (Some 7) none) none))) none))
    (more (node k.ReturnStatement (at 20) (Some 9) (more (node k.IntegerLiteral (at 27) (Some 10) none) none)) none))) none))))
    ∷ []

--     void f(const std::tx_exception<int*>& e); int main() { return 0; }
abbrev pub not_trivially_copyable_tokens : List Lexeme
not_trivially_copyable_tokens = token t.Key 0 4 0 (codes "void")
    ∷ token t.Name 5 6 0 (codes "f")
    ∷ token t.Punct 6 7 0 (codes "(")
    ∷ token t.Key 7 12 0 (codes "const")
    ∷ token t.Name 13 16 0 (codes "std")
    ∷ token t.Punct 16 18 0 (codes "::")
    ∷ token t.Name 18 30 0 (codes "tx_exception")
    ∷ token t.Punct 30 31 0 (codes "<")
    ∷ token t.Key 31 34 0 (codes "int")
    ∷ token t.Punct 34 35 0 (codes "*")
    ∷ token t.Punct 35 36 0 (codes ">")
    ∷ token t.Punct 36 37 0 (codes "&")
    ∷ token t.Name 38 39 0 (codes "e")
    ∷ token t.Punct 39 40 0 (codes ")")
    ∷ token t.Punct 40 41 0 (codes ";")
    ∷ token t.Key 42 45 0 (codes "int")
    ∷ token t.Name 46 50 0 (codes "main")
    ∷ token t.Punct 50 51 0 (codes "(")
    ∷ token t.Punct 51 52 0 (codes ")")
    ∷ token t.Punct 53 54 0 (codes "{")
    ∷ token t.Key 55 61 0 (codes "return")
    ∷ token t.Int 62 63 0 (codes "0")
    ∷ token t.Punct 63 64 0 (codes ";")
    ∷ token t.Punct 65 66 0 (codes "}")
    ∷ []

abbrev pub not_trivially_copyable_decls : List Tree
not_trivially_copyable_decls = (node k.SimpleDeclaration (at 5) (Some 0)
    (more (node k.TypeSpecifierSeq (at 0) None (more (node k.SimpleTypeSpecifier (at 0) (Some 0) none) none))
    (more (node k.InitDeclarator (at 5) (Some 1) (more
    (node k.FunctionDeclarator (at 5) (Some 2) (more (node k.DeclaratorId (at 5) (Some 1) none)
    (more (node k.ParameterDeclarationClause (at 7) None
    (more (node k.ParameterDeclaration (at 38) None (more
    (node k.TypeSpecifierSeq (at 7) None (more (node k.CvQualifier (at 7) (Some 3) none)
    (more (node k.TxException (at 13) (Some 6) (more (node k.TypeId (at 31) None
    (more (node k.TypeSpecifierSeq (at 31) None (more (node k.SimpleTypeSpecifier (at 31) (Some 8) none) none))
    (more (node k.PointerDeclarator (at 34) (Some 9) (more (node k.OmittedId (at 35) None none) none)) none))) none)) none)))
    (more (node k.ReferenceDeclarator (at 36) (Some 11) (more (node k.DeclaratorId (at 38) (Some 12) none) none)) none))) none))
    (more (node k.FunctionQualifiers (at 40) None none) none)))) none)) none)))
    ∷ (node k.FunctionDefinition (at 46) (Some 15) (more (node k.TypeSpecifierSeq (at 42) None (more (node k.SimpleTypeSpecifier (at 42) (Some 15) none) none))
    (more (node k.FunctionDeclarator (at 46) (Some 17)
    (more (node k.DeclaratorId (at 46) (Some 16) none)
    (more (node k.ParameterDeclarationClause (at 51) None none) (more (node k.FunctionQualifiers (at 53) None none) none))))
    (more (node k.CompoundStatement (at 53) (Some 23)
    (more (node k.ReturnStatement (at 55) (Some 20) (more (node k.IntegerLiteral (at 62) (Some 21) none) none)) none)) none))))
    ∷ []

--     int& r; int main() { return 0; }
abbrev pub out_of_profile_tokens : List Lexeme
out_of_profile_tokens = token t.Key 0 3 0 (codes "int")
    ∷ token t.Punct 3 4 0 (codes "&")
    ∷ token t.Name 5 6 0 (codes "r")
    ∷ token t.Punct 6 7 0 (codes ";")
    ∷ token t.Key 8 11 0 (codes "int")
    ∷ token t.Name 12 16 0 (codes "main")
    ∷ token t.Punct 16 17 0 (codes "(")
    ∷ token t.Punct 17 18 0 (codes ")")
    ∷ token t.Punct 19 20 0 (codes "{")
    ∷ token t.Key 21 27 0 (codes "return")
    ∷ token t.Int 28 29 0 (codes "0")
    ∷ token t.Punct 29 30 0 (codes ";")
    ∷ token t.Punct 31 32 0 (codes "}")
    ∷ []

abbrev pub out_of_profile_decls : List Tree
out_of_profile_decls = (node k.SimpleDeclaration (at 5) (Some 0)
    (more (node k.TypeSpecifierSeq (at 0) None (more (node k.SimpleTypeSpecifier (at 0) (Some 0) none) none))
    (more (node k.InitDeclarator (at 5) (Some 2) (more
    (node k.ReferenceDeclarator (at 3) (Some 1) (more (node k.DeclaratorId (at 5) (Some 2) none) none)) none)) none)))
    ∷ (node k.FunctionDefinition (at 12) (Some 4) (more (node k.TypeSpecifierSeq (at 8) None (more (node k.SimpleTypeSpecifier (at 8) (Some 4) none) none))
    (more (node k.FunctionDeclarator (at 12) (Some 6)
    (more (node k.DeclaratorId (at 12) (Some 5) none)
    (more (node k.ParameterDeclarationClause (at 17) None none) (more (node k.FunctionQualifiers (at 19) None none) none))))
    (more (node k.CompoundStatement (at 19) (Some 12)
    (more (node k.ReturnStatement (at 21) (Some 9) (more (node k.IntegerLiteral (at 28) (Some 10) none) none)) none)) none))))
    ∷ []

--     int main() { int x = 1; long x = 2; return 0; }
abbrev pub redeclared_tokens : List Lexeme
redeclared_tokens = token t.Key 0 3 0 (codes "int")
    ∷ token t.Name 4 8 0 (codes "main")
    ∷ token t.Punct 8 9 0 (codes "(")
    ∷ token t.Punct 9 10 0 (codes ")")
    ∷ token t.Punct 11 12 0 (codes "{")
    ∷ token t.Key 13 16 0 (codes "int")
    ∷ token t.Name 17 18 0 (codes "x")
    ∷ token t.Punct 19 20 0 (codes "=")
    ∷ token t.Int 21 22 1 (codes "1")
    ∷ token t.Punct 22 23 0 (codes ";")
    ∷ token t.Key 24 28 0 (codes "long")
    ∷ token t.Name 29 30 0 (codes "x")
    ∷ token t.Punct 31 32 0 (codes "=")
    ∷ token t.Int 33 34 2 (codes "2")
    ∷ token t.Punct 34 35 0 (codes ";")
    ∷ token t.Key 36 42 0 (codes "return")
    ∷ token t.Int 43 44 0 (codes "0")
    ∷ token t.Punct 44 45 0 (codes ";")
    ∷ token t.Punct 46 47 0 (codes "}")
    ∷ []

abbrev pub redeclared_decls : List Tree
redeclared_decls = (node k.FunctionDefinition (at 4) (Some 0)
    (more (node k.TypeSpecifierSeq (at 0) None (more (node k.SimpleTypeSpecifier (at 0) (Some 0) none) none))
    (more (node k.FunctionDeclarator (at 4) (Some 2) (more (node k.DeclaratorId (at 4) (Some 1) none)
    (more (node k.ParameterDeclarationClause (at 9) None none) (more (node k.FunctionQualifiers (at 11) None none) none))))
    (more (node k.CompoundStatement (at 11) (Some 18)
    (more (node k.SimpleDeclaration (at 17) (Some 5) (more (node k.TypeSpecifierSeq (at 13) None (more (node k.SimpleTypeSpecifier (at 13) (Some 5) none) none))
    (more (node k.InitDeclarator (at 17) (Some 6) (more (node k.DeclaratorId (at 17) (Some 6) none)
    (more (node k.EqualInitializer (at 19) (Some 7) (more (node k.IntegerLiteral (at 21) (Some 8) none) none)) none))) none)))
    (more (node k.SimpleDeclaration (at 29) (Some 10)
    (more (node k.TypeSpecifierSeq (at 24) None (more (node k.SimpleTypeSpecifier (at 24) (Some 10) none) none))
    (more (node k.InitDeclarator (at 29) (Some 11) (more (node k.DeclaratorId (at 29) (Some 11) none)
    (more (node k.EqualInitializer (at 31) (Some 12) (more (node k.IntegerLiteral (at 33) (Some 13) none) none)) none))) none)))
    (more (node k.ReturnStatement (at 36) (Some 15) (more (node k.IntegerLiteral (at 43) (Some 16) none) none)) none)))) none))))
    ∷ []

--     void f() transaction_safe; void f() {} int main() { return 0; }
abbrev pub safety_differs_tokens : List Lexeme
safety_differs_tokens = token t.Key 0 4 0 (codes "void")
    ∷ token t.Name 5 6 0 (codes "f")
    ∷ token t.Punct 6 7 0 (codes "(")
    ∷ token t.Punct 7 8 0 (codes ")")
    ∷ token t.Name 9 25 0 (codes "transaction_safe")
    ∷ token t.Punct 25 26 0 (codes ";")
    ∷ token t.Key 27 31 0 (codes "void")
    ∷ token t.Name 32 33 0 (codes "f")
    ∷ token t.Punct 33 34 0 (codes "(")
    ∷ token t.Punct 34 35 0 (codes ")")
    ∷ token t.Punct 36 37 0 (codes "{")
    ∷ token t.Punct 37 38 0 (codes "}")
    ∷ token t.Key 39 42 0 (codes "int")
    ∷ token t.Name 43 47 0 (codes "main")
    ∷ token t.Punct 47 48 0 (codes "(")
    ∷ token t.Punct 48 49 0 (codes ")")
    ∷ token t.Punct 50 51 0 (codes "{")
    ∷ token t.Key 52 58 0 (codes "return")
    ∷ token t.Int 59 60 0 (codes "0")
    ∷ token t.Punct 60 61 0 (codes ";")
    ∷ token t.Punct 62 63 0 (codes "}")
    ∷ []

abbrev pub safety_differs_decls : List Tree
safety_differs_decls = (node k.SimpleDeclaration (at 5) (Some 0)
    (more (node k.TypeSpecifierSeq (at 0) None (more (node k.SimpleTypeSpecifier (at 0) (Some 0) none) none))
    (more (node k.InitDeclarator (at 5) (Some 1) (more
    (node k.FunctionDeclarator (at 5) (Some 2) (more (node k.DeclaratorId (at 5) (Some 1) none)
    (more (node k.ParameterDeclarationClause (at 7) None none)
    (more (node k.FunctionQualifiers (at 9) None (more (node k.TxQualifier (at 9) (Some 4) none) none)) none)))) none)) none)))
    ∷ (node k.FunctionDefinition (at 32) (Some 6) (more (node k.TypeSpecifierSeq (at 27) None (more (node k.SimpleTypeSpecifier (at 27) (Some 6) none) none))
    (more (node k.FunctionDeclarator (at 32) (Some 8)
    (more (node k.DeclaratorId (at 32) (Some 7) none)
    (more (node k.ParameterDeclarationClause (at 34) None none) (more (node k.FunctionQualifiers (at 36) None none) none))))
    (more (node k.CompoundStatement (at 36) (Some 11) none) none))))
    ∷ (node k.FunctionDefinition (at 43) (Some 12) (more (node k.TypeSpecifierSeq (at 39) None (more (node k.SimpleTypeSpecifier (at 39) (Some 12) none) none))
    (more (node k.FunctionDeclarator (at 43) (Some 14)
    (more (node k.DeclaratorId (at 43) (Some 13) none)
    (more (node k.ParameterDeclarationClause (at 48) None none) (more (node k.FunctionQualifiers (at 50) None none) none))))
    (more (node k.CompoundStatement (at 50) (Some 20)
    (more (node k.ReturnStatement (at 52) (Some 17) (more (node k.IntegerLiteral (at 59) (Some 18) none) none)) none)) none))))
    ∷ []

--     int f(); long f(); int main() { return 0; }
abbrev pub type_differs_tokens : List Lexeme
type_differs_tokens = token t.Key 0 3 0 (codes "int")
    ∷ token t.Name 4 5 0 (codes "f")
    ∷ token t.Punct 5 6 0 (codes "(")
    ∷ token t.Punct 6 7 0 (codes ")")
    ∷ token t.Punct 7 8 0 (codes ";")
    ∷ token t.Key 9 13 0 (codes "long")
    ∷ token t.Name 14 15 0 (codes "f")
    ∷ token t.Punct 15 16 0 (codes "(")
    ∷ token t.Punct 16 17 0 (codes ")")
    ∷ token t.Punct 17 18 0 (codes ";")
    ∷ token t.Key 19 22 0 (codes "int")
    ∷ token t.Name 23 27 0 (codes "main")
    ∷ token t.Punct 27 28 0 (codes "(")
    ∷ token t.Punct 28 29 0 (codes ")")
    ∷ token t.Punct 30 31 0 (codes "{")
    ∷ token t.Key 32 38 0 (codes "return")
    ∷ token t.Int 39 40 0 (codes "0")
    ∷ token t.Punct 40 41 0 (codes ";")
    ∷ token t.Punct 42 43 0 (codes "}")
    ∷ []

abbrev pub type_differs_decls : List Tree
type_differs_decls = (node k.SimpleDeclaration (at 4) (Some 0)
    (more (node k.TypeSpecifierSeq (at 0) None (more (node k.SimpleTypeSpecifier (at 0) (Some 0) none) none))
    (more (node k.InitDeclarator (at 4) (Some 1) (more
    (node k.FunctionDeclarator (at 4) (Some 2) (more (node k.DeclaratorId (at 4) (Some 1) none)
    (more (node k.ParameterDeclarationClause (at 6) None none) (more (node k.FunctionQualifiers (at 7) None none) none)))) none)) none)))
    ∷ (node k.SimpleDeclaration (at 14) (Some 5) (more (node k.TypeSpecifierSeq (at 9) None (more (node k.SimpleTypeSpecifier (at 9) (Some 5) none) none))
    (more (node k.InitDeclarator (at 14) (Some 6)
    (more (node k.FunctionDeclarator (at 14) (Some 7)
    (more (node k.DeclaratorId (at 14) (Some 6) none)
    (more (node k.ParameterDeclarationClause (at 16) None none) (more (node k.FunctionQualifiers (at 17) None none) none)))) none)) none)))
    ∷ (node k.FunctionDefinition (at 23) (Some 10) (more (node k.TypeSpecifierSeq (at 19) None (more (node k.SimpleTypeSpecifier (at 19) (Some 10) none) none))
    (more (node k.FunctionDeclarator (at 23) (Some 12)
    (more (node k.DeclaratorId (at 23) (Some 11) none)
    (more (node k.ParameterDeclarationClause (at 28) None none) (more (node k.FunctionQualifiers (at 30) None none) none))))
    (more (node k.CompoundStatement (at 30) (Some 18)
    (more (node k.ReturnStatement (at 32) (Some 15) (more (node k.IntegerLiteral (at 39) (Some 16) none) none)) none)) none))))
    ∷ []

--     int main() { long q = 2; return qq; }
abbrev pub unknown_name_tokens : List Lexeme
unknown_name_tokens = token t.Key 0 3 0 (codes "int")
    ∷ token t.Name 4 8 0 (codes "main")
    ∷ token t.Punct 8 9 0 (codes "(")
    ∷ token t.Punct 9 10 0 (codes ")")
    ∷ token t.Punct 11 12 0 (codes "{")
    ∷ token t.Key 13 17 0 (codes "long")
    ∷ token t.Name 18 19 0 (codes "q")
    ∷ token t.Punct 20 21 0 (codes "=")
    ∷ token t.Int 22 23 2 (codes "2")
    ∷ token t.Punct 23 24 0 (codes ";")
    ∷ token t.Key 25 31 0 (codes "return")
    ∷ token t.Name 32 34 0 (codes "qq")
    ∷ token t.Punct 34 35 0 (codes ";")
    ∷ token t.Punct 36 37 0 (codes "}")
    ∷ []

abbrev pub unknown_name_decls : List Tree
unknown_name_decls = (node k.FunctionDefinition (at 4) (Some 0)
    (more (node k.TypeSpecifierSeq (at 0) None (more (node k.SimpleTypeSpecifier (at 0) (Some 0) none) none))
    (more (node k.FunctionDeclarator (at 4) (Some 2) (more (node k.DeclaratorId (at 4) (Some 1) none)
    (more (node k.ParameterDeclarationClause (at 9) None none) (more (node k.FunctionQualifiers (at 11) None none) none))))
    (more (node k.CompoundStatement (at 11) (Some 13)
    (more (node k.SimpleDeclaration (at 18) (Some 5) (more (node k.TypeSpecifierSeq (at 13) None (more (node k.SimpleTypeSpecifier (at 13) (Some 5) none) none))
    (more (node k.InitDeclarator (at 18) (Some 6) (more (node k.DeclaratorId (at 18) (Some 6) none)
    (more (node k.EqualInitializer (at 20) (Some 7) (more (node k.IntegerLiteral (at 22) (Some 8) none) none)) none))) none)))
    (more (node k.ReturnStatement (at 25) (Some 10) (more (node k.UnqualifiedId (at 32) (Some 11) none) none)) none))) none))))
    ∷ []
