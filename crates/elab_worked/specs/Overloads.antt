-- A unit: its tokens, its trees, and its typed bodies as text, where @ stands before the offset of a place.
--
--     void p(int) { putchar('i'); } void p(long) { putchar('l'); } int main() { p(1); p(1L); p('a'); return 0; }
use Rattle.std.specs.Prelude.{ℕ, List, [], ◌∷◌, Some, None, codes}
use Rattle.elab_rules.specs.cpp_lex.Tokens.{Lexeme}
use Rattle.elab_rules.specs.cpp_lex.declared.TokKind.TheVariants as t
use Rattle.elab_rules.specs.cpp_ast.declared.kinds.NodeKind.TheVariants as k
use Rattle.elab_rules.specs.cpp_ast.Trees.{Tree, node, none, more}
use Rattle.elab_worked.specs.Notation.{at, token, lines}

abbrev pub tokens : List Lexeme
tokens = token t.Key 0 4 0 (codes "void")
    ∷ token t.Name 5 6 0 (codes "p")
    ∷ token t.Punct 6 7 0 (codes "(")
    ∷ token t.Key 7 10 0 (codes "int")
    ∷ token t.Punct 10 11 0 (codes ")")
    ∷ token t.Punct 12 13 0 (codes "{")
    ∷ token t.Name 14 21 0 (codes "putchar")
    ∷ token t.Punct 21 22 0 (codes "(")
    ∷ token t.Char 22 25 105 (codes "'i'")
    ∷ token t.Punct 25 26 0 (codes ")")
    ∷ token t.Punct 26 27 0 (codes ";")
    ∷ token t.Punct 28 29 0 (codes "}")
    ∷ token t.Key 30 34 0 (codes "void")
    ∷ token t.Name 35 36 0 (codes "p")
    ∷ token t.Punct 36 37 0 (codes "(")
    ∷ token t.Key 37 41 0 (codes "long")
    ∷ token t.Punct 41 42 0 (codes ")")
    ∷ token t.Punct 43 44 0 (codes "{")
    ∷ token t.Name 45 52 0 (codes "putchar")
    ∷ token t.Punct 52 53 0 (codes "(")
    ∷ token t.Char 53 56 108 (codes "'l'")
    ∷ token t.Punct 56 57 0 (codes ")")
    ∷ token t.Punct 57 58 0 (codes ";")
    ∷ token t.Punct 59 60 0 (codes "}")
    ∷ token t.Key 61 64 0 (codes "int")
    ∷ token t.Name 65 69 0 (codes "main")
    ∷ token t.Punct 69 70 0 (codes "(")
    ∷ token t.Punct 70 71 0 (codes ")")
    ∷ token t.Punct 72 73 0 (codes "{")
    ∷ token t.Name 74 75 0 (codes "p")
    ∷ token t.Punct 75 76 0 (codes "(")
    ∷ token t.Int 76 77 1 (codes "1")
    ∷ token t.Punct 77 78 0 (codes ")")
    ∷ token t.Punct 78 79 0 (codes ";")
    ∷ token t.Name 80 81 0 (codes "p")
    ∷ token t.Punct 81 82 0 (codes "(")
    ∷ token t.Int 82 84 1 (codes "1L")
    ∷ token t.Punct 84 85 0 (codes ")")
    ∷ token t.Punct 85 86 0 (codes ";")
    ∷ token t.Name 87 88 0 (codes "p")
    ∷ token t.Punct 88 89 0 (codes "(")
    ∷ token t.Char 89 92 97 (codes "'a'")
    ∷ token t.Punct 92 93 0 (codes ")")
    ∷ token t.Punct 93 94 0 (codes ";")
    ∷ token t.Key 95 101 0 (codes "return")
    ∷ token t.Int 102 103 0 (codes "0")
    ∷ token t.Punct 103 104 0 (codes ";")
    ∷ token t.Punct 105 106 0 (codes "}")
    ∷ []

abbrev pub decls : List Tree
decls = (node k.FunctionDefinition (at 5) (Some 0) (more (node k.TypeSpecifierSeq (at 0) None (more (node k.SimpleTypeSpecifier (at 0) (Some 0) none) none))
    (more (node k.FunctionDeclarator (at 5) (Some 2) (more (node k.DeclaratorId (at 5) (Some 1) none)
    (more (node k.ParameterDeclarationClause (at 7) None
    (more (node k.ParameterDeclaration (at 7) None (more (node k.TypeSpecifierSeq (at 7) None (more (node k.SimpleTypeSpecifier (at 7) (Some 3) none) none))
    (more (node k.OmittedId (at 10) None none) none))) none)) (more (node k.FunctionQualifiers (at 12) None none) none))))
    (more (node k.CompoundStatement (at 12) (Some 11)
    (more (node k.ExpressionStatement (at 14) (Some 10)
    (more (node k.FunctionCall (at 14) (Some 7) (more (node k.UnqualifiedId (at 14) (Some 6) none)
    (more (node k.CharacterLiteral (at 22) (Some 8) none) none))) none)) none)) none))))
    ∷ (node k.FunctionDefinition (at 35) (Some 12) (more (node k.TypeSpecifierSeq (at 30) None (more (node k.SimpleTypeSpecifier (at 30) (Some 12) none) none))
    (more (node k.FunctionDeclarator (at 35) (Some 14)
    (more (node k.DeclaratorId (at 35) (Some 13) none)
    (more (node k.ParameterDeclarationClause (at 37) None
    (more (node k.ParameterDeclaration (at 37) None
    (more (node k.TypeSpecifierSeq (at 37) None (more (node k.SimpleTypeSpecifier (at 37) (Some 15) none) none))
    (more (node k.OmittedId (at 41) None none) none))) none)) (more (node k.FunctionQualifiers (at 43) None none) none))))
    (more (node k.CompoundStatement (at 43) (Some 23)
    (more (node k.ExpressionStatement (at 45) (Some 22)
    (more (node k.FunctionCall (at 45) (Some 19) (more (node k.UnqualifiedId (at 45) (Some 18) none)
    (more (node k.CharacterLiteral (at 53) (Some 20) none) none))) none)) none)) none))))
    ∷ (node k.FunctionDefinition (at 65) (Some 24) (more (node k.TypeSpecifierSeq (at 61) None (more (node k.SimpleTypeSpecifier (at 61) (Some 24) none) none))
    (more (node k.FunctionDeclarator (at 65) (Some 26)
    (more (node k.DeclaratorId (at 65) (Some 25) none)
    (more (node k.ParameterDeclarationClause (at 70) None none) (more (node k.FunctionQualifiers (at 72) None none) none))))
    (more (node k.CompoundStatement (at 72) (Some 47)
    (more (node k.ExpressionStatement (at 74) (Some 33)
    (more (node k.FunctionCall (at 74) (Some 30) (more (node k.UnqualifiedId (at 74) (Some 29) none)
    (more (node k.IntegerLiteral (at 76) (Some 31) none) none))) none))
    (more (node k.ExpressionStatement (at 80) (Some 38)
    (more (node k.FunctionCall (at 80) (Some 35) (more (node k.UnqualifiedId (at 80) (Some 34) none)
    (more (node k.IntegerLiteral (at 82) (Some 36) none) none))) none))
    (more (node k.ExpressionStatement (at 87) (Some 43)
    (more (node k.FunctionCall (at 87) (Some 40) (more (node k.UnqualifiedId (at 87) (Some 39) none)
    (more (node k.CharacterLiteral (at 89) (Some 41) none) none))) none))
    (more (node k.ReturnStatement (at 95) (Some 44) (more (node k.IntegerLiteral (at 102) (Some 45) none) none)) none))))) none))))
    ∷ []

abbrev pub text : List ℕ
text = lines (codes "function p(int)"
    ∷ codes "  frame 0 int"
    ∷ codes "  Block @12"
    ∷ codes "    Builtin PutChar @14 p int"
    ∷ codes "      Convert Int @22 p int"
    ∷ codes "        Literal 105 @22 p char"
    ∷ codes "function p(long)"
    ∷ codes "  frame 0 long"
    ∷ codes "  Block @43"
    ∷ codes "    Builtin PutChar @45 p int"
    ∷ codes "      Convert Int @53 p int"
    ∷ codes "        Literal 108 @53 p char"
    ∷ codes "function main()"
    ∷ codes "  Block @72"
    ∷ codes "    Call p(int) @74"
    ∷ codes "      Literal 1 @76 p int"
    ∷ codes "    Call p(long) @80"
    ∷ codes "      Literal 1 @82 p long"
    ∷ codes "    Call p(int) @87"
    ∷ codes "      Convert Int @89 p int"
    ∷ codes "        Literal 97 @89 p char"
    ∷ codes "    Return @95"
    ∷ codes "      Literal 0 @102 p int"
    ∷ codes "    Return @72"
    ∷ codes "      Literal 0 @72 p int"
    ∷ [])
