-- A unit: its tokens, its trees, and its typed bodies as text, where @ stands before the offset of a place.
--
--     int x; int main() { try { atomic_commit { x = 5; throw 7; } } catch (int e) { putchar('0' + x); putchar('0' + e); } return 0; }
use Rattle.std.specs.Prelude.{ℕ, List, [], ◌∷◌, Some, None, codes}
use Rattle.elab_rules.specs.cpp_lex.Tokens.{Lexeme}
use Rattle.elab_rules.specs.cpp_lex.declared.TokKind.TheVariants as t
use Rattle.elab_rules.specs.cpp_ast.declared.kinds.NodeKind.TheVariants as k
use Rattle.elab_rules.specs.cpp_ast.Trees.{Tree, node, none, more}
use Rattle.elab_worked.specs.Notation.{at, token, lines}

abbrev pub tokens : List Lexeme
tokens = token t.Key 0 3 0 (codes "int")
    ∷ token t.Name 4 5 0 (codes "x")
    ∷ token t.Punct 5 6 0 (codes ";")
    ∷ token t.Key 7 10 0 (codes "int")
    ∷ token t.Name 11 15 0 (codes "main")
    ∷ token t.Punct 15 16 0 (codes "(")
    ∷ token t.Punct 16 17 0 (codes ")")
    ∷ token t.Punct 18 19 0 (codes "{")
    ∷ token t.Key 20 23 0 (codes "try")
    ∷ token t.Punct 24 25 0 (codes "{")
    ∷ token t.Key 26 39 0 (codes "atomic_commit")
    ∷ token t.Punct 40 41 0 (codes "{")
    ∷ token t.Name 42 43 0 (codes "x")
    ∷ token t.Punct 44 45 0 (codes "=")
    ∷ token t.Int 46 47 5 (codes "5")
    ∷ token t.Punct 47 48 0 (codes ";")
    ∷ token t.Key 49 54 0 (codes "throw")
    ∷ token t.Int 55 56 7 (codes "7")
    ∷ token t.Punct 56 57 0 (codes ";")
    ∷ token t.Punct 58 59 0 (codes "}")
    ∷ token t.Punct 60 61 0 (codes "}")
    ∷ token t.Key 62 67 0 (codes "catch")
    ∷ token t.Punct 68 69 0 (codes "(")
    ∷ token t.Key 69 72 0 (codes "int")
    ∷ token t.Name 73 74 0 (codes "e")
    ∷ token t.Punct 74 75 0 (codes ")")
    ∷ token t.Punct 76 77 0 (codes "{")
    ∷ token t.Name 78 85 0 (codes "putchar")
    ∷ token t.Punct 85 86 0 (codes "(")
    ∷ token t.Char 86 89 48 (codes "'0'")
    ∷ token t.Punct 90 91 0 (codes "+")
    ∷ token t.Name 92 93 0 (codes "x")
    ∷ token t.Punct 93 94 0 (codes ")")
    ∷ token t.Punct 94 95 0 (codes ";")
    ∷ token t.Name 96 103 0 (codes "putchar")
    ∷ token t.Punct 103 104 0 (codes "(")
    ∷ token t.Char 104 107 48 (codes "'0'")
    ∷ token t.Punct 108 109 0 (codes "+")
    ∷ token t.Name 110 111 0 (codes "e")
    ∷ token t.Punct 111 112 0 (codes ")")
    ∷ token t.Punct 112 113 0 (codes ";")
    ∷ token t.Punct 114 115 0 (codes "}")
    ∷ token t.Key 116 122 0 (codes "return")
    ∷ token t.Int 123 124 0 (codes "0")
    ∷ token t.Punct 124 125 0 (codes ";")
    ∷ token t.Punct 126 127 0 (codes "}")
    ∷ []

abbrev pub decls : List Tree
decls = (node k.SimpleDeclaration (at 4) (Some 0) (more (node k.TypeSpecifierSeq (at 0) None (more (node k.SimpleTypeSpecifier (at 0) (Some 0) none) none))
    (more (node k.InitDeclarator (at 4) (Some 1) (more (node k.DeclaratorId (at 4) (Some 1) none) none)) none)))
    ∷ (node k.FunctionDefinition (at 11) (Some 3) (more (node k.TypeSpecifierSeq (at 7) None (more (node k.SimpleTypeSpecifier (at 7) (Some 3) none) none))
    (more (node k.FunctionDeclarator (at 11) (Some 5)
    (more (node k.DeclaratorId (at 11) (Some 4) none)
    (more (node k.ParameterDeclarationClause (at 16) None none) (more (node k.FunctionQualifiers (at 18) None none) none))))
    (more (node k.CompoundStatement (at 18) (Some 45)
    (more (node k.TryBlock (at 20) (Some 8) (more
    (node k.CompoundStatement (at 24) (Some 20) (more
    (node k.AtomicStatement (at 26) (Some 10) (more
    (node k.CompoundStatement (at 40) (Some 19) (more
    (node k.ExpressionStatement (at 42) (Some 15)
    (more (node k.AssignmentExpression (at 42) (Some 13)
    (more (node k.UnqualifiedId (at 42) (Some 12) none) (more (node k.IntegerLiteral (at 46) (Some 14) none) none))) none))
    (more (node k.ExpressionStatement (at 49) (Some 18)
    (more (node k.ThrowExpression (at 49) (Some 16) (more (node k.IntegerLiteral (at 55) (Some 17) none) none)) none)) none))) none)) none))
    (more (node k.Handler (at 62) (Some 21) (more
    (node k.ParameterDeclaration (at 73) None (more (node k.TypeSpecifierSeq (at 69) None (more (node k.SimpleTypeSpecifier (at 69) (Some 23) none) none))
    (more (node k.DeclaratorId (at 73) (Some 24) none) none)))
    (more (node k.CompoundStatement (at 76) (Some 41)
    (more (node k.ExpressionStatement (at 78) (Some 33)
    (more (node k.FunctionCall (at 78) (Some 28) (more (node k.UnqualifiedId (at 78) (Some 27) none)
    (more (node k.BinaryExpression (at 86) (Some 30)
    (more (node k.CharacterLiteral (at 86) (Some 29) none) (more (node k.UnqualifiedId (at 92) (Some 31) none) none))) none))) none))
    (more (node k.ExpressionStatement (at 96) (Some 40)
    (more (node k.FunctionCall (at 96) (Some 35) (more (node k.UnqualifiedId (at 96) (Some 34) none)
    (more (node k.BinaryExpression (at 104) (Some 37)
    (more (node k.CharacterLiteral (at 104) (Some 36) none)
    (more (node k.UnqualifiedId (at 110) (Some 38) none) none))) none))) none)) none))) none))) none)))
    (more (node k.ReturnStatement (at 116) (Some 42) (more (node k.IntegerLiteral (at 123) (Some 43) none) none)) none))) none))))
    ∷ []

abbrev pub text : List ℕ
text = lines (codes "function main()"
    ∷ codes "  frame 0 int"
    ∷ codes "  Block @18"
    ∷ codes "    Try @20"
    ∷ codes "      Block @24"
    ∷ codes "        Atomic Commit @26"
    ∷ codes "          Block @40"
    ∷ codes "            Assign Int @42 l int"
    ∷ codes "              Global x @42 l int"
    ∷ codes "              Literal 5 @46 p int"
    ∷ codes "            Throw @49 p int"
    ∷ codes "              Literal 7 @55 p int"
    ∷ codes "              Field 0 Int @49"
    ∷ codes "      Handler 0 @62 p int"
    ∷ codes "        Block @76"
    ∷ codes "          Builtin PutChar @78 p int"
    ∷ codes "            Binary Add Int @86 p int"
    ∷ codes "              Convert Int @86 p int"
    ∷ codes "                Literal 48 @86 p char"
    ∷ codes "              Load Int @92 p int"
    ∷ codes "                Global x @92 l int"
    ∷ codes "          Builtin PutChar @96 p int"
    ∷ codes "            Binary Add Int @104 p int"
    ∷ codes "              Convert Int @104 p int"
    ∷ codes "                Literal 48 @104 p char"
    ∷ codes "              Load Int @110 p int"
    ∷ codes "                Local 0 @110 l int"
    ∷ codes "        Field 0 Int @62"
    ∷ codes "    Return @116"
    ∷ codes "      Literal 0 @123 p int"
    ∷ codes "    Return @18"
    ∷ codes "      Literal 0 @18 p int"
    ∷ [])
