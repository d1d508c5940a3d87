-- A unit: its tokens, its trees, and its typed bodies as text, where @ stands before the offset of a place.
--
--     int f(int a) {
--       int b = a;
--       int& r = b;
--       const int c = r + 1;
--       r = c;
--       return b;
--     }
--     int main() { return f(4); }
use Rattle.std.specs.Prelude.{ℕ, List, [], ◌∷◌, Some, None, codes}
use Rattle.elab_rules.specs.cpp_lex.Tokens.{Lexeme}
use Rattle.elab_rules.specs.cpp_lex.declared.TokKind.TheVariants as t
use Rattle.elab_rules.specs.cpp_ast.declared.kinds.NodeKind.TheVariants as k
use Rattle.elab_rules.specs.cpp_ast.Trees.{Tree, node, none, more}
use Rattle.elab_worked.specs.Notation.{at, token, lines}

abbrev pub tokens : List Lexeme
tokens = token t.Key 0 3 0 (codes "int")
    ∷ token t.Name 4 5 0 (codes "f")
    ∷ token t.Punct 5 6 0 (codes "(")
    ∷ token t.Key 6 9 0 (codes "int")
    ∷ token t.Name 10 11 0 (codes "a")
    ∷ token t.Punct 11 12 0 (codes ")")
    ∷ token t.Punct 13 14 0 (codes "{")
    ∷ token t.Key 17 20 0 (codes "int")
    ∷ token t.Name 21 22 0 (codes "b")
    ∷ token t.Punct 23 24 0 (codes "=")
    ∷ token t.Name 25 26 0 (codes "a")
    ∷ token t.Punct 26 27 0 (codes ";")
    ∷ token t.Key 30 33 0 (codes "int")
    ∷ token t.Punct 33 34 0 (codes "&")
    ∷ token t.Name 35 36 0 (codes "r")
    ∷ token t.Punct 37 38 0 (codes "=")
    ∷ token t.Name 39 40 0 (codes "b")
    ∷ token t.Punct 40 41 0 (codes ";")
    ∷ token t.Key 44 49 0 (codes "const")
    ∷ token t.Key 50 53 0 (codes "int")
    ∷ token t.Name 54 55 0 (codes "c")
    ∷ token t.Punct 56 57 0 (codes "=")
    ∷ token t.Name 58 59 0 (codes "r")
    ∷ token t.Punct 60 61 0 (codes "+")
    ∷ token t.Int 62 63 1 (codes "1")
    ∷ token t.Punct 63 64 0 (codes ";")
    ∷ token t.Name 67 68 0 (codes "r")
    ∷ token t.Punct 69 70 0 (codes "=")
    ∷ token t.Name 71 72 0 (codes "c")
    ∷ token t.Punct 72 73 0 (codes ";")
    ∷ token t.Key 76 82 0 (codes "return")
    ∷ token t.Name 83 84 0 (codes "b")
    ∷ token t.Punct 84 85 0 (codes ";")
    ∷ token t.Punct 86 87 0 (codes "}")
    ∷ token t.Key 88 91 0 (codes "int")
    ∷ token t.Name 92 96 0 (codes "main")
    ∷ token t.Punct 96 97 0 (codes "(")
    ∷ token t.Punct 97 98 0 (codes ")")
    ∷ token t.Punct 99 100 0 (codes "{")
    ∷ token t.Key 101 107 0 (codes "return")
    ∷ token t.Name 108 109 0 (codes "f")
    ∷ token t.Punct 109 110 0 (codes "(")
    ∷ token t.Int 110 111 4 (codes "4")
    ∷ token t.Punct 111 112 0 (codes ")")
    ∷ token t.Punct 112 113 0 (codes ";")
    ∷ token t.Punct 114 115 0 (codes "}")
    ∷ []

abbrev pub decls : List Tree
decls = (node k.FunctionDefinition (at 4) (Some 0) (more (node k.TypeSpecifierSeq (at 0) None (more (node k.SimpleTypeSpecifier (at 0) (Some 0) none) none))
    (more (node k.FunctionDeclarator (at 4) (Some 2) (more (node k.DeclaratorId (at 4) (Some 1) none)
    (more (node k.ParameterDeclarationClause (at 6) None
    (more (node k.ParameterDeclaration (at 10) None (more (node k.TypeSpecifierSeq (at 6) None (more (node k.SimpleTypeSpecifier (at 6) (Some 3) none) none))
    (more (node k.DeclaratorId (at 10) (Some 4) none) none))) none)) (more (node k.FunctionQualifiers (at 13) None none) none))))
    (more (node k.CompoundStatement (at 13) (Some 33)
    (more (node k.SimpleDeclaration (at 21) (Some 7) (more (node k.TypeSpecifierSeq (at 17) None (more (node k.SimpleTypeSpecifier (at 17) (Some 7) none) none))
    (more (node k.InitDeclarator (at 21) (Some 8) (more (node k.DeclaratorId (at 21) (Some 8) none)
    (more (node k.EqualInitializer (at 23) (Some 9) (more (node k.UnqualifiedId (at 25) (Some 10) none) none)) none))) none)))
    (more (node k.SimpleDeclaration (at 35) (Some 12)
    (more (node k.TypeSpecifierSeq (at 30) None (more (node k.SimpleTypeSpecifier (at 30) (Some 12) none) none))
    (more (node k.InitDeclarator (at 35) (Some 14) (more (node k.ReferenceDeclarator (at 33) (Some 13) (more (node k.DeclaratorId (at 35) (Some 14) none) none))
    (more (node k.EqualInitializer (at 37) (Some 15) (more (node k.UnqualifiedId (at 39) (Some 16) none) none)) none))) none)))
    (more (node k.SimpleDeclaration (at 54) (Some 18)
    (more (node k.TypeSpecifierSeq (at 44) None (more (node k.CvQualifier (at 44) (Some 18) none)
    (more (node k.SimpleTypeSpecifier (at 50) (Some 19) none) none)))
    (more (node k.InitDeclarator (at 54) (Some 20) (more (node k.DeclaratorId (at 54) (Some 20) none)
    (more (node k.EqualInitializer (at 56) (Some 21) (more
    (node k.BinaryExpression (at 58) (Some 23) (more (node k.UnqualifiedId (at 58) (Some 22) none)
    (more (node k.IntegerLiteral (at 62) (Some 24) none) none))) none)) none))) none)))
    (more (node k.ExpressionStatement (at 67) (Some 29)
    (more (node k.AssignmentExpression (at 67) (Some 27)
    (more (node k.UnqualifiedId (at 67) (Some 26) none) (more (node k.UnqualifiedId (at 71) (Some 28) none) none))) none))
    (more (node k.ReturnStatement (at 76) (Some 30) (more (node k.UnqualifiedId (at 83) (Some 31) none) none)) none)))))) none))))
    ∷ (node k.FunctionDefinition (at 92) (Some 34) (more (node k.TypeSpecifierSeq (at 88) None (more (node k.SimpleTypeSpecifier (at 88) (Some 34) none) none))
    (more (node k.FunctionDeclarator (at 92) (Some 36)
    (more (node k.DeclaratorId (at 92) (Some 35) none)
    (more (node k.ParameterDeclarationClause (at 97) None none) (more (node k.FunctionQualifiers (at 99) None none) none))))
    (more (node k.CompoundStatement (at 99) (Some 45)
    (more (node k.ReturnStatement (at 101) (Some 39)
    (more (node k.FunctionCall (at 108) (Some 41)
    (more (node k.UnqualifiedId (at 108) (Some 40) none) (more (node k.IntegerLiteral (at 110) (Some 42) none) none))) none)) none)) none))))
    ∷ []

abbrev pub text : List ℕ
text = lines (codes "function f(int)"
    ∷ codes "  frame 0 int"
    ∷ codes "  frame 1 int"
    ∷ codes "  frame 2 int&"
    ∷ codes "  frame 3 const int"
    ∷ codes "  Block @13"
    ∷ codes "    Init @21"
    ∷ codes "      Local 1 @21 l int"
    ∷ codes "      Store Int @25 p int"
    ∷ codes "        Load Int @25 p int"
    ∷ codes "          Local 0 @25 l int"
    ∷ codes "    Init @35"
    ∷ codes "      Local 2 @35 l int&"
    ∷ codes "      Store ULong @39 p int&"
    ∷ codes "        Local 1 @39 l int"
    ∷ codes "    Init @54"
    ∷ codes "      Local 3 @54 l const int"
    ∷ codes "      Store Int @58 p const int"
    ∷ codes "        Binary Add Int @58 p int"
    ∷ codes "          Load Int @58 p int"
    ∷ codes "            Load ULong @58 l int"
    ∷ codes "              Local 2 @58 l int&"
    ∷ codes "          Literal 1 @62 p int"
    ∷ codes "    Assign Int @67 l int"
    ∷ codes "      Load ULong @67 l int"
    ∷ codes "        Local 2 @67 l int&"
    ∷ codes "      Load Int @71 p int"
    ∷ codes "        Local 3 @71 l const int"
    ∷ codes "    Return @76"
    ∷ codes "      Load Int @83 p int"
    ∷ codes "        Local 1 @83 l int"
    ∷ codes "    Return @13"
    ∷ codes "      Literal 0 @13 p int"
    ∷ codes "function main()"
    ∷ codes "  Block @99"
    ∷ codes "    Return @101"
    ∷ codes "      Call f(int) @108 p int"
    ∷ codes "        Literal 4 @110 p int"
    ∷ codes "    Return @99"
    ∷ codes "      Literal 0 @99 p int"
    ∷ [])
