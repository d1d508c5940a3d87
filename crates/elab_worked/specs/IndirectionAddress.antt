-- A unit: its tokens, its trees, and its typed bodies as text, where @ stands before the offset of a place.
--
--     int main() {
--       int x = 1;
--       int* p = &x;
--       int** pp = &p;
--       **pp = 4;
--       *p = *p + 1;
--       const int* q = &*p;
--       int& r = *p;
--       r = r + *q;
--       return x;
--     }
use Rattle.std.specs.Prelude.{ℕ, List, [], ◌∷◌, Some, None, codes}
use Rattle.elab_rules.specs.cpp_lex.Tokens.{Lexeme}
use Rattle.elab_rules.specs.cpp_lex.declared.TokKind.TheVariants as t
use Rattle.elab_rules.specs.cpp_ast.declared.kinds.NodeKind.TheVariants as k
use Rattle.elab_rules.specs.cpp_ast.Trees.{Tree, node, none, more}
use Rattle.elab_worked.specs.Notation.{at, token, lines}

abbrev pub tokens : List Lexeme
tokens = token t.Key 0 3 0 (codes "int")
    ∷ token t.Name 4 8 0 (codes "main")
    ∷ token t.Punct 8 9 0 (codes "(")
    ∷ token t.Punct 9 10 0 (codes ")")
    ∷ token t.Punct 11 12 0 (codes "{")
    ∷ token t.Key 15 18 0 (codes "int")
    ∷ token t.Name 19 20 0 (codes "x")
    ∷ token t.Punct 21 22 0 (codes "=")
    ∷ token t.Int 23 24 1 (codes "1")
    ∷ token t.Punct 24 25 0 (codes ";")
    ∷ token t.Key 28 31 0 (codes "int")
    ∷ token t.Punct 31 32 0 (codes "*")
    ∷ token t.Name 33 34 0 (codes "p")
    ∷ token t.Punct 35 36 0 (codes "=")
    ∷ token t.Punct 37 38 0 (codes "&")
    ∷ token t.Name 38 39 0 (codes "x")
    ∷ token t.Punct 39 40 0 (codes ";")
    ∷ token t.Key 43 46 0 (codes "int")
    ∷ token t.Punct 46 47 0 (codes "*")
    ∷ token t.Punct 47 48 0 (codes "*")
    ∷ token t.Name 49 51 0 (codes "pp")
    ∷ token t.Punct 52 53 0 (codes "=")
    ∷ token t.Punct 54 55 0 (codes "&")
    ∷ token t.Name 55 56 0 (codes "p")
    ∷ token t.Punct 56 57 0 (codes ";")
    ∷ token t.Punct 60 61 0 (codes "*")
    ∷ token t.Punct 61 62 0 (codes "*")
    ∷ token t.Name 62 64 0 (codes "pp")
    ∷ token t.Punct 65 66 0 (codes "=")
    ∷ token t.Int 67 68 4 (codes "4")
    ∷ token t.Punct 68 69 0 (codes ";")
    ∷ token t.Punct 72 73 0 (codes "*")
    ∷ token t.Name 73 74 0 (codes "p")
    ∷ token t.Punct 75 76 0 (codes "=")
    ∷ token t.Punct 77 78 0 (codes "*")
    ∷ token t.Name 78 79 0 (codes "p")
    ∷ token t.Punct 80 81 0 (codes "+")
    ∷ token t.Int 82 83 1 (codes "1")
    ∷ token t.Punct 83 84 0 (codes ";")
    ∷ token t.Key 87 92 0 (codes "const")
    ∷ token t.Key 93 96 0 (codes "int")
    ∷ token t.Punct 96 97 0 (codes "*")
    ∷ token t.Name 98 99 0 (codes "q")
    ∷ token t.Punct 100 101 0 (codes "=")
    ∷ token t.Punct 102 103 0 (codes "&")
    ∷ token t.Punct 103 104 0 (codes "*")
    ∷ token t.Name 104 105 0 (codes "p")
    ∷ token t.Punct 105 106 0 (codes ";")
    ∷ token t.Key 109 112 0 (codes "int")
    ∷ token t.Punct 112 113 0 (codes "&")
    ∷ token t.Name 114 115 0 (codes "r")
    ∷ token t.Punct 116 117 0 (codes "=")
    ∷ token t.Punct 118 119 0 (codes "*")
    ∷ token t.Name 119 120 0 (codes "p")
    ∷ token t.Punct 120 121 0 (codes ";")
    ∷ token t.Name 124 125 0 (codes "r")
    ∷ token t.Punct 126 127 0 (codes "=")
    ∷ token t.Name 128 129 0 (codes "r")
    ∷ token t.Punct 130 131 0 (codes "+")
    ∷ token t.Punct 132 133 0 (codes "*")
    ∷ token t.Name 133 134 0 (codes "q")
    ∷ token t.Punct 134 135 0 (codes ";")
    ∷ token t.Key 138 144 0 (codes "return")
    ∷ token t.Name 145 146 0 (codes "x")
    ∷ token t.Punct 146 147 0 (codes ";")
    ∷ token t.Punct 148 149 0 (codes "}")
    ∷ []

abbrev pub decls : List Tree
decls = (node k.FunctionDefinition (at 4) (Some 0) (more (node k.TypeSpecifierSeq (at 0) None (more (node k.SimpleTypeSpecifier (at 0) (Some 0) none) none))
    (more (node k.FunctionDeclarator (at 4) (Some 2) (more (node k.DeclaratorId (at 4) (Some 1) none)
    (more (node k.ParameterDeclarationClause (at 9) None none) (more (node k.FunctionQualifiers (at 11) None none) none))))
    (more (node k.CompoundStatement (at 11) (Some 65)
    (more (node k.SimpleDeclaration (at 19) (Some 5) (more (node k.TypeSpecifierSeq (at 15) None (more (node k.SimpleTypeSpecifier (at 15) (Some 5) none) none))
    (more (node k.InitDeclarator (at 19) (Some 6) (more (node k.DeclaratorId (at 19) (Some 6) none)
    (more (node k.EqualInitializer (at 21) (Some 7) (more (node k.IntegerLiteral (at 23) (Some 8) none) none)) none))) none)))
    (more (node k.SimpleDeclaration (at 33) (Some 10)
    (more (node k.TypeSpecifierSeq (at 28) None (more (node k.SimpleTypeSpecifier (at 28) (Some 10) none) none))
    (more (node k.InitDeclarator (at 33) (Some 12) (more (node k.PointerDeclarator (at 31) (Some 11) (more (node k.DeclaratorId (at 33) (Some 12) none) none))
    (more (node k.EqualInitializer (at 35) (Some 13) (more
    (node k.UnaryExpression (at 37) (Some 14) (more (node k.UnqualifiedId (at 38) (Some 15) none) none)) none)) none))) none)))
    (more (node k.SimpleDeclaration (at 49) (Some 17)
    (more (node k.TypeSpecifierSeq (at 43) None (more (node k.SimpleTypeSpecifier (at 43) (Some 17) none) none))
    (more (node k.InitDeclarator (at 49) (Some 20) (more
    (node k.PointerDeclarator (at 46) (Some 18) (more
    (node k.PointerDeclarator (at 47) (Some 19) (more (node k.DeclaratorId (at 49) (Some 20) none) none)) none))
    (more (node k.EqualInitializer (at 52) (Some 21) (more
    (node k.UnaryExpression (at 54) (Some 22) (more (node k.UnqualifiedId (at 55) (Some 23) none) none)) none)) none))) none)))
    (more (node k.ExpressionStatement (at 60) (Some 30)
    (more (node k.AssignmentExpression (at 60) (Some 28)
    (more (node k.UnaryExpression (at 60) (Some 25) (more
    (node k.UnaryExpression (at 61) (Some 26) (more (node k.UnqualifiedId (at 62) (Some 27) none) none)) none))
    (more (node k.IntegerLiteral (at 67) (Some 29) none) none))) none))
    (more (node k.ExpressionStatement (at 72) (Some 38)
    (more (node k.AssignmentExpression (at 72) (Some 33)
    (more (node k.UnaryExpression (at 72) (Some 31) (more (node k.UnqualifiedId (at 73) (Some 32) none) none))
    (more (node k.BinaryExpression (at 77) (Some 36) (more (node k.UnaryExpression (at 77) (Some 34) (more (node k.UnqualifiedId (at 78) (Some 35) none) none))
    (more (node k.IntegerLiteral (at 82) (Some 37) none) none))) none))) none))
    (more (node k.SimpleDeclaration (at 98) (Some 39)
    (more (node k.TypeSpecifierSeq (at 87) None (more (node k.CvQualifier (at 87) (Some 39) none)
    (more (node k.SimpleTypeSpecifier (at 93) (Some 40) none) none)))
    (more (node k.InitDeclarator (at 98) (Some 42) (more (node k.PointerDeclarator (at 96) (Some 41) (more (node k.DeclaratorId (at 98) (Some 42) none) none))
    (more (node k.EqualInitializer (at 100) (Some 43)
    (more (node k.UnaryExpression (at 102) (Some 44) (more
    (node k.UnaryExpression (at 103) (Some 45) (more (node k.UnqualifiedId (at 104) (Some 46) none) none)) none)) none)) none))) none)))
    (more (node k.SimpleDeclaration (at 114) (Some 48)
    (more (node k.TypeSpecifierSeq (at 109) None (more (node k.SimpleTypeSpecifier (at 109) (Some 48) none) none))
    (more (node k.InitDeclarator (at 114) (Some 50) (more
    (node k.ReferenceDeclarator (at 112) (Some 49) (more (node k.DeclaratorId (at 114) (Some 50) none) none))
    (more (node k.EqualInitializer (at 116) (Some 51)
    (more (node k.UnaryExpression (at 118) (Some 52) (more (node k.UnqualifiedId (at 119) (Some 53) none) none)) none)) none))) none)))
    (more (node k.ExpressionStatement (at 124) (Some 61)
    (more (node k.AssignmentExpression (at 124) (Some 56)
    (more (node k.UnqualifiedId (at 124) (Some 55) none)
    (more (node k.BinaryExpression (at 128) (Some 58)
    (more (node k.UnqualifiedId (at 128) (Some 57) none)
    (more (node k.UnaryExpression (at 132) (Some 59) (more (node k.UnqualifiedId (at 133) (Some 60) none) none)) none))) none))) none))
    (more (node k.ReturnStatement (at 138) (Some 62) (more (node k.UnqualifiedId (at 145) (Some 63) none) none)) none)))))))))) none))))
    ∷ []

abbrev pub text : List ℕ
text = lines (codes "function main()"
    ∷ codes "  frame 0 int"
    ∷ codes "  frame 1 int*"
    ∷ codes "  frame 2 int**"
    ∷ codes "  frame 3 const int*"
    ∷ codes "  frame 4 int&"
    ∷ codes "  Block @11"
    ∷ codes "    Init @19"
    ∷ codes "      Local 0 @19 l int"
    ∷ codes "      Store Int @23 p int"
    ∷ codes "        Literal 1 @23 p int"
    ∷ codes "    Init @33"
    ∷ codes "      Local 1 @33 l int*"
    ∷ codes "      Store ULong @37 p int*"
    ∷ codes "        Retype @37 p int*"
    ∷ codes "          Local 0 @38 l int"
    ∷ codes "    Init @49"
    ∷ codes "      Local 2 @49 l int**"
    ∷ codes "      Store ULong @54 p int**"
    ∷ codes "        Retype @54 p int**"
    ∷ codes "          Local 1 @55 l int*"
    ∷ codes "    Assign Int @60 l int"
    ∷ codes "      Retype @60 l int"
    ∷ codes "        Load ULong @61 p int*"
    ∷ codes "          Retype @61 l int*"
    ∷ codes "            Load ULong @62 p int**"
    ∷ codes "              Local 2 @62 l int**"
    ∷ codes "      Literal 4 @67 p int"
    ∷ codes "    Assign Int @72 l int"
    ∷ codes "      Retype @72 l int"
    ∷ codes "        Load ULong @73 p int*"
    ∷ codes "          Local 1 @73 l int*"
    ∷ codes "      Binary Add Int @77 p int"
    ∷ codes "        Load Int @77 p int"
    ∷ codes "          Retype @77 l int"
    ∷ codes "            Load ULong @78 p int*"
    ∷ codes "              Local 1 @78 l int*"
    ∷ codes "        Literal 1 @82 p int"
    ∷ codes "    Init @98"
    ∷ codes "      Local 3 @98 l const int*"
    ∷ codes "      Store ULong @102 p const int*"
    ∷ codes "        Retype @102 p const int*"
    ∷ codes "          Retype @102 p int*"
    ∷ codes "            Retype @103 l int"
    ∷ codes "              Load ULong @104 p int*"
    ∷ codes "                Local 1 @104 l int*"
    ∷ codes "    Init @114"
    ∷ codes "      Local 4 @114 l int&"
    ∷ codes "      Store ULong @118 p int&"
    ∷ codes "        Retype @118 l int"
    ∷ codes "          Load ULong @119 p int*"
    ∷ codes "            Local 1 @119 l int*"
    ∷ codes "    Assign Int @124 l int"
    ∷ codes "      Load ULong @124 l int"
    ∷ codes "        Local 4 @124 l int&"
    ∷ codes "      Binary Add Int @128 p int"
    ∷ codes "        Load Int @128 p int"
    ∷ codes "          Load ULong @128 l int"
    ∷ codes "            Local 4 @128 l int&"
    ∷ codes "        Load Int @132 p int"
    ∷ codes "          Retype @132 l const int"
    ∷ codes "            Load ULong @133 p const int*"
    ∷ codes "              Local 3 @133 l const int*"
    ∷ codes "    Return @138"
    ∷ codes "      Load Int @145 p int"
    ∷ codes "        Local 0 @145 l int"
    ∷ codes "    Return @11"
    ∷ codes "      Literal 0 @11 p int"
    ∷ [])
