-- A unit: its tokens, its trees, and its typed bodies as text, where @ stands before the offset of a place.
--
--     int main() {
--       int a = 1;
--       int b = 2;
--       const int c = 3;
--       bool t = a < b;
--       (t ? a : b) = 9;
--       int& r = t ? b : a;
--       r = 4;
--       int v = t ? a : c;
--       int* p = &(t ? a : b);
--       return a + b + v + *p;
--     }
use Rattle.std.specs.Prelude.{ℕ, List, [], ◌∷◌, Some, None, codes}
use Rattle.elab_rules.specs.cpp_lex.Tokens.{Lexeme}
use Rattle.elab_rules.specs.cpp_lex.declared.TokKind.TheVariants as t
use Rattle.elab_rules.specs.cpp_ast.declared.kinds.NodeKind.TheVariants as k
use Rattle.elab_rules.specs.cpp_ast.Trees.{Tree, node, none, more}
use Rattle.elab_worked.specs.Notation.{at, token, lines}

abbrev pub tokens : List Lexeme
tokens = token t.Key 0 3 0 (codes "int")
    ∷ token t.Name 4 8 0 (codes "main")
    ∷ token t.Punct 8 9 0 (codes "(")
    ∷ token t.Punct 9 10 0 (codes ")")
    ∷ token t.Punct 11 12 0 (codes "{")
    ∷ token t.Key 15 18 0 (codes "int")
    ∷ token t.Name 19 20 0 (codes "a")
    ∷ token t.Punct 21 22 0 (codes "=")
    ∷ token t.Int 23 24 1 (codes "1")
    ∷ token t.Punct 24 25 0 (codes ";")
    ∷ token t.Key 28 31 0 (codes "int")
    ∷ token t.Name 32 33 0 (codes "b")
    ∷ token t.Punct 34 35 0 (codes "=")
    ∷ token t.Int 36 37 2 (codes "2")
    ∷ token t.Punct 37 38 0 (codes ";")
    ∷ token t.Key 41 46 0 (codes "const")
    ∷ token t.Key 47 50 0 (codes "int")
    ∷ token t.Name 51 52 0 (codes "c")
    ∷ token t.Punct 53 54 0 (codes "=")
    ∷ token t.Int 55 56 3 (codes "3")
    ∷ token t.Punct 56 57 0 (codes ";")
    ∷ token t.Key 60 64 0 (codes "bool")
    ∷ token t.Name 65 66 0 (codes "t")
    ∷ token t.Punct 67 68 0 (codes "=")
    ∷ token t.Name 69 70 0 (codes "a")
    ∷ token t.Punct 71 72 0 (codes "<")
    ∷ token t.Name 73 74 0 (codes "b")
    ∷ token t.Punct 74 75 0 (codes ";")
    ∷ token t.Punct 78 79 0 (codes "(")
    ∷ token t.Name 79 80 0 (codes "t")
    ∷ token t.Punct 81 82 0 (codes "?")
    ∷ token t.Name 83 84 0 (codes "a")
    ∷ token t.Punct 85 86 0 (codes ":")
    ∷ token t.Name 87 88 0 (codes "b")
    ∷ token t.Punct 88 89 0 (codes ")")
    ∷ token t.Punct 90 91 0 (codes "=")
    ∷ token t.Int 92 93 9 (codes "9")
    ∷ token t.Punct 93 94 0 (codes ";")
    ∷ token t.Key 97 100 0 (codes "int")
    ∷ token t.Punct 100 101 0 (codes "&")
    ∷ token t.Name 102 103 0 (codes "r")
    ∷ token t.Punct 104 105 0 (codes "=")
    ∷ token t.Name 106 107 0 (codes "t")
    ∷ token t.Punct 108 109 0 (codes "?")
    ∷ token t.Name 110 111 0 (codes "b")
    ∷ token t.Punct 112 113 0 (codes ":")
    ∷ token t.Name 114 115 0 (codes "a")
    ∷ token t.Punct 115 116 0 (codes ";")
    ∷ token t.Name 119 120 0 (codes "r")
    ∷ token t.Punct 121 122 0 (codes "=")
    ∷ token t.Int 123 124 4 (codes "4")
    ∷ token t.Punct 124 125 0 (codes ";")
    ∷ token t.Key 128 131 0 (codes "int")
    ∷ token t.Name 132 133 0 (codes "v")
    ∷ token t.Punct 134 135 0 (codes "=")
    ∷ token t.Name 136 137 0 (codes "t")
    ∷ token t.Punct 138 139 0 (codes "?")
    ∷ token t.Name 140 141 0 (codes "a")
    ∷ token t.Punct 142 143 0 (codes ":")
    ∷ token t.Name 144 145 0 (codes "c")
    ∷ token t.Punct 145 146 0 (codes ";")
    ∷ token t.Key 149 152 0 (codes "int")
    ∷ token t.Punct 152 153 0 (codes "*")
    ∷ token t.Name 154 155 0 (codes "p")
    ∷ token t.Punct 156 157 0 (codes "=")
    ∷ token t.Punct 158 159 0 (codes "&")
    ∷ token t.Punct 159 160 0 (codes "(")
    ∷ token t.Name 160 161 0 (codes "t")
    ∷ token t.Punct 162 163 0 (codes "?")
    ∷ token t.Name 164 165 0 (codes "a")
    ∷ token t.Punct 166 167 0 (codes ":")
    ∷ token t.Name 168 169 0 (codes "b")
    ∷ token t.Punct 169 170 0 (codes ")")
    ∷ token t.Punct 170 171 0 (codes ";")
    ∷ token t.Key 174 180 0 (codes "return")
    ∷ token t.Name 181 182 0 (codes "a")
    ∷ token t.Punct 183 184 0 (codes "+")
    ∷ token t.Name 185 186 0 (codes "b")
    ∷ token t.Punct 187 188 0 (codes "+")
    ∷ token t.Name 189 190 0 (codes "v")
    ∷ token t.Punct 191 192 0 (codes "+")
    ∷ token t.Punct 193 194 0 (codes "*")
    ∷ token t.Name 194 195 0 (codes "p")
    ∷ token t.Punct 195 196 0 (codes ";")
    ∷ token t.Punct 197 198 0 (codes "}")
    ∷ []

abbrev pub decls : List Tree
decls = (node k.FunctionDefinition (at 4) (Some 0) (more (node k.TypeSpecifierSeq (at 0) None (more (node k.SimpleTypeSpecifier (at 0) (Some 0) none) none))
    (more (node k.FunctionDeclarator (at 4) (Some 2) (more (node k.DeclaratorId (at 4) (Some 1) none)
    (more (node k.ParameterDeclarationClause (at 9) None none) (more (node k.FunctionQualifiers (at 11) None none) none))))
    (more (node k.CompoundStatement (at 11) (Some 84)
    (more (node k.SimpleDeclaration (at 19) (Some 5) (more (node k.TypeSpecifierSeq (at 15) None (more (node k.SimpleTypeSpecifier (at 15) (Some 5) none) none))
    (more (node k.InitDeclarator (at 19) (Some 6) (more (node k.DeclaratorId (at 19) (Some 6) none)
    (more (node k.EqualInitializer (at 21) (Some 7) (more (node k.IntegerLiteral (at 23) (Some 8) none) none)) none))) none)))
    (more (node k.SimpleDeclaration (at 32) (Some 10)
    (more (node k.TypeSpecifierSeq (at 28) None (more (node k.SimpleTypeSpecifier (at 28) (Some 10) none) none))
    (more (node k.InitDeclarator (at 32) (Some 11) (more (node k.DeclaratorId (at 32) (Some 11) none)
    (more (node k.EqualInitializer (at 34) (Some 12) (more (node k.IntegerLiteral (at 36) (Some 13) none) none)) none))) none)))
    (more (node k.SimpleDeclaration (at 51) (Some 15)
    (more (node k.TypeSpecifierSeq (at 41) None (more (node k.CvQualifier (at 41) (Some 15) none)
    (more (node k.SimpleTypeSpecifier (at 47) (Some 16) none) none)))
    (more (node k.InitDeclarator (at 51) (Some 17) (more (node k.DeclaratorId (at 51) (Some 17) none)
    (more (node k.EqualInitializer (at 53) (Some 18) (more (node k.IntegerLiteral (at 55) (Some 19) none) none)) none))) none)))
    (more (node k.SimpleDeclaration (at 65) (Some 21)
    (more (node k.TypeSpecifierSeq (at 60) None (more (node k.SimpleTypeSpecifier (at 60) (Some 21) none) none))
    (more (node k.InitDeclarator (at 65) (Some 22) (more (node k.DeclaratorId (at 65) (Some 22) none)
    (more (node k.EqualInitializer (at 67) (Some 23) (more
    (node k.BinaryExpression (at 69) (Some 25) (more (node k.UnqualifiedId (at 69) (Some 24) none)
    (more (node k.UnqualifiedId (at 73) (Some 26) none) none))) none)) none))) none)))
    (more (node k.ExpressionStatement (at 78) (Some 37)
    (more (node k.AssignmentExpression (at 78) (Some 35)
    (more (node k.ParenthesizedExpression (at 78) (Some 28)
    (more (node k.ConditionalExpression (at 79) (Some 30)
    (more (node k.UnqualifiedId (at 79) (Some 29) none)
    (more (node k.UnqualifiedId (at 83) (Some 31) none) (more (node k.UnqualifiedId (at 87) (Some 33) none) none)))) none))
    (more (node k.IntegerLiteral (at 92) (Some 36) none) none))) none))
    (more (node k.SimpleDeclaration (at 102) (Some 38)
    (more (node k.TypeSpecifierSeq (at 97) None (more (node k.SimpleTypeSpecifier (at 97) (Some 38) none) none))
    (more (node k.InitDeclarator (at 102) (Some 40) (more
    (node k.ReferenceDeclarator (at 100) (Some 39) (more (node k.DeclaratorId (at 102) (Some 40) none) none))
    (more (node k.EqualInitializer (at 104) (Some 41)
    (more (node k.ConditionalExpression (at 106) (Some 43)
    (more (node k.UnqualifiedId (at 106) (Some 42) none)
    (more (node k.UnqualifiedId (at 110) (Some 44) none) (more (node k.UnqualifiedId (at 114) (Some 46) none) none)))) none)) none))) none)))
    (more (node k.ExpressionStatement (at 119) (Some 51)
    (more (node k.AssignmentExpression (at 119) (Some 49)
    (more (node k.UnqualifiedId (at 119) (Some 48) none) (more (node k.IntegerLiteral (at 123) (Some 50) none) none))) none))
    (more (node k.SimpleDeclaration (at 132) (Some 52)
    (more (node k.TypeSpecifierSeq (at 128) None (more (node k.SimpleTypeSpecifier (at 128) (Some 52) none) none))
    (more (node k.InitDeclarator (at 132) (Some 53) (more (node k.DeclaratorId (at 132) (Some 53) none)
    (more (node k.EqualInitializer (at 134) (Some 54)
    (more (node k.ConditionalExpression (at 136) (Some 56)
    (more (node k.UnqualifiedId (at 136) (Some 55) none)
    (more (node k.UnqualifiedId (at 140) (Some 57) none) (more (node k.UnqualifiedId (at 144) (Some 59) none) none)))) none)) none))) none)))
    (more (node k.SimpleDeclaration (at 154) (Some 61)
    (more (node k.TypeSpecifierSeq (at 149) None (more (node k.SimpleTypeSpecifier (at 149) (Some 61) none) none))
    (more (node k.InitDeclarator (at 154) (Some 63) (more
    (node k.PointerDeclarator (at 152) (Some 62) (more (node k.DeclaratorId (at 154) (Some 63) none) none))
    (more (node k.EqualInitializer (at 156) (Some 64)
    (more (node k.UnaryExpression (at 158) (Some 65) (more
    (node k.ParenthesizedExpression (at 159) (Some 66)
    (more (node k.ConditionalExpression (at 160) (Some 68)
    (more (node k.UnqualifiedId (at 160) (Some 67) none)
    (more (node k.UnqualifiedId (at 164) (Some 69) none) (more (node k.UnqualifiedId (at 168) (Some 71) none) none)))) none)) none)) none)) none))) none)))
    (more (node k.ReturnStatement (at 174) (Some 74) (more
    (node k.BinaryExpression (at 181) (Some 80) (more
    (node k.BinaryExpression (at 181) (Some 78) (more
    (node k.BinaryExpression (at 181) (Some 76) (more (node k.UnqualifiedId (at 181) (Some 75) none)
    (more (node k.UnqualifiedId (at 185) (Some 77) none) none))) (more (node k.UnqualifiedId (at 189) (Some 79) none) none)))
    (more (node k.UnaryExpression (at 193) (Some 81) (more (node k.UnqualifiedId (at 194) (Some 82) none) none)) none))) none)) none))))))))))) none))))
    ∷ []

abbrev pub text : List ℕ
text = lines (codes "function main()"
    ∷ codes "  frame 0 int"
    ∷ codes "  frame 1 int"
    ∷ codes "  frame 2 const int"
    ∷ codes "  frame 3 bool"
    ∷ codes "  frame 4 int&"
    ∷ codes "  frame 5 int"
    ∷ codes "  frame 6 int*"
    ∷ codes "  Block @11"
    ∷ codes "    Init @19"
    ∷ codes "      Local 0 @19 l int"
    ∷ codes "      Store Int @23 p int"
    ∷ codes "        Literal 1 @23 p int"
    ∷ codes "    Init @32"
    ∷ codes "      Local 1 @32 l int"
    ∷ codes "      Store Int @36 p int"
    ∷ codes "        Literal 2 @36 p int"
    ∷ codes "    Init @51"
    ∷ codes "      Local 2 @51 l const int"
    ∷ codes "      Store Int @55 p const int"
    ∷ codes "        Literal 3 @55 p int"
    ∷ codes "    Init @65"
    ∷ codes "      Local 3 @65 l bool"
    ∷ codes "      Store Bool @69 p bool"
    ∷ codes "        Binary Lt Int @69 p bool"
    ∷ codes "          Load Int @69 p int"
    ∷ codes "            Local 0 @69 l int"
    ∷ codes "          Load Int @73 p int"
    ∷ codes "            Local 1 @73 l int"
    ∷ codes "    Assign Int @78 l int"
    ∷ codes "      Conditional @79 l int"
    ∷ codes "        Load Bool @79 p bool"
    ∷ codes "          Local 3 @79 l bool"
    ∷ codes "        Local 0 @83 l int"
    ∷ codes "        Local 1 @87 l int"
    ∷ codes "      Literal 9 @92 p int"
    ∷ codes "    Init @102"
    ∷ codes "      Local 4 @102 l int&"
    ∷ codes "      Store ULong @106 p int&"
    ∷ codes "        Conditional @106 l int"
    ∷ codes "          Load Bool @106 p bool"
    ∷ codes "            Local 3 @106 l bool"
    ∷ codes "          Local 1 @110 l int"
    ∷ codes "          Local 0 @114 l int"
    ∷ codes "    Assign Int @119 l int"
    ∷ codes "      Load ULong @119 l int"
    ∷ codes "        Local 4 @119 l int&"
    ∷ codes "      Literal 4 @123 p int"
    ∷ codes "    Init @132"
    ∷ codes "      Local 5 @132 l int"
    ∷ codes "      Store Int @136 p int"
    ∷ codes "        Conditional @136 p int"
    ∷ codes "          Load Bool @136 p bool"
    ∷ codes "            Local 3 @136 l bool"
    ∷ codes "          Load Int @140 p int"
    ∷ codes "            Local 0 @140 l int"
    ∷ codes "          Load Int @144 p int"
    ∷ codes "            Local 2 @144 l const int"
    ∷ codes "    Init @154"
    ∷ codes "      Local 6 @154 l int*"
    ∷ codes "      Store ULong @158 p int*"
    ∷ codes "        Retype @158 p int*"
    ∷ codes "          Conditional @160 l int"
    ∷ codes "            Load Bool @160 p bool"
    ∷ codes "              Local 3 @160 l bool"
    ∷ codes "            Local 0 @164 l int"
    ∷ codes "            Local 1 @168 l int"
    ∷ codes "    Return @174"
    ∷ codes "      Binary Add Int @181 p int"
    ∷ codes "        Binary Add Int @181 p int"
    ∷ codes "          Binary Add Int @181 p int"
    ∷ codes "            Load Int @181 p int"
    ∷ codes "              Local 0 @181 l int"
    ∷ codes "            Load Int @185 p int"
    ∷ codes "              Local 1 @185 l int"
    ∷ codes "          Load Int @189 p int"
    ∷ codes "            Local 5 @189 l int"
    ∷ codes "        Load Int @193 p int"
    ∷ codes "          Retype @193 l int"
    ∷ codes "            Load ULong @194 p int*"
    ∷ codes "              Local 6 @194 l int*"
    ∷ codes "    Return @11"
    ∷ codes "      Literal 0 @11 p int"
    ∷ [])
