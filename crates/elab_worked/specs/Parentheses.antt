-- A unit: its tokens, its trees, and its typed bodies as text, where @ stands before the offset of a place.
--
--     int main() {
--       int a = (1);
--       int* p = (&(a));
--       (a) = ((2) + (a));
--       ((a))++;
--       int b = -(a) * (!(a) + (~(1)));
--       if (((a)) > (b)) a = (b);
--       long l = (a);
--       return ((*(p)) + (int)(l));
--     }
use Rattle.std.specs.Prelude.{ℕ, List, [], ◌∷◌, Some, None, codes}
use Rattle.elab_rules.specs.cpp_lex.Tokens.{Lexeme}
use Rattle.elab_rules.specs.cpp_lex.declared.TokKind.TheVariants as t
use Rattle.elab_rules.specs.cpp_ast.declared.kinds.NodeKind.TheVariants as k
use Rattle.elab_rules.specs.cpp_ast.Trees.{Tree, node, none, more}
use Rattle.elab_worked.specs.Notation.{at, token, lines}

abbrev pub tokens : List Lexeme
tokens = token t.Key 0 3 0 (codes "int")
    ∷ token t.Name 4 8 0 (codes "main")
    ∷ token t.Punct 8 9 0 (codes "(")
    ∷ token t.Punct 9 10 0 (codes ")")
    ∷ token t.Punct 11 12 0 (codes "{")
    ∷ token t.Key 15 18 0 (codes "int")
    ∷ token t.Name 19 20 0 (codes "a")
    ∷ token t.Punct 21 22 0 (codes "=")
    ∷ token t.Punct 23 24 0 (codes "(")
    ∷ token t.Int 24 25 1 (codes "1")
    ∷ token t.Punct 25 26 0 (codes ")")
    ∷ token t.Punct 26 27 0 (codes ";")
    ∷ token t.Key 30 33 0 (codes "int")
    ∷ token t.Punct 33 34 0 (codes "*")
    ∷ token t.Name 35 36 0 (codes "p")
    ∷ token t.Punct 37 38 0 (codes "=")
    ∷ token t.Punct 39 40 0 (codes "(")
    ∷ token t.Punct 40 41 0 (codes "&")
    ∷ token t.Punct 41 42 0 (codes "(")
    ∷ token t.Name 42 43 0 (codes "a")
    ∷ token t.Punct 43 44 0 (codes ")")
    ∷ token t.Punct 44 45 0 (codes ")")
    ∷ token t.Punct 45 46 0 (codes ";")
    ∷ token t.Punct 49 50 0 (codes "(")
    ∷ token t.Name 50 51 0 (codes "a")
    ∷ token t.Punct 51 52 0 (codes ")")
    ∷ token t.Punct 53 54 0 (codes "=")
    ∷ token t.Punct 55 56 0 (codes "(")
    ∷ token t.Punct 56 57 0 (codes "(")
    ∷ token t.Int 57 58 2 (codes "2")
    ∷ token t.Punct 58 59 0 (codes ")")
    ∷ token t.Punct 60 61 0 (codes "+")
    ∷ token t.Punct 62 63 0 (codes "(")
    ∷ token t.Name 63 64 0 (codes "a")
    ∷ token t.Punct 64 65 0 (codes ")")
    ∷ token t.Punct 65 66 0 (codes ")")
    ∷ token t.Punct 66 67 0 (codes ";")
    ∷ token t.Punct 70 71 0 (codes "(")
    ∷ token t.Punct 71 72 0 (codes "(")
    ∷ token t.Name 72 73 0 (codes "a")
    ∷ token t.Punct 73 74 0 (codes ")")
    ∷ token t.Punct 74 75 0 (codes ")")
    ∷ token t.Punct 75 77 0 (codes "++")
    ∷ token t.Punct 77 78 0 (codes ";")
    ∷ token t.Key 81 84 0 (codes "int")
    ∷ token t.Name 85 86 0 (codes "b")
    ∷ token t.Punct 87 88 0 (codes "=")
    ∷ token t.Punct 89 90 0 (codes "-")
    ∷ token t.Punct 90 91 0 (codes "(")
    ∷ token t.Name 91 92 0 (codes "a")
    ∷ token t.Punct 92 93 0 (codes ")")
    ∷ token t.Punct 94 95 0 (codes "*")
    ∷ token t.Punct 96 97 0 (codes "(")
    ∷ token t.Punct 97 98 0 (codes "!")
    ∷ token t.Punct 98 99 0 (codes "(")
    ∷ token t.Name 99 100 0 (codes "a")
    ∷ token t.Punct 100 101 0 (codes ")")
    ∷ token t.Punct 102 103 0 (codes "+")
    ∷ token t.Punct 104 105 0 (codes "(")
    ∷ token t.Punct 105 106 0 (codes "~")
    ∷ token t.Punct 106 107 0 (codes "(")
    ∷ token t.Int 107 108 1 (codes "1")
    ∷ token t.Punct 108 109 0 (codes ")")
    ∷ token t.Punct 109 110 0 (codes ")")
    ∷ token t.Punct 110 111 0 (codes ")")
    ∷ token t.Punct 111 112 0 (codes ";")
    ∷ token t.Key 115 117 0 (codes "if")
    ∷ token t.Punct 118 119 0 (codes "(")
    ∷ token t.Punct 119 120 0 (codes "(")
    ∷ token t.Punct 120 121 0 (codes "(")
    ∷ token t.Name 121 122 0 (codes "a")
    ∷ token t.Punct 122 123 0 (codes ")")
    ∷ token t.Punct 123 124 0 (codes ")")
    ∷ token t.Punct 125 126 0 (codes ">")
    ∷ token t.Punct 127 128 0 (codes "(")
    ∷ token t.Name 128 129 0 (codes "b")
    ∷ token t.Punct 129 130 0 (codes ")")
    ∷ token t.Punct 130 131 0 (codes ")")
    ∷ token t.Name 132 133 0 (codes "a")
    ∷ token t.Punct 134 135 0 (codes "=")
    ∷ token t.Punct 136 137 0 (codes "(")
    ∷ token t.Name 137 138 0 (codes "b")
    ∷ token t.Punct 138 139 0 (codes ")")
    ∷ token t.Punct 139 140 0 (codes ";")
    ∷ token t.Key 143 147 0 (codes "long")
    ∷ token t.Name 148 149 0 (codes "l")
    ∷ token t.Punct 150 151 0 (codes "=")
    ∷ token t.Punct 152 153 0 (codes "(")
    ∷ token t.Name 153 154 0 (codes "a")
    ∷ token t.Punct 154 155 0 (codes ")")
    ∷ token t.Punct 155 156 0 (codes ";")
    ∷ token t.Key 159 165 0 (codes "return")
    ∷ token t.Punct 166 167 0 (codes "(")
    ∷ token t.Punct 167 168 0 (codes "(")
    ∷ token t.Punct 168 169 0 (codes "*")
    ∷ token t.Punct 169 170 0 (codes "(")
    ∷ token t.Name 170 171 0 (codes "p")
    ∷ token t.Punct 171 172 0 (codes ")")
    ∷ token t.Punct 172 173 0 (codes ")")
    ∷ token t.Punct 174 175 0 (codes "+")
    ∷ token t.Punct 176 177 0 (codes "(")
    ∷ token t.Key 177 180 0 (codes "int")
    ∷ token t.Punct 180 181 0 (codes ")")
    ∷ token t.Punct 181 182 0 (codes "(")
    ∷ token t.Name 182 183 0 (codes "l")
    ∷ token t.Punct 183 184 0 (codes ")")
    ∷ token t.Punct 184 185 0 (codes ")")
    ∷ token t.Punct 185 186 0 (codes ";")
    ∷ token t.Punct 187 188 0 (codes "}")
    ∷ []

abbrev pub decls : List Tree
decls = (node k.FunctionDefinition (at 4) (Some 0) (more (node k.TypeSpecifierSeq (at 0) None (more (node k.SimpleTypeSpecifier (at 0) (Some 0) none) none))
    (more (node k.FunctionDeclarator (at 4) (Some 2) (more (node k.DeclaratorId (at 4) (Some 1) none)
    (more (node k.ParameterDeclarationClause (at 9) None none) (more (node k.FunctionQualifiers (at 11) None none) none))))
    (more (node k.CompoundStatement (at 11) (Some 108)
    (more (node k.SimpleDeclaration (at 19) (Some 5) (more (node k.TypeSpecifierSeq (at 15) None (more (node k.SimpleTypeSpecifier (at 15) (Some 5) none) none))
    (more (node k.InitDeclarator (at 19) (Some 6) (more (node k.DeclaratorId (at 19) (Some 6) none)
    (more (node k.EqualInitializer (at 21) (Some 7) (more
    (node k.ParenthesizedExpression (at 23) (Some 8) (more (node k.IntegerLiteral (at 24) (Some 9) none) none)) none)) none))) none)))
    (more (node k.SimpleDeclaration (at 35) (Some 12)
    (more (node k.TypeSpecifierSeq (at 30) None (more (node k.SimpleTypeSpecifier (at 30) (Some 12) none) none))
    (more (node k.InitDeclarator (at 35) (Some 14) (more (node k.PointerDeclarator (at 33) (Some 13) (more (node k.DeclaratorId (at 35) (Some 14) none) none))
    (more (node k.EqualInitializer (at 37) (Some 15) (more
    (node k.ParenthesizedExpression (at 39) (Some 16)
    (more (node k.UnaryExpression (at 40) (Some 17) (more
    (node k.ParenthesizedExpression (at 41) (Some 18) (more (node k.UnqualifiedId (at 42) (Some 19) none) none)) none)) none)) none)) none))) none)))
    (more (node k.ExpressionStatement (at 49) (Some 36)
    (more (node k.AssignmentExpression (at 49) (Some 26)
    (more (node k.ParenthesizedExpression (at 49) (Some 23) (more (node k.UnqualifiedId (at 50) (Some 24) none) none))
    (more (node k.ParenthesizedExpression (at 55) (Some 27)
    (more (node k.BinaryExpression (at 56) (Some 31) (more
    (node k.ParenthesizedExpression (at 56) (Some 28) (more (node k.IntegerLiteral (at 57) (Some 29) none) none))
    (more (node k.ParenthesizedExpression (at 62) (Some 32) (more (node k.UnqualifiedId (at 63) (Some 33) none) none)) none))) none)) none))) none))
    (more (node k.ExpressionStatement (at 70) (Some 43)
    (more (node k.PostfixIncrement (at 70) (Some 42) (more
    (node k.ParenthesizedExpression (at 70) (Some 37)
    (more (node k.ParenthesizedExpression (at 71) (Some 38) (more (node k.UnqualifiedId (at 72) (Some 39) none) none)) none)) none)) none))
    (more (node k.SimpleDeclaration (at 85) (Some 44)
    (more (node k.TypeSpecifierSeq (at 81) None (more (node k.SimpleTypeSpecifier (at 81) (Some 44) none) none))
    (more (node k.InitDeclarator (at 85) (Some 45) (more (node k.DeclaratorId (at 85) (Some 45) none)
    (more (node k.EqualInitializer (at 87) (Some 46) (more
    (node k.BinaryExpression (at 89) (Some 51) (more (node k.UnaryExpression (at 89) (Some 47)
    (more (node k.ParenthesizedExpression (at 90) (Some 48) (more (node k.UnqualifiedId (at 91) (Some 49) none) none)) none))
    (more (node k.ParenthesizedExpression (at 96) (Some 52)
    (more (node k.BinaryExpression (at 97) (Some 57) (more
    (node k.UnaryExpression (at 97) (Some 53) (more (node k.ParenthesizedExpression (at 98) (Some 54)
    (more (node k.UnqualifiedId (at 99) (Some 55) none) none)) none))
    (more (node k.ParenthesizedExpression (at 104) (Some 58)
    (more (node k.UnaryExpression (at 105) (Some 59) (more
    (node k.ParenthesizedExpression (at 106) (Some 60)
    (more (node k.IntegerLiteral (at 107) (Some 61) none) none)) none)) none)) none))) none)) none))) none)) none))) none)))
    (more (node k.IfStatement (at 115) (Some 66) (more
    (node k.BinaryExpression (at 119) (Some 73) (more
    (node k.ParenthesizedExpression (at 119) (Some 68)
    (more (node k.ParenthesizedExpression (at 120) (Some 69) (more (node k.UnqualifiedId (at 121) (Some 70) none) none)) none))
    (more (node k.ParenthesizedExpression (at 127) (Some 74) (more (node k.UnqualifiedId (at 128) (Some 75) none) none)) none)))
    (more (node k.ExpressionStatement (at 132) (Some 83)
    (more (node k.AssignmentExpression (at 132) (Some 79)
    (more (node k.UnqualifiedId (at 132) (Some 78) none)
    (more (node k.ParenthesizedExpression (at 136) (Some 80) (more (node k.UnqualifiedId (at 137) (Some 81) none) none)) none))) none)) none)))
    (more (node k.SimpleDeclaration (at 148) (Some 84)
    (more (node k.TypeSpecifierSeq (at 143) None (more (node k.SimpleTypeSpecifier (at 143) (Some 84) none) none))
    (more (node k.InitDeclarator (at 148) (Some 85) (more (node k.DeclaratorId (at 148) (Some 85) none)
    (more (node k.EqualInitializer (at 150) (Some 86)
    (more (node k.ParenthesizedExpression (at 152) (Some 87) (more (node k.UnqualifiedId (at 153) (Some 88) none) none)) none)) none))) none)))
    (more (node k.ReturnStatement (at 159) (Some 91) (more
    (node k.ParenthesizedExpression (at 166) (Some 92)
    (more (node k.BinaryExpression (at 167) (Some 99)
    (more (node k.ParenthesizedExpression (at 167) (Some 93)
    (more (node k.UnaryExpression (at 168) (Some 94) (more
    (node k.ParenthesizedExpression (at 169) (Some 95) (more (node k.UnqualifiedId (at 170) (Some 96) none) none)) none)) none))
    (more (node k.CastExpression (at 176) (Some 100) (more
    (node k.TypeId (at 177) None (more (node k.TypeSpecifierSeq (at 177) None (more (node k.SimpleTypeSpecifier (at 177) (Some 101) none) none))
    (more (node k.OmittedId (at 180) None none) none)))
    (more (node k.ParenthesizedExpression (at 181) (Some 103)
    (more (node k.UnqualifiedId (at 182) (Some 104) none) none)) none))) none))) none)) none)) none))))))))) none))))
    ∷ []

abbrev pub text : List ℕ
text = lines (codes "function main()"
    ∷ codes "  frame 0 int"
    ∷ codes "  frame 1 int*"
    ∷ codes "  frame 2 int"
    ∷ codes "  frame 3 long"
    ∷ codes "  Block @11"
    ∷ codes "    Init @19"
    ∷ codes "      Local 0 @19 l int"
    ∷ codes "      Store Int @23 p int"
    ∷ codes "        Literal 1 @24 p int"
    ∷ codes "    Init @35"
    ∷ codes "      Local 1 @35 l int*"
    ∷ codes "      Store ULong @39 p int*"
    ∷ codes "        Retype @40 p int*"
    ∷ codes "          Local 0 @42 l int"
    ∷ codes "    Assign Int @49 l int"
    ∷ codes "      Local 0 @50 l int"
    ∷ codes "      Binary Add Int @56 p int"
    ∷ codes "        Literal 2 @57 p int"
    ∷ codes "        Load Int @62 p int"
    ∷ codes "          Local 0 @63 l int"
    ∷ codes "    Update Add Int Int old @70 p int"
    ∷ codes "      Local 0 @72 l int"
    ∷ codes "      Literal 1 @70 p int"
    ∷ codes "    Init @85"
    ∷ codes "      Local 2 @85 l int"
    ∷ codes "      Store Int @89 p int"
    ∷ codes "        Binary Mul Int @89 p int"
    ∷ codes "          Binary Sub Int @89 p int"
    ∷ codes "            Literal 0 @89 p int"
    ∷ codes "            Load Int @90 p int"
    ∷ codes "              Local 0 @91 l int"
    ∷ codes "          Binary Add Int @97 p int"
    ∷ codes "            Convert Int @97 p int"
    ∷ codes "              Binary Eq Int @97 p bool"
    ∷ codes "                Convert Int @98 p int"
    ∷ codes "                  Convert Bool @98 p bool"
    ∷ codes "                    Load Int @98 p int"
    ∷ codes "                      Local 0 @99 l int"
    ∷ codes "                Literal 0 @97 p int"
    ∷ codes "            Binary Xor Int @105 p int"
    ∷ codes "              Literal 1 @107 p int"
    ∷ codes "              Literal 18446744073709551615 @105 p int"
    ∷ codes "    Conditional @115"
    ∷ codes "      Binary Gt Int @119 p bool"
    ∷ codes "        Load Int @119 p int"
    ∷ codes "          Local 0 @121 l int"
    ∷ codes "        Load Int @127 p int"
    ∷ codes "          Local 2 @128 l int"
    ∷ codes "      Assign Int @132 l int"
    ∷ codes "        Local 0 @132 l int"
    ∷ codes "        Load Int @136 p int"
    ∷ codes "          Local 2 @137 l int"
    ∷ codes "      Block @115"
    ∷ codes "    Init @148"
    ∷ codes "      Local 3 @148 l long"
    ∷ codes "      Store Long @152 p long"
    ∷ codes "        Convert Long @152 p long"
    ∷ codes "          Load Int @152 p int"
    ∷ codes "            Local 0 @153 l int"
    ∷ codes "    Return @159"
    ∷ codes "      Binary Add Int @167 p int"
    ∷ codes "        Load Int @167 p int"
    ∷ codes "          Retype @168 l int"
    ∷ codes "            Load ULong @169 p int*"
    ∷ codes "              Local 1 @170 l int*"
    ∷ codes "        Convert Int @176 p int"
    ∷ codes "          Load Long @181 p long"
    ∷ codes "            Local 3 @182 l long"
    ∷ codes "    Return @11"
    ∷ codes "      Literal 0 @11 p int"
    ∷ [])
