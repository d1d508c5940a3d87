-- A unit: its tokens, its trees, and its typed bodies as text, where @ stands before the offset of a place.
--
--     int main() {
--       int r = 0;
--       try { throw 5; } catch (int e) { e = e + 1; r = e; int k = e; r += k; }
--       try { throw 6L; } catch (const long e) { r += e; }
--       try { try { throw r; } catch (int a) { throw a + 1; } } catch (const int& b) { r = b; }
--       return r;
--     }
use Rattle.std.specs.Prelude.{ℕ, List, [], ◌∷◌, Some, None, codes}
use Rattle.elab_rules.specs.cpp_lex.Tokens.{Lexeme}
use Rattle.elab_rules.specs.cpp_lex.declared.TokKind.TheVariants as t
use Rattle.elab_rules.specs.cpp_ast.declared.kinds.NodeKind.TheVariants as k
use Rattle.elab_rules.specs.cpp_ast.Trees.{Tree, node, none, more}
use Rattle.elab_worked.specs.Notation.{at, token, lines}

abbrev pub tokens : List Lexeme
tokens = token t.Key 0 3 0 (codes "int")
    ∷ token t.Name 4 8 0 (codes "main")
    ∷ token t.Punct 8 9 0 (codes "(")
    ∷ token t.Punct 9 10 0 (codes ")")
    ∷ token t.Punct 11 12 0 (codes "{")
    ∷ token t.Key 15 18 0 (codes "int")
    ∷ token t.Name 19 20 0 (codes "r")
    ∷ token t.Punct 21 22 0 (codes "=")
    ∷ token t.Int 23 24 0 (codes "0")
    ∷ token t.Punct 24 25 0 (codes ";")
    ∷ token t.Key 28 31 0 (codes "try")
    ∷ token t.Punct 32 33 0 (codes "{")
    ∷ token t.Key 34 39 0 (codes "throw")
    ∷ token t.Int 40 41 5 (codes "5")
    ∷ token t.Punct 41 42 0 (codes ";")
    ∷ token t.Punct 43 44 0 (codes "}")
    ∷ token t.Key 45 50 0 (codes "catch")
    ∷ token t.Punct 51 52 0 (codes "(")
    ∷ token t.Key 52 55 0 (codes "int")
    ∷ token t.Name 56 57 0 (codes "e")
    ∷ token t.Punct 57 58 0 (codes ")")
    ∷ token t.Punct 59 60 0 (codes "{")
    ∷ token t.Name 61 62 0 (codes "e")
    ∷ token t.Punct 63 64 0 (codes "=")
    ∷ token t.Name 65 66 0 (codes "e")
    ∷ token t.Punct 67 68 0 (codes "+")
    ∷ token t.Int 69 70 1 (codes "1")
    ∷ token t.Punct 70 71 0 (codes ";")
    ∷ token t.Name 72 73 0 (codes "r")
    ∷ token t.Punct 74 75 0 (codes "=")
    ∷ token t.Name 76 77 0 (codes "e")
    ∷ token t.Punct 77 78 0 (codes ";")
    ∷ token t.Key 79 82 0 (codes "int")
    ∷ token t.Name 83 84 0 (codes "k")
    ∷ token t.Punct 85 86 0 (codes "=")
    ∷ token t.Name 87 88 0 (codes "e")
    ∷ token t.Punct 88 89 0 (codes ";")
    ∷ token t.Name 90 91 0 (codes "r")
    ∷ token t.Punct 92 94 0 (codes "+=")
    ∷ token t.Name 95 96 0 (codes "k")
    ∷ token t.Punct 96 97 0 (codes ";")
    ∷ token t.Punct 98 99 0 (codes "}")
    ∷ token t.Key 102 105 0 (codes "try")
    ∷ token t.Punct 106 107 0 (codes "{")
    ∷ token t.Key 108 113 0 (codes "throw")
    ∷ token t.Int 114 116 6 (codes "6L")
    ∷ token t.Punct 116 117 0 (codes ";")
    ∷ token t.Punct 118 119 0 (codes "}")
    ∷ token t.Key 120 125 0 (codes "catch")
    ∷ token t.Punct 126 127 0 (codes "(")
    ∷ token t.Key 127 132 0 (codes "const")
    ∷ token t.Key 133 137 0 (codes "long")
    ∷ token t.Name 138 139 0 (codes "e")
    ∷ token t.Punct 139 140 0 (codes ")")
    ∷ token t.Punct 141 142 0 (codes "{")
    ∷ token t.Name 143 144 0 (codes "r")
    ∷ token t.Punct 145 147 0 (codes "+=")
    ∷ token t.Name 148 149 0 (codes "e")
    ∷ token t.Punct 149 150 0 (codes ";")
    ∷ token t.Punct 151 152 0 (codes "}")
    ∷ token t.Key 155 158 0 (codes "try")
    ∷ token t.Punct 159 160 0 (codes "{")
    ∷ token t.Key 161 164 0 (codes "try")
    ∷ token t.Punct 165 166 0 (codes "{")
    ∷ token t.Key 167 172 0 (codes "throw")
    ∷ token t.Name 173 174 0 (codes "r")
    ∷ token t.Punct 174 175 0 (codes ";")
    ∷ token t.Punct 176 177 0 (codes "}")
    ∷ token t.Key 178 183 0 (codes "catch")
    ∷ token t.Punct 184 185 0 (codes "(")
    ∷ token t.Key 185 188 0 (codes "int")
    ∷ token t.Name 189 190 0 (codes "a")
    ∷ token t.Punct 190 191 0 (codes ")")
    ∷ token t.Punct 192 193 0 (codes "{")
    ∷ token t.Key 194 199 0 (codes "throw")
    ∷ token t.Name 200 201 0 (codes "a")
    ∷ token t.Punct 202 203 0 (codes "+")
    ∷ token t.Int 204 205 1 (codes "1")
    ∷ token t.Punct 205 206 0 (codes ";")
    ∷ token t.Punct 207 208 0 (codes "}")
    ∷ token t.Punct 209 210 0 (codes "}")
    ∷ token t.Key 211 216 0 (codes "catch")
    ∷ token t.Punct 217 218 0 (codes "(")
    ∷ token t.Key 218 223 0 (codes "const")
    ∷ token t.Key 224 227 0 (codes "int")
    ∷ token t.Punct 227 228 0 (codes "&")
    ∷ token t.Name 229 230 0 (codes "b")
    ∷ token t.Punct 230 231 0 (codes ")")
    ∷ token t.Punct 232 233 0 (codes "{")
    ∷ token t.Name 234 235 0 (codes "r")
    ∷ token t.Punct 236 237 0 (codes "=")
    ∷ token t.Name 238 239 0 (codes "b")
    ∷ token t.Punct 239 240 0 (codes ";")
    ∷ token t.Punct 241 242 0 (codes "}")
    ∷ token t.Key 245 251 0 (codes "return")
    ∷ token t.Name 252 253 0 (codes "r")
    ∷ token t.Punct 253 254 0 (codes ";")
    ∷ token t.Punct 255 256 0 (codes "}")
    ∷ []

abbrev pub decls : List Tree
decls = (node k.FunctionDefinition (at 4) (Some 0) (more (node k.TypeSpecifierSeq (at 0) None (more (node k.SimpleTypeSpecifier (at 0) (Some 0) none) none))
    (more (node k.FunctionDeclarator (at 4) (Some 2) (more (node k.DeclaratorId (at 4) (Some 1) none)
    (more (node k.ParameterDeclarationClause (at 9) None none) (more (node k.FunctionQualifiers (at 11) None none) none))))
    (more (node k.CompoundStatement (at 11) (Some 97)
    (more (node k.SimpleDeclaration (at 19) (Some 5) (more (node k.TypeSpecifierSeq (at 15) None (more (node k.SimpleTypeSpecifier (at 15) (Some 5) none) none))
    (more (node k.InitDeclarator (at 19) (Some 6) (more (node k.DeclaratorId (at 19) (Some 6) none)
    (more (node k.EqualInitializer (at 21) (Some 7) (more (node k.IntegerLiteral (at 23) (Some 8) none) none)) none))) none)))
    (more (node k.TryBlock (at 28) (Some 10) (more (node k.CompoundStatement (at 32) (Some 15)
    (more (node k.ExpressionStatement (at 34) (Some 14)
    (more (node k.ThrowExpression (at 34) (Some 12) (more (node k.IntegerLiteral (at 40) (Some 13) none) none)) none)) none))
    (more (node k.Handler (at 45) (Some 16) (more (node k.ParameterDeclaration (at 56) None
    (more (node k.TypeSpecifierSeq (at 52) None (more (node k.SimpleTypeSpecifier (at 52) (Some 18) none) none))
    (more (node k.DeclaratorId (at 56) (Some 19) none) none)))
    (more (node k.CompoundStatement (at 59) (Some 41)
    (more (node k.ExpressionStatement (at 61) (Some 27)
    (more (node k.AssignmentExpression (at 61) (Some 23)
    (more (node k.UnqualifiedId (at 61) (Some 22) none)
    (more (node k.BinaryExpression (at 65) (Some 25) (more (node k.UnqualifiedId (at 65) (Some 24) none)
    (more (node k.IntegerLiteral (at 69) (Some 26) none) none))) none))) none))
    (more (node k.ExpressionStatement (at 72) (Some 31)
    (more (node k.AssignmentExpression (at 72) (Some 29)
    (more (node k.UnqualifiedId (at 72) (Some 28) none) (more (node k.UnqualifiedId (at 76) (Some 30) none) none))) none))
    (more (node k.SimpleDeclaration (at 83) (Some 32)
    (more (node k.TypeSpecifierSeq (at 79) None (more (node k.SimpleTypeSpecifier (at 79) (Some 32) none) none))
    (more (node k.InitDeclarator (at 83) (Some 33) (more (node k.DeclaratorId (at 83) (Some 33) none)
    (more (node k.EqualInitializer (at 85) (Some 34) (more (node k.UnqualifiedId (at 87) (Some 35) none) none)) none))) none)))
    (more (node k.ExpressionStatement (at 90) (Some 40)
    (more (node k.AssignmentExpression (at 90) (Some 38)
    (more (node k.UnqualifiedId (at 90) (Some 37) none) (more (node k.UnqualifiedId (at 95) (Some 39) none) none))) none)) none))))) none))) none)))
    (more (node k.TryBlock (at 102) (Some 42) (more (node k.CompoundStatement (at 106) (Some 47)
    (more (node k.ExpressionStatement (at 108) (Some 46)
    (more (node k.ThrowExpression (at 108) (Some 44) (more (node k.IntegerLiteral (at 114) (Some 45) none) none)) none)) none))
    (more (node k.Handler (at 120) (Some 48) (more (node k.ParameterDeclaration (at 138) None
    (more (node k.TypeSpecifierSeq (at 127) None (more (node k.CvQualifier (at 127) (Some 50) none)
    (more (node k.SimpleTypeSpecifier (at 133) (Some 51) none) none))) (more (node k.DeclaratorId (at 138) (Some 52) none) none)))
    (more (node k.CompoundStatement (at 141) (Some 59)
    (more (node k.ExpressionStatement (at 143) (Some 58)
    (more (node k.AssignmentExpression (at 143) (Some 56)
    (more (node k.UnqualifiedId (at 143) (Some 55) none) (more (node k.UnqualifiedId (at 148) (Some 57) none) none))) none)) none)) none))) none)))
    (more (node k.TryBlock (at 155) (Some 60) (more (node k.CompoundStatement (at 159) (Some 80)
    (more (node k.TryBlock (at 161) (Some 62) (more (node k.CompoundStatement (at 165) (Some 67)
    (more (node k.ExpressionStatement (at 167) (Some 66)
    (more (node k.ThrowExpression (at 167) (Some 64) (more (node k.UnqualifiedId (at 173) (Some 65) none) none)) none)) none))
    (more (node k.Handler (at 178) (Some 68) (more (node k.ParameterDeclaration (at 189) None
    (more (node k.TypeSpecifierSeq (at 185) None (more (node k.SimpleTypeSpecifier (at 185) (Some 70) none) none))
    (more (node k.DeclaratorId (at 189) (Some 71) none) none)))
    (more (node k.CompoundStatement (at 192) (Some 79)
    (more (node k.ExpressionStatement (at 194) (Some 78)
    (more (node k.ThrowExpression (at 194) (Some 74) (more
    (node k.BinaryExpression (at 200) (Some 76) (more (node k.UnqualifiedId (at 200) (Some 75) none)
    (more (node k.IntegerLiteral (at 204) (Some 77) none) none))) none)) none)) none)) none))) none))) none))
    (more (node k.Handler (at 211) (Some 81) (more (node k.ParameterDeclaration (at 229) None
    (more (node k.TypeSpecifierSeq (at 218) None (more (node k.CvQualifier (at 218) (Some 83) none)
    (more (node k.SimpleTypeSpecifier (at 224) (Some 84) none) none)))
    (more (node k.ReferenceDeclarator (at 227) (Some 85) (more (node k.DeclaratorId (at 229) (Some 86) none) none)) none)))
    (more (node k.CompoundStatement (at 232) (Some 93)
    (more (node k.ExpressionStatement (at 234) (Some 92)
    (more (node k.AssignmentExpression (at 234) (Some 90)
    (more (node k.UnqualifiedId (at 234) (Some 89) none) (more (node k.UnqualifiedId (at 238) (Some 91) none) none))) none)) none)) none))) none)))
    (more (node k.ReturnStatement (at 245) (Some 94) (more (node k.UnqualifiedId (at 252) (Some 95) none) none)) none)))))) none))))
    ∷ []

abbrev pub text : List ℕ
text = lines (codes "function main()"
    ∷ codes "  frame 0 int"
    ∷ codes "  frame 1 int"
    ∷ codes "  frame 2 int"
    ∷ codes "  frame 3 const long"
    ∷ codes "  frame 4 int"
    ∷ codes "  frame 5 const int"
    ∷ codes "  Block @11"
    ∷ codes "    Init @19"
    ∷ codes "      Local 0 @19 l int"
    ∷ codes "      Store Int @23 p int"
    ∷ codes "        Literal 0 @23 p int"
    ∷ codes "    Try @28"
    ∷ codes "      Block @32"
    ∷ codes "        Throw @34 p int"
    ∷ codes "          Literal 5 @40 p int"
    ∷ codes "          Field 0 Int @34"
    ∷ codes "      Handler 1 @45 p int"
    ∷ codes "        Block @59"
    ∷ codes "          Assign Int @61 l int"
    ∷ codes "            Local 1 @61 l int"
    ∷ codes "            Binary Add Int @65 p int"
    ∷ codes "              Load Int @65 p int"
    ∷ codes "                Local 1 @65 l int"
    ∷ codes "              Literal 1 @69 p int"
    ∷ codes "          Assign Int @72 l int"
    ∷ codes "            Local 0 @72 l int"
    ∷ codes "            Load Int @76 p int"
    ∷ codes "              Local 1 @76 l int"
    ∷ codes "          Init @83"
    ∷ codes "            Local 2 @83 l int"
    ∷ codes "            Store Int @87 p int"
    ∷ codes "              Load Int @87 p int"
    ∷ codes "                Local 1 @87 l int"
    ∷ codes "          Update Add Int Int @90 l int"
    ∷ codes "            Local 0 @90 l int"
    ∷ codes "            Load Int @95 p int"
    ∷ codes "              Local 2 @95 l int"
    ∷ codes "        Field 0 Int @45"
    ∷ codes "    Try @102"
    ∷ codes "      Block @106"
    ∷ codes "        Throw @108 p long"
    ∷ codes "          Literal 6 @114 p long"
    ∷ codes "          Field 0 Long @108"
    ∷ codes "      Handler 3 @120 p const long"
    ∷ codes "        Block @141"
    ∷ codes "          Update Add Int Long @143 l int"
    ∷ codes "            Local 0 @143 l int"
    ∷ codes "            Load Long @148 p long"
    ∷ codes "              Local 3 @148 l const long"
    ∷ codes "        Field 0 Long @120"
    ∷ codes "    Try @155"
    ∷ codes "      Block @159"
    ∷ codes "        Try @161"
    ∷ codes "          Block @165"
    ∷ codes "            Throw @167 p int"
    ∷ codes "              Load Int @173 p int"
    ∷ codes "                Local 0 @173 l int"
    ∷ codes "              Field 0 Int @167"
    ∷ codes "          Handler 4 @178 p int"
    ∷ codes "            Block @192"
    ∷ codes "              Throw @194 p int"
    ∷ codes "                Binary Add Int @200 p int"
    ∷ codes "                  Load Int @200 p int"
    ∷ codes "                    Local 4 @200 l int"
    ∷ codes "                  Literal 1 @204 p int"
    ∷ codes "                Field 0 Int @194"
    ∷ codes "            Field 0 Int @178"
    ∷ codes "      Handler 5 @211 p const int&"
    ∷ codes "        Block @232"
    ∷ codes "          Assign Int @234 l int"
    ∷ codes "            Local 0 @234 l int"
    ∷ codes "            Load Int @238 p int"
    ∷ codes "              Local 5 @238 l const int"
    ∷ codes "        Field 0 Int @211"
    ∷ codes "    Return @245"
    ∷ codes "      Load Int @252 p int"
    ∷ codes "        Local 0 @252 l int"
    ∷ codes "    Return @11"
    ∷ codes "      Literal 0 @11 p int"
    ∷ [])
