-- A unit: its tokens, its trees, and its typed bodies as text, where @ stands before the offset of a place.
--
--     void w(long a) { synchronized { putchar('a' + a); } }
--     int main() {
--       int t = __txcc_spawn(w, 1);
--       __txcc_join(t);
--       int c = getchar();
--       putchar(c == -1 ? 'e' : 'x');
--       int p = putchar(321);
--       return p;
--     }
use Rattle.std.specs.Prelude.{ℕ, List, [], ◌∷◌, Some, None, codes}
use Rattle.elab_rules.specs.cpp_lex.Tokens.{Lexeme}
use Rattle.elab_rules.specs.cpp_lex.declared.TokKind.TheVariants as t
use Rattle.elab_rules.specs.cpp_ast.declared.kinds.NodeKind.TheVariants as k
use Rattle.elab_rules.specs.cpp_ast.Trees.{Tree, node, none, more}
use Rattle.elab_worked.specs.Notation.{at, token, lines}

abbrev pub tokens : List Lexeme
tokens = token t.Key 0 4 0 (codes "void")
    ∷ token t.Name 5 6 0 (codes "w")
    ∷ token t.Punct 6 7 0 (codes "(")
    ∷ token t.Key 7 11 0 (codes "long")
    ∷ token t.Name 12 13 0 (codes "a")
    ∷ token t.Punct 13 14 0 (codes ")")
    ∷ token t.Punct 15 16 0 (codes "{")
    ∷ token t.Key 17 29 0 (codes "synchronized")
    ∷ token t.Punct 30 31 0 (codes "{")
    ∷ token t.Name 32 39 0 (codes "putchar")
    ∷ token t.Punct 39 40 0 (codes "(")
    ∷ token t.Char 40 43 97 (codes "'a'")
    ∷ token t.Punct 44 45 0 (codes "+")
    ∷ token t.Name 46 47 0 (codes "a")
    ∷ token t.Punct 47 48 0 (codes ")")
    ∷ token t.Punct 48 49 0 (codes ";")
    ∷ token t.Punct 50 51 0 (codes "}")
    ∷ token t.Punct 52 53 0 (codes "}")
    ∷ token t.Key 54 57 0 (codes "int")
    ∷ token t.Name 58 62 0 (codes "main")
    ∷ token t.Punct 62 63 0 (codes "(")
    ∷ token t.Punct 63 64 0 (codes ")")
    ∷ token t.Punct 65 66 0 (codes "{")
    ∷ token t.Key 69 72 0 (codes "int")
    ∷ token t.Name 73 74 0 (codes "t")
    ∷ token t.Punct 75 76 0 (codes "=")
    ∷ token t.Name 77 89 0 (codes "__txcc_spawn")
    ∷ token t.Punct 89 90 0 (codes "(")
    ∷ token t.Name 90 91 0 (codes "w")
    ∷ token t.Punct 91 92 0 (codes ",")
    ∷ token t.Int 93 94 1 (codes "1")
    ∷ token t.Punct 94 95 0 (codes ")")
    ∷ token t.Punct 95 96 0 (codes ";")
    ∷ token t.Name 99 110 0 (codes "__txcc_join")
    ∷ token t.Punct 110 111 0 (codes "(")
    ∷ token t.Name 111 112 0 (codes "t")
    ∷ token t.Punct 112 113 0 (codes ")")
    ∷ token t.Punct 113 114 0 (codes ";")
    ∷ token t.Key 117 120 0 (codes "int")
    ∷ token t.Name 121 122 0 (codes "c")
    ∷ token t.Punct 123 124 0 (codes "=")
    ∷ token t.Name 125 132 0 (codes "getchar")
    ∷ token t.Punct 132 133 0 (codes "(")
    ∷ token t.Punct 133 134 0 (codes ")")
    ∷ token t.Punct 134 135 0 (codes ";")
    ∷ token t.Name 138 145 0 (codes "putchar")
    ∷ token t.Punct 145 146 0 (codes "(")
    ∷ token t.Name 146 147 0 (codes "c")
    ∷ token t.Punct 148 150 0 (codes "==")
    ∷ token t.Punct 151 152 0 (codes "-")
    ∷ token t.Int 152 153 1 (codes "1")
    ∷ token t.Punct 154 155 0 (codes "?")
    ∷ token t.Char 156 159 101 (codes "'e'")
    ∷ token t.Punct 160 161 0 (codes ":")
    ∷ token t.Char 162 165 120 (codes "'x'")
    ∷ token t.Punct 165 166 0 (codes ")")
    ∷ token t.Punct 166 167 0 (codes ";")
    ∷ token t.Key 170 173 0 (codes "int")
    ∷ token t.Name 174 175 0 (codes "p")
    ∷ token t.Punct 176 177 0 (codes "=")
    ∷ token t.Name 178 185 0 (codes "putchar")
    ∷ token t.Punct 185 186 0 (codes "(")
    ∷ token t.Int 186 189 321 (codes "321")
    ∷ token t.Punct 189 190 0 (codes ")")
    ∷ token t.Punct 190 191 0 (codes ";")
    ∷ token t.Key 194 200 0 (codes "return")
    ∷ token t.Name 201 202 0 (codes "p")
    ∷ token t.Punct 202 203 0 (codes ";")
    ∷ token t.Punct 204 205 0 (codes "}")
    ∷ []

abbrev pub decls : List Tree
decls = (node k.FunctionDefinition (at 5) (Some 0) (more (node k.TypeSpecifierSeq (at 0) None (more (node k.SimpleTypeSpecifier (at 0) (Some 0) none) none))
    (more (node k.FunctionDeclarator (at 5) (Some 2) (more (node k.DeclaratorId (at 5) (Some 1) none)
    (more (node k.ParameterDeclarationClause (at 7) None
    (more (node k.ParameterDeclaration (at 12) None (more (node k.TypeSpecifierSeq (at 7) None (more (node k.SimpleTypeSpecifier (at 7) (Some 3) none) none))
    (more (node k.DeclaratorId (at 12) (Some 4) none) none))) none)) (more (node k.FunctionQualifiers (at 15) None none) none))))
    (more (node k.CompoundStatement (at 15) (Some 17)
    (more (node k.SynchronizedStatement (at 17) (Some 7)
    (more (node k.CompoundStatement (at 30) (Some 16)
    (more (node k.ExpressionStatement (at 32) (Some 15)
    (more (node k.FunctionCall (at 32) (Some 10) (more (node k.UnqualifiedId (at 32) (Some 9) none)
    (more (node k.BinaryExpression (at 40) (Some 12) (more (node k.CharacterLiteral (at 40) (Some 11) none)
    (more (node k.UnqualifiedId (at 46) (Some 13) none) none))) none))) none)) none)) none)) none)) none))))
    ∷ (node k.FunctionDefinition (at 58) (Some 18) (more (node k.TypeSpecifierSeq (at 54) None (more (node k.SimpleTypeSpecifier (at 54) (Some 18) none) none))
    (more (node k.FunctionDeclarator (at 58) (Some 20)
    (more (node k.DeclaratorId (at 58) (Some 19) none)
    (more (node k.ParameterDeclarationClause (at 63) None none) (more (node k.FunctionQualifiers (at 65) None none) none))))
    (more (node k.CompoundStatement (at 65) (Some 68)
    (more (node k.SimpleDeclaration (at 73) (Some 23)
    (more (node k.TypeSpecifierSeq (at 69) None (more (node k.SimpleTypeSpecifier (at 69) (Some 23) none) none))
    (more (node k.InitDeclarator (at 73) (Some 24)
    (more (node k.DeclaratorId (at 73) (Some 24) none)
    (more (node k.EqualInitializer (at 75) (Some 25)
    (more (node k.FunctionCall (at 77) (Some 27) (more (node k.UnqualifiedId (at 77) (Some 26) none)
    (more (node k.UnqualifiedId (at 90) (Some 28) none) (more (node k.IntegerLiteral (at 93) (Some 30) none) none)))) none)) none))) none)))
    (more (node k.ExpressionStatement (at 99) (Some 37)
    (more (node k.FunctionCall (at 99) (Some 34) (more (node k.UnqualifiedId (at 99) (Some 33) none)
    (more (node k.UnqualifiedId (at 111) (Some 35) none) none))) none))
    (more (node k.SimpleDeclaration (at 121) (Some 38)
    (more (node k.TypeSpecifierSeq (at 117) None (more (node k.SimpleTypeSpecifier (at 117) (Some 38) none) none))
    (more (node k.InitDeclarator (at 121) (Some 39)
    (more (node k.DeclaratorId (at 121) (Some 39) none)
    (more (node k.EqualInitializer (at 123) (Some 40)
    (more (node k.FunctionCall (at 125) (Some 42) (more (node k.UnqualifiedId (at 125) (Some 41) none) none)) none)) none))) none)))
    (more (node k.ExpressionStatement (at 138) (Some 56)
    (more (node k.FunctionCall (at 138) (Some 46)
    (more (node k.UnqualifiedId (at 138) (Some 45) none)
    (more (node k.ConditionalExpression (at 146) (Some 51)
    (more (node k.BinaryExpression (at 146) (Some 48)
    (more (node k.UnqualifiedId (at 146) (Some 47) none)
    (more (node k.UnaryExpression (at 151) (Some 49) (more (node k.IntegerLiteral (at 152) (Some 50) none) none)) none)))
    (more (node k.CharacterLiteral (at 156) (Some 52) none) (more (node k.CharacterLiteral (at 162) (Some 54) none) none)))) none))) none))
    (more (node k.SimpleDeclaration (at 174) (Some 57)
    (more (node k.TypeSpecifierSeq (at 170) None (more (node k.SimpleTypeSpecifier (at 170) (Some 57) none) none))
    (more (node k.InitDeclarator (at 174) (Some 58)
    (more (node k.DeclaratorId (at 174) (Some 58) none)
    (more (node k.EqualInitializer (at 176) (Some 59)
    (more (node k.FunctionCall (at 178) (Some 61)
    (more (node k.UnqualifiedId (at 178) (Some 60) none) (more (node k.IntegerLiteral (at 186) (Some 62) none) none))) none)) none))) none)))
    (more (node k.ReturnStatement (at 194) (Some 65) (more (node k.UnqualifiedId (at 201) (Some 66) none) none)) none))))))) none))))
    ∷ []

abbrev pub text : List ℕ
text = lines (codes "function w(long)"
    ∷ codes "  frame 0 long"
    ∷ codes "  Block @15"
    ∷ codes "    Synchronized @17"
    ∷ codes "      Block @30"
    ∷ codes "        Builtin PutChar @32 p int"
    ∷ codes "          Convert Int @40 p int"
    ∷ codes "            Binary Add Long @40 p long"
    ∷ codes "              Convert Long @40 p long"
    ∷ codes "                Literal 97 @40 p char"
    ∷ codes "              Load Long @46 p long"
    ∷ codes "                Local 0 @46 l long"
    ∷ codes "function main()"
    ∷ codes "  frame 0 int"
    ∷ codes "  frame 1 int"
    ∷ codes "  frame 2 int"
    ∷ codes "  Block @65"
    ∷ codes "    Init @73"
    ∷ codes "      Local 0 @73 l int"
    ∷ codes "      Store Int @77 p int"
    ∷ codes "        Builtin Spawn @77 p int"
    ∷ codes "          Retype @90 p void(*)(long)"
    ∷ codes "            Function w(long) @90 l void(long)"
    ∷ codes "          Convert Long @93 p long"
    ∷ codes "            Literal 1 @93 p int"
    ∷ codes "    Builtin Join @99"
    ∷ codes "      Load Int @111 p int"
    ∷ codes "        Local 0 @111 l int"
    ∷ codes "    Init @121"
    ∷ codes "      Local 1 @121 l int"
    ∷ codes "      Store Int @125 p int"
    ∷ codes "        Builtin GetChar @125 p int"
    ∷ codes "    Builtin PutChar @138 p int"
    ∷ codes "      Convert Int @146 p int"
    ∷ codes "        Conditional @146 p char"
    ∷ codes "          Binary Eq Int @146 p bool"
    ∷ codes "            Load Int @146 p int"
    ∷ codes "              Local 1 @146 l int"
    ∷ codes "            Binary Sub Int @151 p int"
    ∷ codes "              Literal 0 @151 p int"
    ∷ codes "              Literal 1 @152 p int"
    ∷ codes "          Literal 101 @156 p char"
    ∷ codes "          Literal 120 @162 p char"
    ∷ codes "    Init @174"
    ∷ codes "      Local 2 @174 l int"
    ∷ codes "      Store Int @178 p int"
    ∷ codes "        Builtin PutChar @178 p int"
    ∷ codes "          Literal 321 @186 p int"
    ∷ codes "    Return @194"
    ∷ codes "      Load Int @201 p int"
    ∷ codes "        Local 2 @201 l int"
    ∷ codes "    Return @65"
    ∷ codes "      Literal 0 @65 p int"
    ∷ [])
