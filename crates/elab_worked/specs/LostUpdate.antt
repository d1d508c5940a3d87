-- A unit: its tokens, its trees, and its typed bodies as text, where @ stands before the offset of a place.
--
--     int x;
--     void w(long) { atomic_noexcept { x = x + 1; } }
--     int main() { int a = __txcc_spawn(w, 0); int b = __txcc_spawn(w, 0);
--       __txcc_join(a); __txcc_join(b); putchar('0' + x); return 0; }
use Rattle.std.specs.Prelude.{ℕ, List, [], ◌∷◌, Some, None, codes}
use Rattle.elab_rules.specs.cpp_lex.Tokens.{Lexeme}
use Rattle.elab_rules.specs.cpp_lex.declared.TokKind.TheVariants as t
use Rattle.elab_rules.specs.cpp_ast.declared.kinds.NodeKind.TheVariants as k
use Rattle.elab_rules.specs.cpp_ast.Trees.{Tree, node, none, more}
use Rattle.elab_worked.specs.Notation.{at, token, lines}

abbrev pub tokens : List Lexeme
tokens = token t.Key 0 3 0 (codes "int")
    ∷ token t.Name 4 5 0 (codes "x")
    ∷ token t.Punct 5 6 0 (codes ";")
    ∷ token t.Key 7 11 0 (codes "void")
    ∷ token t.Name 12 13 0 (codes "w")
    ∷ token t.Punct 13 14 0 (codes "(")
    ∷ token t.Key 14 18 0 (codes "long")
    ∷ token t.Punct 18 19 0 (codes ")")
    ∷ token t.Punct 20 21 0 (codes "{")
    ∷ token t.Key 22 37 0 (codes "atomic_noexcept")
    ∷ token t.Punct 38 39 0 (codes "{")
    ∷ token t.Name 40 41 0 (codes "x")
    ∷ token t.Punct 42 43 0 (codes "=")
    ∷ token t.Name 44 45 0 (codes "x")
    ∷ token t.Punct 46 47 0 (codes "+")
    ∷ token t.Int 48 49 1 (codes "1")
    ∷ token t.Punct 49 50 0 (codes ";")
    ∷ token t.Punct 51 52 0 (codes "}")
    ∷ token t.Punct 53 54 0 (codes "}")
    ∷ token t.Key 55 58 0 (codes "int")
    ∷ token t.Name 59 63 0 (codes "main")
    ∷ token t.Punct 63 64 0 (codes "(")
    ∷ token t.Punct 64 65 0 (codes ")")
    ∷ token t.Punct 66 67 0 (codes "{")
    ∷ token t.Key 68 71 0 (codes "int")
    ∷ token t.Name 72 73 0 (codes "a")
    ∷ token t.Punct 74 75 0 (codes "=")
    ∷ token t.Name 76 88 0 (codes "__txcc_spawn")
    ∷ token t.Punct 88 89 0 (codes "(")
    ∷ token t.Name 89 90 0 (codes "w")
    ∷ token t.Punct 90 91 0 (codes ",")
    ∷ token t.Int 92 93 0 (codes "0")
    ∷ token t.Punct 93 94 0 (codes ")")
    ∷ token t.Punct 94 95 0 (codes ";")
    ∷ token t.Key 96 99 0 (codes "int")
    ∷ token t.Name 100 101 0 (codes "b")
    ∷ token t.Punct 102 103 0 (codes "=")
    ∷ token t.Name 104 116 0 (codes "__txcc_spawn")
    ∷ token t.Punct 116 117 0 (codes "(")
    ∷ token t.Name 117 118 0 (codes "w")
    ∷ token t.Punct 118 119 0 (codes ",")
    ∷ token t.Int 120 121 0 (codes "0")
    ∷ token t.Punct 121 122 0 (codes ")")
    ∷ token t.Punct 122 123 0 (codes ";")
    ∷ token t.Name 126 137 0 (codes "__txcc_join")
    ∷ token t.Punct 137 138 0 (codes "(")
    ∷ token t.Name 138 139 0 (codes "a")
    ∷ token t.Punct 139 140 0 (codes ")")
    ∷ token t.Punct 140 141 0 (codes ";")
    ∷ token t.Name 142 153 0 (codes "__txcc_join")
    ∷ token t.Punct 153 154 0 (codes "(")
    ∷ token t.Name 154 155 0 (codes "b")
    ∷ token t.Punct 155 156 0 (codes ")")
    ∷ token t.Punct 156 157 0 (codes ";")
    ∷ token t.Name 158 165 0 (codes "putchar")
    ∷ token t.Punct 165 166 0 (codes "(")
    ∷ token t.Char 166 169 48 (codes "'0'")
    ∷ token t.Punct 170 171 0 (codes "+")
    ∷ token t.Name 172 173 0 (codes "x")
    ∷ token t.Punct 173 174 0 (codes ")")
    ∷ token t.Punct 174 175 0 (codes ";")
    ∷ token t.Key 176 182 0 (codes "return")
    ∷ token t.Int 183 184 0 (codes "0")
    ∷ token t.Punct 184 185 0 (codes ";")
    ∷ token t.Punct 186 187 0 (codes "}")
    ∷ []

abbrev pub decls : List Tree
decls = (node k.SimpleDeclaration (at 4) (Some 0) (more (node k.TypeSpecifierSeq (at 0) None (more (node k.SimpleTypeSpecifier (at 0) (Some 0) none) none))
    (more (node k.InitDeclarator (at 4) (Some 1) (more (node k.DeclaratorId (at 4) (Some 1) none) none)) none)))
    ∷ (node k.FunctionDefinition (at 12) (Some 3) (more (node k.TypeSpecifierSeq (at 7) None (more (node k.SimpleTypeSpecifier (at 7) (Some 3) none) none))
    (more (node k.FunctionDeclarator (at 12) (Some 5)
    (more (node k.DeclaratorId (at 12) (Some 4) none)
    (more (node k.ParameterDeclarationClause (at 14) None
    (more (node k.ParameterDeclaration (at 14) None
    (more (node k.TypeSpecifierSeq (at 14) None (more (node k.SimpleTypeSpecifier (at 14) (Some 6) none) none))
    (more (node k.OmittedId (at 18) None none) none))) none)) (more (node k.FunctionQualifiers (at 20) None none) none))))
    (more (node k.CompoundStatement (at 20) (Some 18)
    (more (node k.AtomicStatement (at 22) (Some 9)
    (more (node k.CompoundStatement (at 38) (Some 17)
    (more (node k.ExpressionStatement (at 40) (Some 16)
    (more (node k.AssignmentExpression (at 40) (Some 12)
    (more (node k.UnqualifiedId (at 40) (Some 11) none)
    (more (node k.BinaryExpression (at 44) (Some 14)
    (more (node k.UnqualifiedId (at 44) (Some 13) none)
    (more (node k.IntegerLiteral (at 48) (Some 15) none) none))) none))) none)) none)) none)) none)) none))))
    ∷ (node k.FunctionDefinition (at 59) (Some 19) (more (node k.TypeSpecifierSeq (at 55) None (more (node k.SimpleTypeSpecifier (at 55) (Some 19) none) none))
    (more (node k.FunctionDeclarator (at 59) (Some 21)
    (more (node k.DeclaratorId (at 59) (Some 20) none)
    (more (node k.ParameterDeclarationClause (at 64) None none) (more (node k.FunctionQualifiers (at 66) None none) none))))
    (more (node k.CompoundStatement (at 66) (Some 64)
    (more (node k.SimpleDeclaration (at 72) (Some 24)
    (more (node k.TypeSpecifierSeq (at 68) None (more (node k.SimpleTypeSpecifier (at 68) (Some 24) none) none))
    (more (node k.InitDeclarator (at 72) (Some 25)
    (more (node k.DeclaratorId (at 72) (Some 25) none)
    (more (node k.EqualInitializer (at 74) (Some 26)
    (more (node k.FunctionCall (at 76) (Some 28) (more (node k.UnqualifiedId (at 76) (Some 27) none)
    (more (node k.UnqualifiedId (at 89) (Some 29) none) (more (node k.IntegerLiteral (at 92) (Some 31) none) none)))) none)) none))) none)))
    (more (node k.SimpleDeclaration (at 100) (Some 34)
    (more (node k.TypeSpecifierSeq (at 96) None (more (node k.SimpleTypeSpecifier (at 96) (Some 34) none) none))
    (more (node k.InitDeclarator (at 100) (Some 35)
    (more (node k.DeclaratorId (at 100) (Some 35) none)
    (more (node k.EqualInitializer (at 102) (Some 36)
    (more (node k.FunctionCall (at 104) (Some 38)
    (more (node k.UnqualifiedId (at 104) (Some 37) none)
    (more (node k.UnqualifiedId (at 117) (Some 39) none) (more (node k.IntegerLiteral (at 120) (Some 41) none) none)))) none)) none))) none)))
    (more (node k.ExpressionStatement (at 126) (Some 48)
    (more (node k.FunctionCall (at 126) (Some 45)
    (more (node k.UnqualifiedId (at 126) (Some 44) none) (more (node k.UnqualifiedId (at 138) (Some 46) none) none))) none))
    (more (node k.ExpressionStatement (at 142) (Some 53)
    (more (node k.FunctionCall (at 142) (Some 50)
    (more (node k.UnqualifiedId (at 142) (Some 49) none) (more (node k.UnqualifiedId (at 154) (Some 51) none) none))) none))
    (more (node k.ExpressionStatement (at 158) (Some 60)
    (more (node k.FunctionCall (at 158) (Some 55)
    (more (node k.UnqualifiedId (at 158) (Some 54) none)
    (more (node k.BinaryExpression (at 166) (Some 57)
    (more (node k.CharacterLiteral (at 166) (Some 56) none) (more (node k.UnqualifiedId (at 172) (Some 58) none) none))) none))) none))
    (more (node k.ReturnStatement (at 176) (Some 61) (more (node k.IntegerLiteral (at 183) (Some 62) none) none)) none))))))) none))))
    ∷ []

abbrev pub text : List ℕ
text = lines (codes "function w(long)"
    ∷ codes "  frame 0 long"
    ∷ codes "  Block @20"
    ∷ codes "    Atomic NoExcept @22"
    ∷ codes "      Block @38"
    ∷ codes "        Assign Int @40 l int"
    ∷ codes "          Global x @40 l int"
    ∷ codes "          Binary Add Int @44 p int"
    ∷ codes "            Load Int @44 p int"
    ∷ codes "              Global x @44 l int"
    ∷ codes "            Literal 1 @48 p int"
    ∷ codes "function main()"
    ∷ codes "  frame 0 int"
    ∷ codes "  frame 1 int"
    ∷ codes "  Block @66"
    ∷ codes "    Init @72"
    ∷ codes "      Local 0 @72 l int"
    ∷ codes "      Store Int @76 p int"
    ∷ codes "        Builtin Spawn @76 p int"
    ∷ codes "          Retype @89 p void(*)(long)"
    ∷ codes "            Function w(long) @89 l void(long)"
    ∷ codes "          Convert Long @92 p long"
    ∷ codes "            Literal 0 @92 p int"
    ∷ codes "    Init @100"
    ∷ codes "      Local 1 @100 l int"
    ∷ codes "      Store Int @104 p int"
    ∷ codes "        Builtin Spawn @104 p int"
    ∷ codes "          Retype @117 p void(*)(long)"
    ∷ codes "            Function w(long) @117 l void(long)"
    ∷ codes "          Convert Long @120 p long"
    ∷ codes "            Literal 0 @120 p int"
    ∷ codes "    Builtin Join @126"
    ∷ codes "      Load Int @138 p int"
    ∷ codes "        Local 0 @138 l int"
    ∷ codes "    Builtin Join @142"
    ∷ codes "      Load Int @154 p int"
    ∷ codes "        Local 1 @154 l int"
    ∷ codes "    Builtin PutChar @158 p int"
    ∷ codes "      Binary Add Int @166 p int"
    ∷ codes "        Convert Int @166 p int"
    ∷ codes "          Literal 48 @166 p char"
    ∷ codes "        Load Int @172 p int"
    ∷ codes "          Global x @172 l int"
    ∷ codes "    Return @176"
    ∷ codes "      Literal 0 @183 p int"
    ∷ codes "    Return @66"
    ∷ codes "      Literal 0 @66 p int"
    ∷ [])
