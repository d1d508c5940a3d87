-- A unit: its tokens, its trees, and its typed bodies as text, where @ stands before the offset of a place.
--
--     int main() { int n = 4; auto add = [&](int k) { n += k; return n; }; atomic_noexcept { add(3); } putchar('0' + n); return 0; }
use Rattle.std.specs.Prelude.{ℕ, List, [], ◌∷◌, Some, None, codes}
use Rattle.elab_rules.specs.cpp_lex.Tokens.{Lexeme}
use Rattle.elab_rules.specs.cpp_lex.declared.TokKind.TheVariants as t
use Rattle.elab_rules.specs.cpp_ast.declared.kinds.NodeKind.TheVariants as k
use Rattle.elab_rules.specs.cpp_ast.Trees.{Tree, node, none, more}
use Rattle.elab_worked.specs.Notation.{at, token, lines}

abbrev pub tokens : List Lexeme
tokens = token t.Key 0 3 0 (codes "int")
    ∷ token t.Name 4 8 0 (codes "main")
    ∷ token t.Punct 8 9 0 (codes "(")
    ∷ token t.Punct 9 10 0 (codes ")")
    ∷ token t.Punct 11 12 0 (codes "{")
    ∷ token t.Key 13 16 0 (codes "int")
    ∷ token t.Name 17 18 0 (codes "n")
    ∷ token t.Punct 19 20 0 (codes "=")
    ∷ token t.Int 21 22 4 (codes "4")
    ∷ token t.Punct 22 23 0 (codes ";")
    ∷ token t.Key 24 28 0 (codes "auto")
    ∷ token t.Name 29 32 0 (codes "add")
    ∷ token t.Punct 33 34 0 (codes "=")
    ∷ token t.Punct 35 36 0 (codes "[")
    ∷ token t.Punct 36 37 0 (codes "&")
    ∷ token t.Punct 37 38 0 (codes "]")
    ∷ token t.Punct 38 39 0 (codes "(")
    ∷ token t.Key 39 42 0 (codes "int")
    ∷ token t.Name 43 44 0 (codes "k")
    ∷ token t.Punct 44 45 0 (codes ")")
    ∷ token t.Punct 46 47 0 (codes "{")
    ∷ token t.Name 48 49 0 (codes "n")
    ∷ token t.Punct 50 52 0 (codes "+=")
    ∷ token t.Name 53 54 0 (codes "k")
    ∷ token t.Punct 54 55 0 (codes ";")
    ∷ token t.Key 56 62 0 (codes "return")
    ∷ token t.Name 63 64 0 (codes "n")
    ∷ token t.Punct 64 65 0 (codes ";")
    ∷ token t.Punct 66 67 0 (codes "}")
    ∷ token t.Punct 67 68 0 (codes ";")
    ∷ token t.Key 69 84 0 (codes "atomic_noexcept")
    ∷ token t.Punct 85 86 0 (codes "{")
    ∷ token t.Name 87 90 0 (codes "add")
    ∷ token t.Punct 90 91 0 (codes "(")
    ∷ token t.Int 91 92 3 (codes "3")
    ∷ token t.Punct 92 93 0 (codes ")")
    ∷ token t.Punct 93 94 0 (codes ";")
    ∷ token t.Punct 95 96 0 (codes "}")
    ∷ token t.Name 97 104 0 (codes "putchar")
    ∷ token t.Punct 104 105 0 (codes "(")
    ∷ token t.Char 105 108 48 (codes "'0'")
    ∷ token t.Punct 109 110 0 (codes "+")
    ∷ token t.Name 111 112 0 (codes "n")
    ∷ token t.Punct 112 113 0 (codes ")")
    ∷ token t.Punct 113 114 0 (codes ";")
    ∷ token t.Key 115 121 0 (codes "return")
    ∷ token t.Int 122 123 0 (codes "0")
    ∷ token t.Punct 123 124 0 (codes ";")
    ∷ token t.Punct 125 126 0 (codes "}")
    ∷ []

abbrev pub decls : List Tree
decls = (node k.FunctionDefinition (at 4) (Some 0) (more (node k.TypeSpecifierSeq (at 0) None (more (node k.SimpleTypeSpecifier (at 0) (Some 0) none) none))
    (more (node k.FunctionDeclarator (at 4) (Some 2) (more (node k.DeclaratorId (at 4) (Some 1) none)
    (more (node k.ParameterDeclarationClause (at 9) None none) (more (node k.FunctionQualifiers (at 11) None none) none))))
    (more (node k.CompoundStatement (at 11) (Some 48)
    (more (node k.SimpleDeclaration (at 17) (Some 5) (more (node k.TypeSpecifierSeq (at 13) None (more (node k.SimpleTypeSpecifier (at 13) (Some 5) none) none))
    (more (node k.InitDeclarator (at 17) (Some 6) (more (node k.DeclaratorId (at 17) (Some 6) none)
    (more (node k.EqualInitializer (at 19) (Some 7) (more (node k.IntegerLiteral (at 21) (Some 8) none) none)) none))) none)))
    (more (node k.SimpleDeclaration (at 29) (Some 10)
    (more (node k.TypeSpecifierSeq (at 24) None (more (node k.SimpleTypeSpecifier (at 24) (Some 10) none) none))
    (more (node k.InitDeclarator (at 29) (Some 11) (more (node k.DeclaratorId (at 29) (Some 11) none)
    (more (node k.EqualInitializer (at 33) (Some 12) (more
    (node k.Lambda (at 35) (Some 13) (more (node k.LambdaIntroducer (at 35) (Some 13) (more (node k.CaptureDefault (at 36) (Some 14) none) none))
    (more (node k.LambdaDeclarator (at 38) None (more
    (node k.ParameterDeclarationClause (at 39) None (more
    (node k.ParameterDeclaration (at 43) None (more (node k.TypeSpecifierSeq (at 39) None (more (node k.SimpleTypeSpecifier (at 39) (Some 17) none) none))
    (more (node k.DeclaratorId (at 43) (Some 18) none) none))) none)) none))
    (more (node k.CompoundStatement (at 46) (Some 28)
    (more (node k.ExpressionStatement (at 48) (Some 24)
    (more (node k.AssignmentExpression (at 48) (Some 22)
    (more (node k.UnqualifiedId (at 48) (Some 21) none) (more (node k.UnqualifiedId (at 53) (Some 23) none) none))) none))
    (more (node k.ReturnStatement (at 56) (Some 25) (more (node k.UnqualifiedId (at 63) (Some 26) none) none)) none))) none)))) none)) none))) none)))
    (more (node k.AtomicStatement (at 69) (Some 30) (more
    (node k.CompoundStatement (at 85) (Some 37) (more
    (node k.ExpressionStatement (at 87) (Some 36) (more
    (node k.FunctionCall (at 87) (Some 33) (more (node k.UnqualifiedId (at 87) (Some 32) none)
    (more (node k.IntegerLiteral (at 91) (Some 34) none) none))) none)) none)) none))
    (more (node k.ExpressionStatement (at 97) (Some 44)
    (more (node k.FunctionCall (at 97) (Some 39) (more (node k.UnqualifiedId (at 97) (Some 38) none)
    (more (node k.BinaryExpression (at 105) (Some 41)
    (more (node k.CharacterLiteral (at 105) (Some 40) none) (more (node k.UnqualifiedId (at 111) (Some 42) none) none))) none))) none))
    (more (node k.ReturnStatement (at 115) (Some 45) (more (node k.IntegerLiteral (at 122) (Some 46) none) none)) none)))))) none))))
    ∷ []

abbrev pub text : List ℕ
text = lines (codes "function lambda:0:35(int)"
    ∷ codes "  frame 0 const lambda:0:35*"
    ∷ codes "  frame 1 int"
    ∷ codes "  Block @46"
    ∷ codes "    Update Add Int Int @48 l int"
    ∷ codes "      Load ULong @48 l int"
    ∷ codes "        Binary Add ULong @48 l int&"
    ∷ codes "          Load ULong @48 p const lambda:0:35*"
    ∷ codes "            Local 0 @48 l const lambda:0:35*"
    ∷ codes "          Literal 0 @48 p unsigned long"
    ∷ codes "      Load Int @53 p int"
    ∷ codes "        Local 1 @53 l int"
    ∷ codes "    Return @56"
    ∷ codes "      Load Int @63 p int"
    ∷ codes "        Load ULong @63 l int"
    ∷ codes "          Binary Add ULong @63 l int&"
    ∷ codes "            Load ULong @63 p const lambda:0:35*"
    ∷ codes "              Local 0 @63 l const lambda:0:35*"
    ∷ codes "            Literal 0 @63 p unsigned long"
    ∷ codes "    Return @46"
    ∷ codes "      Literal 0 @46 p int"
    ∷ codes "function main()"
    ∷ codes "  frame 0 int"
    ∷ codes "  frame 1 lambda:0:35"
    ∷ codes "  Block @11"
    ∷ codes "    Init @17"
    ∷ codes "      Local 0 @17 l int"
    ∷ codes "      Store Int @21 p int"
    ∷ codes "        Literal 4 @21 p int"
    ∷ codes "    Init @29"
    ∷ codes "      Local 1 @29 l lambda:0:35"
    ∷ codes "      Pieces @35 p lambda:0:35"
    ∷ codes "        Piece 0 @48 p int&"
    ∷ codes "          Store ULong @48 p int&"
    ∷ codes "            Local 0 @48 l int"
    ∷ codes "    Atomic NoExcept @69"
    ∷ codes "      Block @85"
    ∷ codes "        Call lambda:0:35(int) @87 p int"
    ∷ codes "          Local 1 @87 l lambda:0:35"
    ∷ codes "          Literal 3 @91 p int"
    ∷ codes "    Builtin PutChar @97 p int"
    ∷ codes "      Binary Add Int @105 p int"
    ∷ codes "        Convert Int @105 p int"
    ∷ codes "          Literal 48 @105 p char"
    ∷ codes "        Load Int @111 p int"
    ∷ codes "          Local 0 @111 l int"
    ∷ codes "    Return @115"
    ∷ codes "      Literal 0 @122 p int"
    ∷ codes "    Return @11"
    ∷ codes "      Literal 0 @11 p int"
    ∷ [])
