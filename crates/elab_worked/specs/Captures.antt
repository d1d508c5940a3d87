-- A unit: its tokens, its trees, and its typed bodies as text, where @ stands before the offset of a place.
--
--     int f() { int a = 1; int b = 2; auto g = [a, &b](int k) { b = a + k; }; g(3); return b; }
use Rattle.std.specs.Prelude.{ℕ, List, [], ◌∷◌, Some, None, codes}
use Rattle.elab_rules.specs.cpp_lex.Tokens.{Lexeme}
use Rattle.elab_rules.specs.cpp_lex.declared.TokKind.TheVariants as t
use Rattle.elab_rules.specs.cpp_ast.declared.kinds.NodeKind.TheVariants as k
use Rattle.elab_rules.specs.cpp_ast.Trees.{Tree, node, none, more}
use Rattle.elab_worked.specs.Notation.{at, token, lines}

abbrev pub tokens : List Lexeme
tokens = token t.Key 0 3 0 (codes "int")
    ∷ token t.Name 4 5 0 (codes "f")
    ∷ token t.Punct 5 6 0 (codes "(")
    ∷ token t.Punct 6 7 0 (codes ")")
    ∷ token t.Punct 8 9 0 (codes "{")
    ∷ token t.Key 10 13 0 (codes "int")
    ∷ token t.Name 14 15 0 (codes "a")
    ∷ token t.Punct 16 17 0 (codes "=")
    ∷ token t.Int 18 19 1 (codes "1")
    ∷ token t.Punct 19 20 0 (codes ";")
    ∷ token t.Key 21 24 0 (codes "int")
    ∷ token t.Name 25 26 0 (codes "b")
    ∷ token t.Punct 27 28 0 (codes "=")
    ∷ token t.Int 29 30 2 (codes "2")
    ∷ token t.Punct 30 31 0 (codes ";")
    ∷ token t.Key 32 36 0 (codes "auto")
    ∷ token t.Name 37 38 0 (codes "g")
    ∷ token t.Punct 39 40 0 (codes "=")
    ∷ token t.Punct 41 42 0 (codes "[")
    ∷ token t.Name 42 43 0 (codes "a")
    ∷ token t.Punct 43 44 0 (codes ",")
    ∷ token t.Punct 45 46 0 (codes "&")
    ∷ token t.Name 46 47 0 (codes "b")
    ∷ token t.Punct 47 48 0 (codes "]")
    ∷ token t.Punct 48 49 0 (codes "(")
    ∷ token t.Key 49 52 0 (codes "int")
    ∷ token t.Name 53 54 0 (codes "k")
    ∷ token t.Punct 54 55 0 (codes ")")
    ∷ token t.Punct 56 57 0 (codes "{")
    ∷ token t.Name 58 59 0 (codes "b")
    ∷ token t.Punct 60 61 0 (codes "=")
    ∷ token t.Name 62 63 0 (codes "a")
    ∷ token t.Punct 64 65 0 (codes "+")
    ∷ token t.Name 66 67 0 (codes "k")
    ∷ token t.Punct 67 68 0 (codes ";")
    ∷ token t.Punct 69 70 0 (codes "}")
    ∷ token t.Punct 70 71 0 (codes ";")
    ∷ token t.Name 72 73 0 (codes "g")
    ∷ token t.Punct 73 74 0 (codes "(")
    ∷ token t.Int 74 75 3 (codes "3")
    ∷ token t.Punct 75 76 0 (codes ")")
    ∷ token t.Punct 76 77 0 (codes ";")
    ∷ token t.Key 78 84 0 (codes "return")
    ∷ token t.Name 85 86 0 (codes "b")
    ∷ token t.Punct 86 87 0 (codes ";")
    ∷ token t.Punct 88 89 0 (codes "}")
    ∷ []

abbrev pub decls : List Tree
decls = (node k.FunctionDefinition (at 4) (Some 0) (more (node k.TypeSpecifierSeq (at 0) None (more (node k.SimpleTypeSpecifier (at 0) (Some 0) none) none))
    (more (node k.FunctionDeclarator (at 4) (Some 2) (more (node k.DeclaratorId (at 4) (Some 1) none)
    (more (node k.ParameterDeclarationClause (at 6) None none) (more (node k.FunctionQualifiers (at 8) None none) none))))
    (more (node k.CompoundStatement (at 8) (Some 45) (more
    (node k.SimpleDeclaration (at 14) (Some 5) (more (node k.TypeSpecifierSeq (at 10) None (more (node k.SimpleTypeSpecifier (at 10) (Some 5) none) none))
    (more (node k.InitDeclarator (at 14) (Some 6) (more (node k.DeclaratorId (at 14) (Some 6) none)
    (more (node k.EqualInitializer (at 16) (Some 7) (more (node k.IntegerLiteral (at 18) (Some 8) none) none)) none))) none)))
    (more (node k.SimpleDeclaration (at 25) (Some 10)
    (more (node k.TypeSpecifierSeq (at 21) None (more (node k.SimpleTypeSpecifier (at 21) (Some 10) none) none))
    (more (node k.InitDeclarator (at 25) (Some 11) (more (node k.DeclaratorId (at 25) (Some 11) none)
    (more (node k.EqualInitializer (at 27) (Some 12) (more (node k.IntegerLiteral (at 29) (Some 13) none) none)) none))) none)))
    (more (node k.SimpleDeclaration (at 37) (Some 15)
    (more (node k.TypeSpecifierSeq (at 32) None (more (node k.SimpleTypeSpecifier (at 32) (Some 15) none) none))
    (more (node k.InitDeclarator (at 37) (Some 16) (more (node k.DeclaratorId (at 37) (Some 16) none)
    (more (node k.EqualInitializer (at 39) (Some 17) (more
    (node k.Lambda (at 41) (Some 18) (more (node k.LambdaIntroducer (at 41) (Some 18)
    (more (node k.SimpleCapture (at 42) (Some 19) none) (more (node k.ReferenceCapture (at 45) (Some 22) none) none)))
    (more (node k.LambdaDeclarator (at 48) None (more
    (node k.ParameterDeclarationClause (at 49) None (more
    (node k.ParameterDeclaration (at 53) None (more (node k.TypeSpecifierSeq (at 49) None (more (node k.SimpleTypeSpecifier (at 49) (Some 25) none) none))
    (more (node k.DeclaratorId (at 53) (Some 26) none) none))) none)) none))
    (more (node k.CompoundStatement (at 56) (Some 35)
    (more (node k.ExpressionStatement (at 58) (Some 34)
    (more (node k.AssignmentExpression (at 58) (Some 30)
    (more (node k.UnqualifiedId (at 58) (Some 29) none)
    (more (node k.BinaryExpression (at 62) (Some 32) (more (node k.UnqualifiedId (at 62) (Some 31) none)
    (more (node k.UnqualifiedId (at 66) (Some 33) none) none))) none))) none)) none)) none)))) none)) none))) none)))
    (more (node k.ExpressionStatement (at 72) (Some 41)
    (more (node k.FunctionCall (at 72) (Some 38) (more (node k.UnqualifiedId (at 72) (Some 37) none)
    (more (node k.IntegerLiteral (at 74) (Some 39) none) none))) none))
    (more (node k.ReturnStatement (at 78) (Some 42) (more (node k.UnqualifiedId (at 85) (Some 43) none) none)) none)))))) none))))
    ∷ []

abbrev pub text : List ℕ
text = lines (codes "function lambda:0:41(int)"
    ∷ codes "  frame 0 const lambda:0:41*"
    ∷ codes "  frame 1 int"
    ∷ codes "  Block @56"
    ∷ codes "    Assign Int @58 l int"
    ∷ codes "      Load ULong @58 l int"
    ∷ codes "        Binary Add ULong @58 l int&"
    ∷ codes "          Load ULong @58 p const lambda:0:41*"
    ∷ codes "            Local 0 @58 l const lambda:0:41*"
    ∷ codes "          Literal 8 @58 p unsigned long"
    ∷ codes "      Binary Add Int @62 p int"
    ∷ codes "        Load Int @62 p int"
    ∷ codes "          Binary Add ULong @62 l const int"
    ∷ codes "            Load ULong @62 p const lambda:0:41*"
    ∷ codes "              Local 0 @62 l const lambda:0:41*"
    ∷ codes "            Literal 0 @62 p unsigned long"
    ∷ codes "        Load Int @66 p int"
    ∷ codes "          Local 1 @66 l int"
    ∷ codes "function f()"
    ∷ codes "  frame 0 int"
    ∷ codes "  frame 1 int"
    ∷ codes "  frame 2 lambda:0:41"
    ∷ codes "  Block @8"
    ∷ codes "    Init @14"
    ∷ codes "      Local 0 @14 l int"
    ∷ codes "      Store Int @18 p int"
    ∷ codes "        Literal 1 @18 p int"
    ∷ codes "    Init @25"
    ∷ codes "      Local 1 @25 l int"
    ∷ codes "      Store Int @29 p int"
    ∷ codes "        Literal 2 @29 p int"
    ∷ codes "    Init @37"
    ∷ codes "      Local 2 @37 l lambda:0:41"
    ∷ codes "      Pieces @41 p lambda:0:41"
    ∷ codes "        Piece 0 @42 p int"
    ∷ codes "          Store Int @42 p int"
    ∷ codes "            Load Int @42 p int"
    ∷ codes "              Local 0 @42 l int"
    ∷ codes "        Piece 8 @45 p int&"
    ∷ codes "          Store ULong @45 p int&"
    ∷ codes "            Local 1 @45 l int"
    ∷ codes "    Call lambda:0:41(int) @72"
    ∷ codes "      Local 2 @72 l lambda:0:41"
    ∷ codes "      Literal 3 @74 p int"
    ∷ codes "    Return @78"
    ∷ codes "      Load Int @85 p int"
    ∷ codes "        Local 1 @85 l int"
    ∷ codes "    Return @8"
    ∷ codes "      Literal 0 @8 p int"
    ∷ [])
