-- A unit: its tokens, its trees, and its typed bodies as text, where @ stands before the offset of a place.
--
--     struct D { int k; D(int x) : k(x) { } ~D() { putchar('0' + k); } };
--     int main() { D a(1); { D b(2); D c(3); } return 0; }
use Rattle.std.specs.Prelude.{ℕ, List, [], ◌∷◌, Some, None, codes}
use Rattle.elab_rules.specs.cpp_lex.Tokens.{Lexeme}
use Rattle.elab_rules.specs.cpp_lex.declared.TokKind.TheVariants as t
use Rattle.elab_rules.specs.cpp_ast.declared.kinds.NodeKind.TheVariants as k
use Rattle.elab_rules.specs.cpp_ast.Trees.{Tree, node, none, more}
use Rattle.elab_worked.specs.Notation.{at, token, lines}

abbrev pub tokens : List Lexeme
tokens = token t.Key 0 6 0 (codes "struct")
    ∷ token t.Name 7 8 0 (codes "D")
    ∷ token t.Punct 9 10 0 (codes "{")
    ∷ token t.Key 11 14 0 (codes "int")
    ∷ token t.Name 15 16 0 (codes "k")
    ∷ token t.Punct 16 17 0 (codes ";")
    ∷ token t.Name 18 19 0 (codes "D")
    ∷ token t.Punct 19 20 0 (codes "(")
    ∷ token t.Key 20 23 0 (codes "int")
    ∷ token t.Name 24 25 0 (codes "x")
    ∷ token t.Punct 25 26 0 (codes ")")
    ∷ token t.Punct 27 28 0 (codes ":")
    ∷ token t.Name 29 30 0 (codes "k")
    ∷ token t.Punct 30 31 0 (codes "(")
    ∷ token t.Name 31 32 0 (codes "x")
    ∷ token t.Punct 32 33 0 (codes ")")
    ∷ token t.Punct 34 35 0 (codes "{")
    ∷ token t.Punct 36 37 0 (codes "}")
    ∷ token t.Punct 38 39 0 (codes "~")
    ∷ token t.Name 39 40 0 (codes "D")
    ∷ token t.Punct 40 41 0 (codes "(")
    ∷ token t.Punct 41 42 0 (codes ")")
    ∷ token t.Punct 43 44 0 (codes "{")
    ∷ token t.Name 45 52 0 (codes "putchar")
    ∷ token t.Punct 52 53 0 (codes "(")
    ∷ token t.Char 53 56 48 (codes "'0'")
    ∷ token t.Punct 57 58 0 (codes "+")
    ∷ token t.Name 59 60 0 (codes "k")
    ∷ token t.Punct 60 61 0 (codes ")")
    ∷ token t.Punct 61 62 0 (codes ";")
    ∷ token t.Punct 63 64 0 (codes "}")
    ∷ token t.Punct 65 66 0 (codes "}")
    ∷ token t.Punct 66 67 0 (codes ";")
    ∷ token t.Key 68 71 0 (codes "int")
    ∷ token t.Name 72 76 0 (codes "main")
    ∷ token t.Punct 76 77 0 (codes "(")
    ∷ token t.Punct 77 78 0 (codes ")")
    ∷ token t.Punct 79 80 0 (codes "{")
    ∷ token t.Name 81 82 0 (codes "D")
    ∷ token t.Name 83 84 0 (codes "a")
    ∷ token t.Punct 84 85 0 (codes "(")
    ∷ token t.Int 85 86 1 (codes "1")
    ∷ token t.Punct 86 87 0 (codes ")")
    ∷ token t.Punct 87 88 0 (codes ";")
    ∷ token t.Punct 89 90 0 (codes "{")
    ∷ token t.Name 91 92 0 (codes "D")
    ∷ token t.Name 93 94 0 (codes "b")
    ∷ token t.Punct 94 95 0 (codes "(")
    ∷ token t.Int 95 96 2 (codes "2")
    ∷ token t.Punct 96 97 0 (codes ")")
    ∷ token t.Punct 97 98 0 (codes ";")
    ∷ token t.Name 99 100 0 (codes "D")
    ∷ token t.Name 101 102 0 (codes "c")
    ∷ token t.Punct 102 103 0 (codes "(")
    ∷ token t.Int 103 104 3 (codes "3")
    ∷ token t.Punct 104 105 0 (codes ")")
    ∷ token t.Punct 105 106 0 (codes ";")
    ∷ token t.Punct 107 108 0 (codes "}")
    ∷ token t.Key 109 115 0 (codes "return")
    ∷ token t.Int 116 117 0 (codes "0")
    ∷ token t.Punct 117 118 0 (codes ";")
    ∷ token t.Punct 119 120 0 (codes "}")
    ∷ []

abbrev pub decls : List Tree
decls = (node k.ClassSpecifier (at 7) (Some 1) (more (node k.ClassKey (at 0) (Some 0) none)
    (more (node k.MemberSpecification (at 9) (Some 31)
    (more (node k.MemberDeclaration (at 15) (Some 3) (more (node k.TypeSpecifierSeq (at 11) None (more (node k.SimpleTypeSpecifier (at 11) (Some 3) none) none))
    (more (node k.MemberDeclarator (at 15) (Some 4) (more (node k.DeclaratorId (at 15) (Some 4) none) none)) none)))
    (more (node k.ConstructorDefinition (at 18) (Some 6)
    (more (node k.FunctionDeclarator (at 18) (Some 7)
    (more (node k.DeclaratorId (at 18) (Some 6) none)
    (more (node k.ParameterDeclarationClause (at 20) None
    (more (node k.ParameterDeclaration (at 24) None (more (node k.TypeSpecifierSeq (at 20) None (more (node k.SimpleTypeSpecifier (at 20) (Some 8) none) none))
    (more (node k.DeclaratorId (at 24) (Some 9) none) none))) none)) (more (node k.FunctionQualifiers (at 27) None none) none))))
    (more (node k.MemberInitializer (at 29) (Some 12) (more (node k.UnqualifiedId (at 31) (Some 14) none) none))
    (more (node k.CompoundStatement (at 34) (Some 17) none) none))))
    (more (node k.DestructorDefinition (at 38) (Some 18)
    (more (node k.FunctionDeclarator (at 38) (Some 20)
    (more (node k.DestructorId (at 38) (Some 19) none)
    (more (node k.ParameterDeclarationClause (at 41) None none) (more (node k.FunctionQualifiers (at 43) None none) none))))
    (more (node k.CompoundStatement (at 43) (Some 30)
    (more (node k.ExpressionStatement (at 45) (Some 29)
    (more (node k.FunctionCall (at 45) (Some 24) (more (node k.UnqualifiedId (at 45) (Some 23) none)
    (more (node k.BinaryExpression (at 53) (Some 26) (more (node k.CharacterLiteral (at 53) (Some 25) none)
    (more (node k.UnqualifiedId (at 59) (Some 27) none) none))) none))) none)) none)) none))) none)))) none)))
    ∷ (node k.FunctionDefinition (at 72) (Some 33) (more (node k.TypeSpecifierSeq (at 68) None (more (node k.SimpleTypeSpecifier (at 68) (Some 33) none) none))
    (more (node k.FunctionDeclarator (at 72) (Some 35)
    (more (node k.DeclaratorId (at 72) (Some 34) none)
    (more (node k.ParameterDeclarationClause (at 77) None none) (more (node k.FunctionQualifiers (at 79) None none) none))))
    (more (node k.CompoundStatement (at 79) (Some 61)
    (more (node k.SimpleDeclaration (at 83) (Some 38)
    (more (node k.TypeSpecifierSeq (at 81) None (more (node k.TypeName (at 81) (Some 38) none) none))
    (more (node k.InitDeclarator (at 83) (Some 39)
    (more (node k.DeclaratorId (at 83) (Some 39) none)
    (more (node k.ParenthesizedInitializer (at 84) (Some 40) (more (node k.IntegerLiteral (at 85) (Some 41) none) none)) none))) none)))
    (more (node k.CompoundStatement (at 89) (Some 57)
    (more (node k.SimpleDeclaration (at 93) (Some 45)
    (more (node k.TypeSpecifierSeq (at 91) None (more (node k.TypeName (at 91) (Some 45) none) none))
    (more (node k.InitDeclarator (at 93) (Some 46)
    (more (node k.DeclaratorId (at 93) (Some 46) none)
    (more (node k.ParenthesizedInitializer (at 94) (Some 47) (more (node k.IntegerLiteral (at 95) (Some 48) none) none)) none))) none)))
    (more (node k.SimpleDeclaration (at 101) (Some 51)
    (more (node k.TypeSpecifierSeq (at 99) None (more (node k.TypeName (at 99) (Some 51) none) none))
    (more (node k.InitDeclarator (at 101) (Some 52)
    (more (node k.DeclaratorId (at 101) (Some 52) none)
    (more (node k.ParenthesizedInitializer (at 102) (Some 53) (more (node k.IntegerLiteral (at 103) (Some 54) none) none)) none))) none))) none)))
    (more (node k.ReturnStatement (at 109) (Some 58) (more (node k.IntegerLiteral (at 116) (Some 59) none) none)) none)))) none))))
    ∷ []

abbrev pub text : List ℕ
text = lines (codes "function D::D(int)"
    ∷ codes "  frame 0 D*"
    ∷ codes "  frame 1 int"
    ∷ codes "  Block subobjects @34"
    ∷ codes "    Init @29"
    ∷ codes "      Binary Add ULong @29 l int"
    ∷ codes "        Load ULong @29 p D*"
    ∷ codes "          Local 0 @29 l D*"
    ∷ codes "        Literal 0 @29 p unsigned long"
    ∷ codes "      Store Int @31 p int"
    ∷ codes "        Load Int @31 p int"
    ∷ codes "          Local 1 @31 l int"
    ∷ codes "    Block @34"
    ∷ codes "function D::~D()"
    ∷ codes "  frame 0 D*"
    ∷ codes "  Block @43"
    ∷ codes "    Block @43"
    ∷ codes "      Builtin PutChar @45 p int"
    ∷ codes "        Binary Add Int @53 p int"
    ∷ codes "          Convert Int @53 p int"
    ∷ codes "            Literal 48 @53 p char"
    ∷ codes "          Load Int @59 p int"
    ∷ codes "            Binary Add ULong @59 l int"
    ∷ codes "              Retype @59 l D"
    ∷ codes "                Load ULong @59 p D*"
    ∷ codes "                  Local 0 @59 l D*"
    ∷ codes "              Literal 0 @59 p unsigned long"
    ∷ codes "function main()"
    ∷ codes "  frame 0 D"
    ∷ codes "  frame 1 D"
    ∷ codes "  frame 2 D"
    ∷ codes "  Block @79"
    ∷ codes "    Init @83"
    ∷ codes "      Local 0 @83 l D"
    ∷ codes "      Construct D::D(int) @83 p D"
    ∷ codes "        Literal 1 @85 p int"
    ∷ codes "      Destroy D::~D() 0 1 0 @83"
    ∷ codes "    Block @89"
    ∷ codes "      Init @93"
    ∷ codes "        Local 1 @93 l D"
    ∷ codes "        Construct D::D(int) @93 p D"
    ∷ codes "          Literal 2 @95 p int"
    ∷ codes "        Destroy D::~D() 0 1 0 @93"
    ∷ codes "      Init @101"
    ∷ codes "        Local 2 @101 l D"
    ∷ codes "        Construct D::D(int) @101 p D"
    ∷ codes "          Literal 3 @103 p int"
    ∷ codes "        Destroy D::~D() 0 1 0 @101"
    ∷ codes "    Return @109"
    ∷ codes "      Literal 0 @116 p int"
    ∷ codes "    Return @79"
    ∷ codes "      Literal 0 @79 p int"
    ∷ [])
