-- A unit: its tokens, its trees, and its typed bodies as text, where @ stands before the offset of a place.
--
--     struct A { A() { f(); } virtual void f() { putchar('A'); } }; struct B : A { void f() { putchar('B'); } }; int main() { B b; b.f(); return 0; }
use Rattle.std.specs.Prelude.{ℕ, List, [], ◌∷◌, Some, None, codes}
use Rattle.elab_rules.specs.cpp_lex.Tokens.{Lexeme}
use Rattle.elab_rules.specs.cpp_lex.declared.TokKind.TheVariants as t
use Rattle.elab_rules.specs.cpp_ast.declared.kinds.NodeKind.TheVariants as k
use Rattle.elab_rules.specs.cpp_ast.Trees.{Tree, node, none, more}
use Rattle.elab_worked.specs.Notation.{at, token, lines}

abbrev pub tokens : List Lexeme
tokens = token t.Key 0 6 0 (codes "struct")
    ∷ token t.Name 7 8 0 (codes "A")
    ∷ token t.Punct 9 10 0 (codes "{")
    ∷ token t.Name 11 12 0 (codes "A")
    ∷ token t.Punct 12 13 0 (codes "(")
    ∷ token t.Punct 13 14 0 (codes ")")
    ∷ token t.Punct 15 16 0 (codes "{")
    ∷ token t.Name 17 18 0 (codes "f")
    ∷ token t.Punct 18 19 0 (codes "(")
    ∷ token t.Punct 19 20 0 (codes ")")
    ∷ token t.Punct 20 21 0 (codes ";")
    ∷ token t.Punct 22 23 0 (codes "}")
    ∷ token t.Key 24 31 0 (codes "virtual")
    ∷ token t.Key 32 36 0 (codes "void")
    ∷ token t.Name 37 38 0 (codes "f")
    ∷ token t.Punct 38 39 0 (codes "(")
    ∷ token t.Punct 39 40 0 (codes ")")
    ∷ token t.Punct 41 42 0 (codes "{")
    ∷ token t.Name 43 50 0 (codes "putchar")
    ∷ token t.Punct 50 51 0 (codes "(")
    ∷ token t.Char 51 54 65 (codes "'A'")
    ∷ token t.Punct 54 55 0 (codes ")")
    ∷ token t.Punct 55 56 0 (codes ";")
    ∷ token t.Punct 57 58 0 (codes "}")
    ∷ token t.Punct 59 60 0 (codes "}")
    ∷ token t.Punct 60 61 0 (codes ";")
    ∷ token t.Key 62 68 0 (codes "struct")
    ∷ token t.Name 69 70 0 (codes "B")
    ∷ token t.Punct 71 72 0 (codes ":")
    ∷ token t.Name 73 74 0 (codes "A")
    ∷ token t.Punct 75 76 0 (codes "{")
    ∷ token t.Key 77 81 0 (codes "void")
    ∷ token t.Name 82 83 0 (codes "f")
    ∷ token t.Punct 83 84 0 (codes "(")
    ∷ token t.Punct 84 85 0 (codes ")")
    ∷ token t.Punct 86 87 0 (codes "{")
    ∷ token t.Name 88 95 0 (codes "putchar")
    ∷ token t.Punct 95 96 0 (codes "(")
    ∷ token t.Char 96 99 66 (codes "'B'")
    ∷ token t.Punct 99 100 0 (codes ")")
    ∷ token t.Punct 100 101 0 (codes ";")
    ∷ token t.Punct 102 103 0 (codes "}")
    ∷ token t.Punct 104 105 0 (codes "}")
    ∷ token t.Punct 105 106 0 (codes ";")
    ∷ token t.Key 107 110 0 (codes "int")
    ∷ token t.Name 111 115 0 (codes "main")
    ∷ token t.Punct 115 116 0 (codes "(")
    ∷ token t.Punct 116 117 0 (codes ")")
    ∷ token t.Punct 118 119 0 (codes "{")
    ∷ token t.Name 120 121 0 (codes "B")
    ∷ token t.Name 122 123 0 (codes "b")
    ∷ token t.Punct 123 124 0 (codes ";")
    ∷ token t.Name 125 126 0 (codes "b")
    ∷ token t.Punct 126 127 0 (codes ".")
    ∷ token t.Name 127 128 0 (codes "f")
    ∷ token t.Punct 128 129 0 (codes "(")
    ∷ token t.Punct 129 130 0 (codes ")")
    ∷ token t.Punct 130 131 0 (codes ";")
    ∷ token t.Key 132 138 0 (codes "return")
    ∷ token t.Int 139 140 0 (codes "0")
    ∷ token t.Punct 140 141 0 (codes ";")
    ∷ token t.Punct 142 143 0 (codes "}")
    ∷ []

abbrev pub decls : List Tree
decls = (node k.ClassSpecifier (at 7) (Some 1) (more (node k.ClassKey (at 0) (Some 0) none)
    (more (node k.MemberSpecification (at 9) (Some 24)
    (more (node k.ConstructorDefinition (at 11) (Some 3)
    (more (node k.FunctionDeclarator (at 11) (Some 4)
    (more (node k.DeclaratorId (at 11) (Some 3) none)
    (more (node k.ParameterDeclarationClause (at 13) None none) (more (node k.FunctionQualifiers (at 15) None none) none))))
    (more (node k.CompoundStatement (at 15) (Some 11)
    (more (node k.ExpressionStatement (at 17) (Some 10)
    (more (node k.FunctionCall (at 17) (Some 8) (more (node k.UnqualifiedId (at 17) (Some 7) none) none)) none)) none)) none)))
    (more (node k.FunctionDefinition (at 37) (Some 12)
    (more (node k.DeclSpecifier (at 24) (Some 12) none)
    (more (node k.TypeSpecifierSeq (at 32) None (more (node k.SimpleTypeSpecifier (at 32) (Some 13) none) none))
    (more (node k.FunctionDeclarator (at 37) (Some 15)
    (more (node k.DeclaratorId (at 37) (Some 14) none)
    (more (node k.ParameterDeclarationClause (at 39) None none) (more (node k.FunctionQualifiers (at 41) None none) none))))
    (more (node k.CompoundStatement (at 41) (Some 23)
    (more (node k.ExpressionStatement (at 43) (Some 22)
    (more (node k.FunctionCall (at 43) (Some 19) (more (node k.UnqualifiedId (at 43) (Some 18) none)
    (more (node k.CharacterLiteral (at 51) (Some 20) none) none))) none)) none)) none))))) none))) none)))
    ∷ (node k.ClassSpecifier (at 69) (Some 27) (more (node k.ClassKey (at 62) (Some 26) none)
    (more (node k.BaseSpecifier (at 73) (Some 29) none)
    (more (node k.MemberSpecification (at 75) (Some 42)
    (more (node k.FunctionDefinition (at 82) (Some 31)
    (more (node k.TypeSpecifierSeq (at 77) None (more (node k.SimpleTypeSpecifier (at 77) (Some 31) none) none))
    (more (node k.FunctionDeclarator (at 82) (Some 33)
    (more (node k.DeclaratorId (at 82) (Some 32) none)
    (more (node k.ParameterDeclarationClause (at 84) None none) (more (node k.FunctionQualifiers (at 86) None none) none))))
    (more (node k.CompoundStatement (at 86) (Some 41)
    (more (node k.ExpressionStatement (at 88) (Some 40)
    (more (node k.FunctionCall (at 88) (Some 37) (more (node k.UnqualifiedId (at 88) (Some 36) none)
    (more (node k.CharacterLiteral (at 96) (Some 38) none) none))) none)) none)) none)))) none)) none))))
    ∷ (node k.FunctionDefinition (at 111) (Some 44) (more
    (node k.TypeSpecifierSeq (at 107) None (more (node k.SimpleTypeSpecifier (at 107) (Some 44) none) none))
    (more (node k.FunctionDeclarator (at 111) (Some 46)
    (more (node k.DeclaratorId (at 111) (Some 45) none)
    (more (node k.ParameterDeclarationClause (at 116) None none) (more (node k.FunctionQualifiers (at 118) None none) none))))
    (more (node k.CompoundStatement (at 118) (Some 61)
    (more (node k.SimpleDeclaration (at 122) (Some 49)
    (more (node k.TypeSpecifierSeq (at 120) None (more (node k.TypeName (at 120) (Some 49) none) none))
    (more (node k.InitDeclarator (at 122) (Some 50) (more (node k.DeclaratorId (at 122) (Some 50) none) none)) none)))
    (more (node k.ExpressionStatement (at 125) (Some 57)
    (more (node k.FunctionCall (at 125) (Some 55)
    (more (node k.MemberAccess (at 125) (Some 54) (more (node k.UnqualifiedId (at 125) (Some 52) none) none)) none)) none))
    (more (node k.ReturnStatement (at 132) (Some 58) (more (node k.IntegerLiteral (at 139) (Some 59) none) none)) none)))) none))))
    ∷ []

abbrev pub text : List ℕ
text = lines (codes "function A::A()"
    ∷ codes "  frame 0 A*"
    ∷ codes "  Block subobjects @15"
    ∷ codes "    Assign ULong @11 l unsigned long"
    ∷ codes "      Binary Add ULong @11 l unsigned long"
    ∷ codes "        Load ULong @11 p A*"
    ∷ codes "          Local 0 @11 l A*"
    ∷ codes "        Literal 0 @11 p unsigned long"
    ∷ codes "      ClassTable A @11 p unsigned long"
    ∷ codes "    Block @15"
    ∷ codes "      VirtualCall A::f() A 0 0 @17"
    ∷ codes "        Retype @17 l A"
    ∷ codes "          Load ULong @17 p A*"
    ∷ codes "            Local 0 @17 l A*"
    ∷ codes "function A::f()"
    ∷ codes "  frame 0 A*"
    ∷ codes "  Block @41"
    ∷ codes "    Builtin PutChar @43 p int"
    ∷ codes "      Convert Int @51 p int"
    ∷ codes "        Literal 65 @51 p char"
    ∷ codes "function B::f()"
    ∷ codes "  frame 0 B*"
    ∷ codes "  Block @86"
    ∷ codes "    Builtin PutChar @88 p int"
    ∷ codes "      Convert Int @96 p int"
    ∷ codes "        Literal 66 @96 p char"
    ∷ codes "function main()"
    ∷ codes "  frame 0 B"
    ∷ codes "  Block @118"
    ∷ codes "    Init @122"
    ∷ codes "      Local 0 @122 l B"
    ∷ codes "      Construct B::B() @122 p B"
    ∷ codes "    VirtualCall B::f() B 0 0 @125"
    ∷ codes "      Local 0 @125 l B"
    ∷ codes "    Return @132"
    ∷ codes "      Literal 0 @139 p int"
    ∷ codes "    Return @118"
    ∷ codes "      Literal 0 @118 p int"
    ∷ codes "function B::B()"
    ∷ codes "  frame 0 B*"
    ∷ codes "  Block subobjects @69"
    ∷ codes "    Init @69"
    ∷ codes "      Load ULong @69 l A"
    ∷ codes "        Local 0 @69 l B*"
    ∷ codes "      Construct A::A() @69 p A"
    ∷ codes "    Assign ULong @69 l unsigned long"
    ∷ codes "      Binary Add ULong @69 l unsigned long"
    ∷ codes "        Load ULong @69 p B*"
    ∷ codes "          Local 0 @69 l B*"
    ∷ codes "        Literal 0 @69 p unsigned long"
    ∷ codes "      ClassTable B @69 p unsigned long"
    ∷ codes "    Block @69"
    ∷ [])
