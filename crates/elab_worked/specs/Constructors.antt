-- A unit: its tokens, its trees, and its typed bodies as text, where @ stands before the offset of a place.
--
--     struct B { int k; B(int x) : k(x) {} }; struct S : B { int a; int b; S(int x) : b(x), B(1) {} };
use Rattle.std.specs.Prelude.{ℕ, List, [], ◌∷◌, Some, None, codes}
use Rattle.elab_rules.specs.cpp_lex.Tokens.{Lexeme}
use Rattle.elab_rules.specs.cpp_lex.declared.TokKind.TheVariants as t
use Rattle.elab_rules.specs.cpp_ast.declared.kinds.NodeKind.TheVariants as k
use Rattle.elab_rules.specs.cpp_ast.Trees.{Tree, node, none, more}
use Rattle.elab_worked.specs.Notation.{at, token, lines}

abbrev pub tokens : List Lexeme
tokens = token t.Key 0 6 0 (codes "struct")
    ∷ token t.Name 7 8 0 (codes "B")
    ∷ token t.Punct 9 10 0 (codes "{")
    ∷ token t.Key 11 14 0 (codes "int")
    ∷ token t.Name 15 16 0 (codes "k")
    ∷ token t.Punct 16 17 0 (codes ";")
    ∷ token t.Name 18 19 0 (codes "B")
    ∷ token t.Punct 19 20 0 (codes "(")
    ∷ token t.Key 20 23 0 (codes "int")
    ∷ token t.Name 24 25 0 (codes "x")
    ∷ token t.Punct 25 26 0 (codes ")")
    ∷ token t.Punct 27 28 0 (codes ":")
    ∷ token t.Name 29 30 0 (codes "k")
    ∷ token t.Punct 30 31 0 (codes "(")
    ∷ token t.Name 31 32 0 (codes "x")
    ∷ token t.Punct 32 33 0 (codes ")")
    ∷ token t.Punct 34 35 0 (codes "{")
    ∷ token t.Punct 35 36 0 (codes "}")
    ∷ token t.Punct 37 38 0 (codes "}")
    ∷ token t.Punct 38 39 0 (codes ";")
    ∷ token t.Key 40 46 0 (codes "struct")
    ∷ token t.Name 47 48 0 (codes "S")
    ∷ token t.Punct 49 50 0 (codes ":")
    ∷ token t.Name 51 52 0 (codes "B")
    ∷ token t.Punct 53 54 0 (codes "{")
    ∷ token t.Key 55 58 0 (codes "int")
    ∷ token t.Name 59 60 0 (codes "a")
    ∷ token t.Punct 60 61 0 (codes ";")
    ∷ token t.Key 62 65 0 (codes "int")
    ∷ token t.Name 66 67 0 (codes "b")
    ∷ token t.Punct 67 68 0 (codes ";")
    ∷ token t.Name 69 70 0 (codes "S")
    ∷ token t.Punct 70 71 0 (codes "(")
    ∷ token t.Key 71 74 0 (codes "int")
    ∷ token t.Name 75 76 0 (codes "x")
    ∷ token t.Punct 76 77 0 (codes ")")
    ∷ token t.Punct 78 79 0 (codes ":")
    ∷ token t.Name 80 81 0 (codes "b")
    ∷ token t.Punct 81 82 0 (codes "(")
    ∷ token t.Name 82 83 0 (codes "x")
    ∷ token t.Punct 83 84 0 (codes ")")
    ∷ token t.Punct 84 85 0 (codes ",")
    ∷ token t.Name 86 87 0 (codes "B")
    ∷ token t.Punct 87 88 0 (codes "(")
    ∷ token t.Int 88 89 1 (codes "1")
    ∷ token t.Punct 89 90 0 (codes ")")
    ∷ token t.Punct 91 92 0 (codes "{")
    ∷ token t.Punct 92 93 0 (codes "}")
    ∷ token t.Punct 94 95 0 (codes "}")
    ∷ token t.Punct 95 96 0 (codes ";")
    ∷ []

abbrev pub decls : List Tree
decls = (node k.ClassSpecifier (at 7) (Some 1) (more (node k.ClassKey (at 0) (Some 0) none)
    (more (node k.MemberSpecification (at 9) (Some 18)
    (more (node k.MemberDeclaration (at 15) (Some 3) (more (node k.TypeSpecifierSeq (at 11) None (more (node k.SimpleTypeSpecifier (at 11) (Some 3) none) none))
    (more (node k.MemberDeclarator (at 15) (Some 4) (more (node k.DeclaratorId (at 15) (Some 4) none) none)) none)))
    (more (node k.ConstructorDefinition (at 18) (Some 6)
    (more (node k.FunctionDeclarator (at 18) (Some 7)
    (more (node k.DeclaratorId (at 18) (Some 6) none)
    (more (node k.ParameterDeclarationClause (at 20) None
    (more (node k.ParameterDeclaration (at 24) None (more (node k.TypeSpecifierSeq (at 20) None (more (node k.SimpleTypeSpecifier (at 20) (Some 8) none) none))
    (more (node k.DeclaratorId (at 24) (Some 9) none) none))) none)) (more (node k.FunctionQualifiers (at 27) None none) none))))
    (more (node k.MemberInitializer (at 29) (Some 12) (more (node k.UnqualifiedId (at 31) (Some 14) none) none))
    (more (node k.CompoundStatement (at 34) (Some 17) none) none)))) none))) none)))
    ∷ (node k.ClassSpecifier (at 47) (Some 21) (more (node k.ClassKey (at 40) (Some 20) none)
    (more (node k.BaseSpecifier (at 51) (Some 23) none)
    (more (node k.MemberSpecification (at 53) (Some 48)
    (more (node k.MemberDeclaration (at 59) (Some 25)
    (more (node k.TypeSpecifierSeq (at 55) None (more (node k.SimpleTypeSpecifier (at 55) (Some 25) none) none))
    (more (node k.MemberDeclarator (at 59) (Some 26) (more (node k.DeclaratorId (at 59) (Some 26) none) none)) none)))
    (more (node k.MemberDeclaration (at 66) (Some 28)
    (more (node k.TypeSpecifierSeq (at 62) None (more (node k.SimpleTypeSpecifier (at 62) (Some 28) none) none))
    (more (node k.MemberDeclarator (at 66) (Some 29) (more (node k.DeclaratorId (at 66) (Some 29) none) none)) none)))
    (more (node k.ConstructorDefinition (at 69) (Some 31)
    (more (node k.FunctionDeclarator (at 69) (Some 32)
    (more (node k.DeclaratorId (at 69) (Some 31) none)
    (more (node k.ParameterDeclarationClause (at 71) None
    (more (node k.ParameterDeclaration (at 75) None
    (more (node k.TypeSpecifierSeq (at 71) None (more (node k.SimpleTypeSpecifier (at 71) (Some 33) none) none))
    (more (node k.DeclaratorId (at 75) (Some 34) none) none))) none)) (more (node k.FunctionQualifiers (at 78) None none) none))))
    (more (node k.MemberInitializer (at 80) (Some 37) (more (node k.UnqualifiedId (at 82) (Some 39) none) none))
    (more (node k.BaseInitializer (at 86) (Some 42) (more (node k.IntegerLiteral (at 88) (Some 44) none) none))
    (more (node k.CompoundStatement (at 91) (Some 47) none) none))))) none)))) none))))
    ∷ []

abbrev pub text : List ℕ
text = lines (codes "function B::B(int)"
    ∷ codes "  frame 0 B*"
    ∷ codes "  frame 1 int"
    ∷ codes "  Block subobjects @34"
    ∷ codes "    Init @29"
    ∷ codes "      Binary Add ULong @29 l int"
    ∷ codes "        Load ULong @29 p B*"
    ∷ codes "          Local 0 @29 l B*"
    ∷ codes "        Literal 0 @29 p unsigned long"
    ∷ codes "      Store Int @31 p int"
    ∷ codes "        Load Int @31 p int"
    ∷ codes "          Local 1 @31 l int"
    ∷ codes "    Block @34"
    ∷ codes "function S::S(int)"
    ∷ codes "  frame 0 S*"
    ∷ codes "  frame 1 int"
    ∷ codes "  Block subobjects @91"
    ∷ codes "    Init @86"
    ∷ codes "      Load ULong @86 l B"
    ∷ codes "        Local 0 @86 l S*"
    ∷ codes "      Construct B::B(int) @86 p B"
    ∷ codes "        Literal 1 @88 p int"
    ∷ codes "    Init @69"
    ∷ codes "      Binary Add ULong @69 l int"
    ∷ codes "        Load ULong @69 p S*"
    ∷ codes "          Local 0 @69 l S*"
    ∷ codes "        Literal 4 @69 p unsigned long"
    ∷ codes "      Store Int @69 p int"
    ∷ codes "        Literal 0 @69 p int"
    ∷ codes "    Init @80"
    ∷ codes "      Binary Add ULong @80 l int"
    ∷ codes "        Load ULong @80 p S*"
    ∷ codes "          Local 0 @80 l S*"
    ∷ codes "        Literal 8 @80 p unsigned long"
    ∷ codes "      Store Int @82 p int"
    ∷ codes "        Load Int @82 p int"
    ∷ codes "          Local 1 @82 l int"
    ∷ codes "    Block @91"
    ∷ [])
