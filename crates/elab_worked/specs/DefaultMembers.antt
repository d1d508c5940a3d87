-- A unit: its tokens, its trees, and its typed bodies as text, where @ stands before the offset of a place.
--
--     struct S { int a = 3; int b = a; S(int x) : a(x) {} };
use Rattle.std.specs.Prelude.{ℕ, List, [], ◌∷◌, Some, None, codes}
use Rattle.elab_rules.specs.cpp_lex.Tokens.{Lexeme}
use Rattle.elab_rules.specs.cpp_lex.declared.TokKind.TheVariants as t
use Rattle.elab_rules.specs.cpp_ast.declared.kinds.NodeKind.TheVariants as k
use Rattle.elab_rules.specs.cpp_ast.Trees.{Tree, node, none, more}
use Rattle.elab_worked.specs.Notation.{at, token, lines}

abbrev pub tokens : List Lexeme
tokens = token t.Key 0 6 0 (codes "struct")
    ∷ token t.Name 7 8 0 (codes "S")
    ∷ token t.Punct 9 10 0 (codes "{")
    ∷ token t.Key 11 14 0 (codes "int")
    ∷ token t.Name 15 16 0 (codes "a")
    ∷ token t.Punct 17 18 0 (codes "=")
    ∷ token t.Int 19 20 3 (codes "3")
    ∷ token t.Punct 20 21 0 (codes ";")
    ∷ token t.Key 22 25 0 (codes "int")
    ∷ token t.Name 26 27 0 (codes "b")
    ∷ token t.Punct 28 29 0 (codes "=")
    ∷ token t.Name 30 31 0 (codes "a")
    ∷ token t.Punct 31 32 0 (codes ";")
    ∷ token t.Name 33 34 0 (codes "S")
    ∷ token t.Punct 34 35 0 (codes "(")
    ∷ token t.Key 35 38 0 (codes "int")
    ∷ token t.Name 39 40 0 (codes "x")
    ∷ token t.Punct 40 41 0 (codes ")")
    ∷ token t.Punct 42 43 0 (codes ":")
    ∷ token t.Name 44 45 0 (codes "a")
    ∷ token t.Punct 45 46 0 (codes "(")
    ∷ token t.Name 46 47 0 (codes "x")
    ∷ token t.Punct 47 48 0 (codes ")")
    ∷ token t.Punct 49 50 0 (codes "{")
    ∷ token t.Punct 50 51 0 (codes "}")
    ∷ token t.Punct 52 53 0 (codes "}")
    ∷ token t.Punct 53 54 0 (codes ";")
    ∷ []

abbrev pub decls : List Tree
decls = (node k.ClassSpecifier (at 7) (Some 1) (more (node k.ClassKey (at 0) (Some 0) none)
    (more (node k.MemberSpecification (at 9) (Some 25)
    (more (node k.MemberDeclaration (at 15) (Some 3) (more (node k.TypeSpecifierSeq (at 11) None (more (node k.SimpleTypeSpecifier (at 11) (Some 3) none) none))
    (more (node k.MemberDeclarator (at 15) (Some 4) (more (node k.DeclaratorId (at 15) (Some 4) none)
    (more (node k.EqualInitializer (at 17) (Some 5) (more (node k.IntegerLiteral (at 19) (Some 6) none) none)) none))) none)))
    (more (node k.MemberDeclaration (at 26) (Some 8) (more (node k.TypeSpecifierSeq (at 22) None (more (node k.SimpleTypeSpecifier (at 22) (Some 8) none) none))
    (more (node k.MemberDeclarator (at 26) (Some 9) (more (node k.DeclaratorId (at 26) (Some 9) none)
    (more (node k.EqualInitializer (at 28) (Some 10) (more (node k.UnqualifiedId (at 30) (Some 11) none) none)) none))) none)))
    (more (node k.ConstructorDefinition (at 33) (Some 13)
    (more (node k.FunctionDeclarator (at 33) (Some 14)
    (more (node k.DeclaratorId (at 33) (Some 13) none)
    (more (node k.ParameterDeclarationClause (at 35) None
    (more (node k.ParameterDeclaration (at 39) None (more (node k.TypeSpecifierSeq (at 35) None (more (node k.SimpleTypeSpecifier (at 35) (Some 15) none) none))
    (more (node k.DeclaratorId (at 39) (Some 16) none) none))) none)) (more (node k.FunctionQualifiers (at 42) None none) none))))
    (more (node k.MemberInitializer (at 44) (Some 19) (more (node k.UnqualifiedId (at 46) (Some 21) none) none))
    (more (node k.CompoundStatement (at 49) (Some 24) none) none)))) none)))) none)))
    ∷ []

abbrev pub text : List ℕ
text = lines (codes "function S::S(int)"
    ∷ codes "  frame 0 S*"
    ∷ codes "  frame 1 int"
    ∷ codes "  Block subobjects @49"
    ∷ codes "    Init @44"
    ∷ codes "      Binary Add ULong @44 l int"
    ∷ codes "        Load ULong @44 p S*"
    ∷ codes "          Local 0 @44 l S*"
    ∷ codes "        Literal 0 @44 p unsigned long"
    ∷ codes "      Store Int @46 p int"
    ∷ codes "        Load Int @46 p int"
    ∷ codes "          Local 1 @46 l int"
    ∷ codes "    Init @33"
    ∷ codes "      Binary Add ULong @33 l int"
    ∷ codes "        Load ULong @33 p S*"
    ∷ codes "          Local 0 @33 l S*"
    ∷ codes "        Literal 4 @33 p unsigned long"
    ∷ codes "      Store Int @30 p int"
    ∷ codes "        Load Int @30 p int"
    ∷ codes "          Binary Add ULong @30 l int"
    ∷ codes "            Retype @30 l S"
    ∷ codes "              Load ULong @30 p S*"
    ∷ codes "                Local 0 @30 l S*"
    ∷ codes "            Literal 0 @30 p unsigned long"
    ∷ codes "    Block @49"
    ∷ [])
