-- A unit: its tokens, its trees, and its typed bodies as text, where @ stands before the offset of a place.
--
--     struct M { M(const M&); }; struct S { M m; int k; }; void f(S& s) { S t = s; }
use Rattle.std.specs.Prelude.{ℕ, List, [], ◌∷◌, Some, None, codes}
use Rattle.elab_rules.specs.cpp_lex.Tokens.{Lexeme}
use Rattle.elab_rules.specs.cpp_lex.declared.TokKind.TheVariants as t
use Rattle.elab_rules.specs.cpp_ast.declared.kinds.NodeKind.TheVariants as k
use Rattle.elab_rules.specs.cpp_ast.Trees.{Tree, node, none, more}
use Rattle.elab_worked.specs.Notation.{at, token, lines}

abbrev pub tokens : List Lexeme
tokens = token t.Key 0 6 0 (codes "struct")
    ∷ token t.Name 7 8 0 (codes "M")
    ∷ token t.Punct 9 10 0 (codes "{")
    ∷ token t.Name 11 12 0 (codes "M")
    ∷ token t.Punct 12 13 0 (codes "(")
    ∷ token t.Key 13 18 0 (codes "const")
    ∷ token t.Name 19 20 0 (codes "M")
    ∷ token t.Punct 20 21 0 (codes "&")
    ∷ token t.Punct 21 22 0 (codes ")")
    ∷ token t.Punct 22 23 0 (codes ";")
    ∷ token t.Punct 24 25 0 (codes "}")
    ∷ token t.Punct 25 26 0 (codes ";")
    ∷ token t.Key 27 33 0 (codes "struct")
    ∷ token t.Name 34 35 0 (codes "S")
    ∷ token t.Punct 36 37 0 (codes "{")
    ∷ token t.Name 38 39 0 (codes "M")
    ∷ token t.Name 40 41 0 (codes "m")
    ∷ token t.Punct 41 42 0 (codes ";")
    ∷ token t.Key 43 46 0 (codes "int")
    ∷ token t.Name 47 48 0 (codes "k")
    ∷ token t.Punct 48 49 0 (codes ";")
    ∷ token t.Punct 50 51 0 (codes "}")
    ∷ token t.Punct 51 52 0 (codes ";")
    ∷ token t.Key 53 57 0 (codes "void")
    ∷ token t.Name 58 59 0 (codes "f")
    ∷ token t.Punct 59 60 0 (codes "(")
    ∷ token t.Name 60 61 0 (codes "S")
    ∷ token t.Punct 61 62 0 (codes "&")
    ∷ token t.Name 63 64 0 (codes "s")
    ∷ token t.Punct 64 65 0 (codes ")")
    ∷ token t.Punct 66 67 0 (codes "{")
    ∷ token t.Name 68 69 0 (codes "S")
    ∷ token t.Name 70 71 0 (codes "t")
    ∷ token t.Punct 72 73 0 (codes "=")
    ∷ token t.Name 74 75 0 (codes "s")
    ∷ token t.Punct 75 76 0 (codes ";")
    ∷ token t.Punct 77 78 0 (codes "}")
    ∷ []

abbrev pub decls : List Tree
decls = (node k.ClassSpecifier (at 7) (Some 1) (more (node k.ClassKey (at 0) (Some 0) none)
    (more (node k.MemberSpecification (at 9) (Some 10)
    (more (node k.ConstructorDeclaration (at 11) (Some 3)
    (more (node k.FunctionDeclarator (at 11) (Some 4)
    (more (node k.DeclaratorId (at 11) (Some 3) none)
    (more (node k.ParameterDeclarationClause (at 13) None
    (more (node k.ParameterDeclaration (at 13) None (more
    (node k.TypeSpecifierSeq (at 13) None (more (node k.CvQualifier (at 13) (Some 5) none) (more (node k.TypeName (at 19) (Some 6) none) none)))
    (more (node k.ReferenceDeclarator (at 20) (Some 7) (more (node k.OmittedId (at 21) None none) none)) none))) none))
    (more (node k.FunctionQualifiers (at 22) None none) none)))) none)) none)) none)))
    ∷ (node k.ClassSpecifier (at 34) (Some 13) (more (node k.ClassKey (at 27) (Some 12) none)
    (more (node k.MemberSpecification (at 36) (Some 21)
    (more (node k.MemberDeclaration (at 40) (Some 15)
    (more (node k.TypeSpecifierSeq (at 38) None (more (node k.TypeName (at 38) (Some 15) none) none))
    (more (node k.MemberDeclarator (at 40) (Some 16) (more (node k.DeclaratorId (at 40) (Some 16) none) none)) none)))
    (more (node k.MemberDeclaration (at 47) (Some 18)
    (more (node k.TypeSpecifierSeq (at 43) None (more (node k.SimpleTypeSpecifier (at 43) (Some 18) none) none))
    (more (node k.MemberDeclarator (at 47) (Some 19) (more (node k.DeclaratorId (at 47) (Some 19) none) none)) none))) none))) none)))
    ∷ (node k.FunctionDefinition (at 58) (Some 23) (more (node k.TypeSpecifierSeq (at 53) None (more (node k.SimpleTypeSpecifier (at 53) (Some 23) none) none))
    (more (node k.FunctionDeclarator (at 58) (Some 25)
    (more (node k.DeclaratorId (at 58) (Some 24) none)
    (more (node k.ParameterDeclarationClause (at 60) None
    (more (node k.ParameterDeclaration (at 63) None
    (more (node k.TypeSpecifierSeq (at 60) None (more (node k.TypeName (at 60) (Some 26) none) none))
    (more (node k.ReferenceDeclarator (at 61) (Some 27) (more (node k.DeclaratorId (at 63) (Some 28) none) none)) none))) none))
    (more (node k.FunctionQualifiers (at 66) None none) none))))
    (more (node k.CompoundStatement (at 66) (Some 36)
    (more (node k.SimpleDeclaration (at 70) (Some 31)
    (more (node k.TypeSpecifierSeq (at 68) None (more (node k.TypeName (at 68) (Some 31) none) none))
    (more (node k.InitDeclarator (at 70) (Some 32)
    (more (node k.DeclaratorId (at 70) (Some 32) none)
    (more (node k.EqualInitializer (at 72) (Some 33) (more (node k.UnqualifiedId (at 74) (Some 34) none) none)) none))) none))) none)) none))))
    ∷ []

abbrev pub text : List ℕ
text = lines (codes "function f(S&)"
    ∷ codes "  frame 0 S&"
    ∷ codes "  frame 1 S"
    ∷ codes "  Block @66"
    ∷ codes "    Init @70"
    ∷ codes "      Local 1 @70 l S"
    ∷ codes "      Construct S::S(const S&) @74 p S"
    ∷ codes "        Retype @74 l const S"
    ∷ codes "          Load ULong @74 l S"
    ∷ codes "            Local 0 @74 l S&"
    ∷ codes "function S::S(const S&)"
    ∷ codes "  frame 0 S*"
    ∷ codes "  frame 1 const S&"
    ∷ codes "  Block subobjects @34"
    ∷ codes "    Init @34"
    ∷ codes "      Binary Add ULong @34 l M"
    ∷ codes "        Load ULong @34 p S*"
    ∷ codes "          Local 0 @34 l S*"
    ∷ codes "        Literal 0 @34 p unsigned long"
    ∷ codes "      Construct M::M(const M&) @34 p M"
    ∷ codes "        Binary Add ULong @34 l const M"
    ∷ codes "          Load ULong @34 l const S"
    ∷ codes "            Local 1 @34 l const S&"
    ∷ codes "          Literal 0 @34 p unsigned long"
    ∷ codes "    Init @34"
    ∷ codes "      Binary Add ULong @34 l int"
    ∷ codes "        Load ULong @34 p S*"
    ∷ codes "          Local 0 @34 l S*"
    ∷ codes "        Literal 4 @34 p unsigned long"
    ∷ codes "      Store Int @34 p int"
    ∷ codes "        Load Int @34 p int"
    ∷ codes "          Binary Add ULong @34 l const int"
    ∷ codes "            Load ULong @34 l const S"
    ∷ codes "              Local 1 @34 l const S&"
    ∷ codes "            Literal 4 @34 p unsigned long"
    ∷ codes "    Block @34"
    ∷ [])
