-- A unit: its tokens, its trees, and its typed bodies as text, where @ stands before the offset of a place.
--
--     struct M { ~M(); }; struct S : M { M a; M b; ~S() {} };
use Rattle.std.specs.Prelude.{ℕ, List, [], ◌∷◌, Some, None, codes}
use Rattle.elab_rules.specs.cpp_lex.Tokens.{Lexeme}
use Rattle.elab_rules.specs.cpp_lex.declared.TokKind.TheVariants as t
use Rattle.elab_rules.specs.cpp_ast.declared.kinds.NodeKind.TheVariants as k
use Rattle.elab_rules.specs.cpp_ast.Trees.{Tree, node, none, more}
use Rattle.elab_worked.specs.Notation.{at, token, lines}

abbrev pub tokens : List Lexeme
tokens = token t.Key 0 6 0 (codes "struct")
    ∷ token t.Name 7 8 0 (codes "M")
    ∷ token t.Punct 9 10 0 (codes "{")
    ∷ token t.Punct 11 12 0 (codes "~")
    ∷ token t.Name 12 13 0 (codes "M")
    ∷ token t.Punct 13 14 0 (codes "(")
    ∷ token t.Punct 14 15 0 (codes ")")
    ∷ token t.Punct 15 16 0 (codes ";")
    ∷ token t.Punct 17 18 0 (codes "}")
    ∷ token t.Punct 18 19 0 (codes ";")
    ∷ token t.Key 20 26 0 (codes "struct")
    ∷ token t.Name 27 28 0 (codes "S")
    ∷ token t.Punct 29 30 0 (codes ":")
    ∷ token t.Name 31 32 0 (codes "M")
    ∷ token t.Punct 33 34 0 (codes "{")
    ∷ token t.Name 35 36 0 (codes "M")
    ∷ token t.Name 37 38 0 (codes "a")
    ∷ token t.Punct 38 39 0 (codes ";")
    ∷ token t.Name 40 41 0 (codes "M")
    ∷ token t.Name 42 43 0 (codes "b")
    ∷ token t.Punct 43 44 0 (codes ";")
    ∷ token t.Punct 45 46 0 (codes "~")
    ∷ token t.Name 46 47 0 (codes "S")
    ∷ token t.Punct 47 48 0 (codes "(")
    ∷ token t.Punct 48 49 0 (codes ")")
    ∷ token t.Punct 50 51 0 (codes "{")
    ∷ token t.Punct 51 52 0 (codes "}")
    ∷ token t.Punct 53 54 0 (codes "}")
    ∷ token t.Punct 54 55 0 (codes ";")
    ∷ []

abbrev pub decls : List Tree
decls = (node k.ClassSpecifier (at 7) (Some 1) (more (node k.ClassKey (at 0) (Some 0) none)
    (more (node k.MemberSpecification (at 9) (Some 8)
    (more (node k.DestructorDeclaration (at 11) (Some 3)
    (more (node k.FunctionDeclarator (at 11) (Some 5)
    (more (node k.DestructorId (at 11) (Some 4) none)
    (more (node k.ParameterDeclarationClause (at 14) None none) (more (node k.FunctionQualifiers (at 15) None none) none)))) none)) none)) none)))
    ∷ (node k.ClassSpecifier (at 27) (Some 11) (more (node k.ClassKey (at 20) (Some 10) none)
    (more (node k.BaseSpecifier (at 31) (Some 13) none)
    (more (node k.MemberSpecification (at 33) (Some 27)
    (more (node k.MemberDeclaration (at 37) (Some 15)
    (more (node k.TypeSpecifierSeq (at 35) None (more (node k.TypeName (at 35) (Some 15) none) none))
    (more (node k.MemberDeclarator (at 37) (Some 16) (more (node k.DeclaratorId (at 37) (Some 16) none) none)) none)))
    (more (node k.MemberDeclaration (at 42) (Some 18)
    (more (node k.TypeSpecifierSeq (at 40) None (more (node k.TypeName (at 40) (Some 18) none) none))
    (more (node k.MemberDeclarator (at 42) (Some 19) (more (node k.DeclaratorId (at 42) (Some 19) none) none)) none)))
    (more (node k.DestructorDefinition (at 45) (Some 21)
    (more (node k.FunctionDeclarator (at 45) (Some 23)
    (more (node k.DestructorId (at 45) (Some 22) none)
    (more (node k.ParameterDeclarationClause (at 48) None none) (more (node k.FunctionQualifiers (at 50) None none) none))))
    (more (node k.CompoundStatement (at 50) (Some 26) none) none))) none)))) none))))
    ∷ []

abbrev pub text : List ℕ
text = lines (codes "function S::~S()"
    ∷ codes "  frame 0 S*"
    ∷ codes "  Block @50"
    ∷ codes "    Defer @45"
    ∷ codes "      Load ULong @45 l M"
    ∷ codes "        Local 0 @45 l S*"
    ∷ codes "      Destroy M::~M() 0 1 0 @45"
    ∷ codes "    Defer @45"
    ∷ codes "      Binary Add ULong @45 l M"
    ∷ codes "        Load ULong @45 p S*"
    ∷ codes "          Local 0 @45 l S*"
    ∷ codes "        Literal 1 @45 p unsigned long"
    ∷ codes "      Destroy M::~M() 0 1 0 @45"
    ∷ codes "    Defer @45"
    ∷ codes "      Binary Add ULong @45 l M"
    ∷ codes "        Load ULong @45 p S*"
    ∷ codes "          Local 0 @45 l S*"
    ∷ codes "        Literal 2 @45 p unsigned long"
    ∷ codes "      Destroy M::~M() 0 1 0 @45"
    ∷ codes "    Block @50"
    ∷ [])
