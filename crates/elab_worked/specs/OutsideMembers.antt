-- A unit: its tokens, its trees, and its typed bodies as text, where @ stands before the offset of a place.
--
--     struct S { int v; int get() const; }; int S::get() const { return v; }
use Rattle.std.specs.Prelude.{ℕ, List, [], ◌∷◌, Some, None, codes}
use Rattle.elab_rules.specs.cpp_lex.Tokens.{Lexeme}
use Rattle.elab_rules.specs.cpp_lex.declared.TokKind.TheVariants as t
use Rattle.elab_rules.specs.cpp_ast.declared.kinds.NodeKind.TheVariants as k
use Rattle.elab_rules.specs.cpp_ast.Trees.{Tree, node, none, more}
use Rattle.elab_worked.specs.Notation.{at, token, lines}

abbrev pub tokens : List Lexeme
tokens = token t.Key 0 6 0 (codes "struct")
    ∷ token t.Name 7 8 0 (codes "S")
    ∷ token t.Punct 9 10 0 (codes "{")
    ∷ token t.Key 11 14 0 (codes "int")
    ∷ token t.Name 15 16 0 (codes "v")
    ∷ token t.Punct 16 17 0 (codes ";")
    ∷ token t.Key 18 21 0 (codes "int")
    ∷ token t.Name 22 25 0 (codes "get")
    ∷ token t.Punct 25 26 0 (codes "(")
    ∷ token t.Punct 26 27 0 (codes ")")
    ∷ token t.Key 28 33 0 (codes "const")
    ∷ token t.Punct 33 34 0 (codes ";")
    ∷ token t.Punct 35 36 0 (codes "}")
    ∷ token t.Punct 36 37 0 (codes ";")
    ∷ token t.Key 38 41 0 (codes "int")
    ∷ token t.Name 42 43 0 (codes "S")
    ∷ token t.Punct 43 45 0 (codes "::")
    ∷ token t.Name 45 48 0 (codes "get")
    ∷ token t.Punct 48 49 0 (codes "(")
    ∷ token t.Punct 49 50 0 (codes ")")
    ∷ token t.Key 51 56 0 (codes "const")
    ∷ token t.Punct 57 58 0 (codes "{")
    ∷ token t.Key 59 65 0 (codes "return")
    ∷ token t.Name 66 67 0 (codes "v")
    ∷ token t.Punct 67 68 0 (codes ";")
    ∷ token t.Punct 69 70 0 (codes "}")
    ∷ []

abbrev pub decls : List Tree
decls = (node k.ClassSpecifier (at 7) (Some 1) (more (node k.ClassKey (at 0) (Some 0) none)
    (more (node k.MemberSpecification (at 9) (Some 12)
    (more (node k.MemberDeclaration (at 15) (Some 3) (more (node k.TypeSpecifierSeq (at 11) None (more (node k.SimpleTypeSpecifier (at 11) (Some 3) none) none))
    (more (node k.MemberDeclarator (at 15) (Some 4) (more (node k.DeclaratorId (at 15) (Some 4) none) none)) none)))
    (more (node k.MemberDeclaration (at 22) (Some 6) (more (node k.TypeSpecifierSeq (at 18) None (more (node k.SimpleTypeSpecifier (at 18) (Some 6) none) none))
    (more (node k.MemberDeclarator (at 22) (Some 7) (more
    (node k.FunctionDeclarator (at 22) (Some 8) (more (node k.DeclaratorId (at 22) (Some 7) none)
    (more (node k.ParameterDeclarationClause (at 26) None none)
    (more (node k.FunctionQualifiers (at 28) None (more (node k.CvQualifier (at 28) (Some 10) none) none)) none)))) none)) none))) none))) none)))
    ∷ (node k.FunctionDefinition (at 45) (Some 14) (more (node k.TypeSpecifierSeq (at 38) None (more (node k.SimpleTypeSpecifier (at 38) (Some 14) none) none))
    (more (node k.FunctionDeclarator (at 42) (Some 18)
    (more (node k.QualifiedDeclaratorId (at 42) (Some 17) (more (node k.TypeName (at 42) (Some 15) none) none))
    (more (node k.ParameterDeclarationClause (at 49) None none)
    (more (node k.FunctionQualifiers (at 51) None (more (node k.CvQualifier (at 51) (Some 20) none) none)) none))))
    (more (node k.CompoundStatement (at 57) (Some 25)
    (more (node k.ReturnStatement (at 59) (Some 22) (more (node k.UnqualifiedId (at 66) (Some 23) none) none)) none)) none))))
    ∷ []

abbrev pub text : List ℕ
text = lines (codes "function S::get()const"
    ∷ codes "  frame 0 const S*"
    ∷ codes "  Block @57"
    ∷ codes "    Return @59"
    ∷ codes "      Load Int @66 p int"
    ∷ codes "        Binary Add ULong @66 l const int"
    ∷ codes "          Retype @66 l const S"
    ∷ codes "            Load ULong @66 p const S*"
    ∷ codes "              Local 0 @66 l const S*"
    ∷ codes "          Literal 0 @66 p unsigned long"
    ∷ codes "    Return @57"
    ∷ codes "      Literal 0 @57 p int"
    ∷ [])
