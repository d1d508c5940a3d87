-- A unit: its tokens, its trees, and its typed bodies as text, where @ stands before the offset of a place.
--
--     int x = 1;
--     int main() {
--       putchar('a');
--       atomic_noexcept { if (x) std::abort(); x = 2; }
--       putchar('b');
--       return 0;
--     }
use Rattle.std.specs.Prelude.{ℕ, List, [], ◌∷◌, Some, None, codes}
use Rattle.elab_rules.specs.cpp_lex.Tokens.{Lexeme}
use Rattle.elab_rules.specs.cpp_lex.declared.TokKind.TheVariants as t
use Rattle.elab_rules.specs.cpp_ast.declared.kinds.NodeKind.TheVariants as k
use Rattle.elab_rules.specs.cpp_ast.Trees.{Tree, node, none, more}
use Rattle.elab_worked.specs.Notation.{at, token, lines}

abbrev pub tokens : List Lexeme
tokens = token t.Key 0 3 0 (codes "int")
    ∷ token t.Name 4 5 0 (codes "x")
    ∷ token t.Punct 6 7 0 (codes "=")
    ∷ token t.Int 8 9 1 (codes "1")
    ∷ token t.Punct 9 10 0 (codes ";")
    ∷ token t.Key 11 14 0 (codes "int")
    ∷ token t.Name 15 19 0 (codes "main")
    ∷ token t.Punct 19 20 0 (codes "(")
    ∷ token t.Punct 20 21 0 (codes ")")
    ∷ token t.Punct 22 23 0 (codes "{")
    ∷ token t.Name 26 33 0 (codes "putchar")
    ∷ token t.Punct 33 34 0 (codes "(")
    ∷ token t.Char 34 37 97 (codes "'a'")
    ∷ token t.Punct 37 38 0 (codes ")")
    ∷ token t.Punct 38 39 0 (codes ";")
    ∷ token t.Key 42 57 0 (codes "atomic_noexcept")
    ∷ token t.Punct 58 59 0 (codes "{")
    ∷ token t.Key 60 62 0 (codes "if")
    ∷ token t.Punct 63 64 0 (codes "(")
    ∷ token t.Name 64 65 0 (codes "x")
    ∷ token t.Punct 65 66 0 (codes ")")
    ∷ token t.Name 67 70 0 (codes "std")
    ∷ token t.Punct 70 72 0 (codes "::")
    ∷ token t.Name 72 77 0 (codes "abort")
    ∷ token t.Punct 77 78 0 (codes "(")
    ∷ token t.Punct 78 79 0 (codes ")")
    ∷ token t.Punct 79 80 0 (codes ";")
    ∷ token t.Name 81 82 0 (codes "x")
    ∷ token t.Punct 83 84 0 (codes "=")
    ∷ token t.Int 85 86 2 (codes "2")
    ∷ token t.Punct 86 87 0 (codes ";")
    ∷ token t.Punct 88 89 0 (codes "}")
    ∷ token t.Name 92 99 0 (codes "putchar")
    ∷ token t.Punct 99 100 0 (codes "(")
    ∷ token t.Char 100 103 98 (codes "'b'")
    ∷ token t.Punct 103 104 0 (codes ")")
    ∷ token t.Punct 104 105 0 (codes ";")
    ∷ token t.Key 108 114 0 (codes "return")
    ∷ token t.Int 115 116 0 (codes "0")
    ∷ token t.Punct 116 117 0 (codes ";")
    ∷ token t.Punct 118 119 0 (codes "}")
    ∷ []

abbrev pub decls : List Tree
decls = (node k.SimpleDeclaration (at 4) (Some 0) (more (node k.TypeSpecifierSeq (at 0) None (more (node k.SimpleTypeSpecifier (at 0) (Some 0) none) none))
    (more (node k.InitDeclarator (at 4) (Some 1) (more (node k.DeclaratorId (at 4) (Some 1) none)
    (more (node k.EqualInitializer (at 6) (Some 2) (more (node k.IntegerLiteral (at 8) (Some 3) none) none)) none))) none)))
    ∷ (node k.FunctionDefinition (at 15) (Some 5) (more (node k.TypeSpecifierSeq (at 11) None (more (node k.SimpleTypeSpecifier (at 11) (Some 5) none) none))
    (more (node k.FunctionDeclarator (at 15) (Some 7)
    (more (node k.DeclaratorId (at 15) (Some 6) none)
    (more (node k.ParameterDeclarationClause (at 20) None none) (more (node k.FunctionQualifiers (at 22) None none) none))))
    (more (node k.CompoundStatement (at 22) (Some 40)
    (more (node k.ExpressionStatement (at 26) (Some 14)
    (more (node k.FunctionCall (at 26) (Some 11) (more (node k.UnqualifiedId (at 26) (Some 10) none)
    (more (node k.CharacterLiteral (at 34) (Some 12) none) none))) none))
    (more (node k.AtomicStatement (at 42) (Some 15)
    (more (node k.CompoundStatement (at 58) (Some 31)
    (more (node k.IfStatement (at 60) (Some 17) (more (node k.UnqualifiedId (at 64) (Some 19) none)
    (more (node k.ExpressionStatement (at 67) (Some 26)
    (more (node k.FunctionCall (at 67) (Some 24) (more (node k.StdAbort (at 67) (Some 23) none) none)) none)) none)))
    (more (node k.ExpressionStatement (at 81) (Some 30)
    (more (node k.AssignmentExpression (at 81) (Some 28)
    (more (node k.UnqualifiedId (at 81) (Some 27) none) (more (node k.IntegerLiteral (at 85) (Some 29) none) none))) none)) none))) none))
    (more (node k.ExpressionStatement (at 92) (Some 36)
    (more (node k.FunctionCall (at 92) (Some 33) (more (node k.UnqualifiedId (at 92) (Some 32) none)
    (more (node k.CharacterLiteral (at 100) (Some 34) none) none))) none))
    (more (node k.ReturnStatement (at 108) (Some 37) (more (node k.IntegerLiteral (at 115) (Some 38) none) none)) none))))) none))))
    ∷ []

abbrev pub text : List ℕ
text = lines (codes "function main()"
    ∷ codes "  Block @22"
    ∷ codes "    Builtin PutChar @26 p int"
    ∷ codes "      Convert Int @34 p int"
    ∷ codes "        Literal 97 @34 p char"
    ∷ codes "    Atomic NoExcept @42"
    ∷ codes "      Block @58"
    ∷ codes "        Conditional @60"
    ∷ codes "          Convert Bool @64 p bool"
    ∷ codes "            Load Int @64 p int"
    ∷ codes "              Global x @64 l int"
    ∷ codes "          Builtin Abort @67"
    ∷ codes "          Block @60"
    ∷ codes "        Assign Int @81 l int"
    ∷ codes "          Global x @81 l int"
    ∷ codes "          Literal 2 @85 p int"
    ∷ codes "    Builtin PutChar @92 p int"
    ∷ codes "      Convert Int @100 p int"
    ∷ codes "        Literal 98 @100 p char"
    ∷ codes "    Return @108"
    ∷ codes "      Literal 0 @115 p int"
    ∷ codes "    Return @22"
    ∷ codes "      Literal 0 @22 p int"
    ∷ [])
