-- A unit: its tokens, its trees, and its typed bodies as text, where @ stands before the offset of a place.
--
--     int main() { try { synchronized { atomic_cancel { throw 'c'; } } } catch (char) { putchar('c'); } return 0; }
use Rattle.std.specs.Prelude.{ℕ, List, [], ◌∷◌, Some, None, codes}
use Rattle.elab_rules.specs.cpp_lex.Tokens.{Lexeme}
use Rattle.elab_rules.specs.cpp_lex.declared.TokKind.TheVariants as t
use Rattle.elab_rules.specs.cpp_ast.declared.kinds.NodeKind.TheVariants as k
use Rattle.elab_rules.specs.cpp_ast.Trees.{Tree, node, none, more}
use Rattle.elab_worked.specs.Notation.{at, token, lines}

abbrev pub tokens : List Lexeme
tokens = token t.Key 0 3 0 (codes "int")
    ∷ token t.Name 4 8 0 (codes "main")
    ∷ token t.Punct 8 9 0 (codes "(")
    ∷ token t.Punct 9 10 0 (codes ")")
    ∷ token t.Punct 11 12 0 (codes "{")
    ∷ token t.Key 13 16 0 (codes "try")
    ∷ token t.Punct 17 18 0 (codes "{")
    ∷ token t.Key 19 31 0 (codes "synchronized")
    ∷ token t.Punct 32 33 0 (codes "{")
    ∷ token t.Key 34 47 0 (codes "atomic_cancel")
    ∷ token t.Punct 48 49 0 (codes "{")
    ∷ token t.Key 50 55 0 (codes "throw")
    ∷ token t.Char 56 59 99 (codes "'c'")
    ∷ token t.Punct 59 60 0 (codes ";")
    ∷ token t.Punct 61 62 0 (codes "}")
    ∷ token t.Punct 63 64 0 (codes "}")
    ∷ token t.Punct 65 66 0 (codes "}")
    ∷ token t.Key 67 72 0 (codes "catch")
    ∷ token t.Punct 73 74 0 (codes "(")
    ∷ token t.Key 74 78 0 (codes "char")
    ∷ token t.Punct 78 79 0 (codes ")")
    ∷ token t.Punct 80 81 0 (codes "{")
    ∷ token t.Name 82 89 0 (codes "putchar")
    ∷ token t.Punct 89 90 0 (codes "(")
    ∷ token t.Char 90 93 99 (codes "'c'")
    ∷ token t.Punct 93 94 0 (codes ")")
    ∷ token t.Punct 94 95 0 (codes ";")
    ∷ token t.Punct 96 97 0 (codes "}")
    ∷ token t.Key 98 104 0 (codes "return")
    ∷ token t.Int 105 106 0 (codes "0")
    ∷ token t.Punct 106 107 0 (codes ";")
    ∷ token t.Punct 108 109 0 (codes "}")
    ∷ []

abbrev pub decls : List Tree
decls = (node k.FunctionDefinition (at 4) (Some 0) (more (node k.TypeSpecifierSeq (at 0) None (more (node k.SimpleTypeSpecifier (at 0) (Some 0) none) none))
    (more (node k.FunctionDeclarator (at 4) (Some 2) (more (node k.DeclaratorId (at 4) (Some 1) none)
    (more (node k.ParameterDeclarationClause (at 9) None none) (more (node k.FunctionQualifiers (at 11) None none) none))))
    (more (node k.CompoundStatement (at 11) (Some 31)
    (more (node k.TryBlock (at 13) (Some 5) (more (node k.CompoundStatement (at 17) (Some 16)
    (more (node k.SynchronizedStatement (at 19) (Some 7)
    (more (node k.CompoundStatement (at 32) (Some 15)
    (more (node k.AtomicStatement (at 34) (Some 9) (more
    (node k.CompoundStatement (at 48) (Some 14) (more
    (node k.ExpressionStatement (at 50) (Some 13) (more
    (node k.ThrowExpression (at 50) (Some 11) (more (node k.CharacterLiteral (at 56) (Some 12) none) none)) none)) none)) none)) none)) none)) none))
    (more (node k.Handler (at 67) (Some 17) (more (node k.ParameterDeclaration (at 74) None
    (more (node k.TypeSpecifierSeq (at 74) None (more (node k.SimpleTypeSpecifier (at 74) (Some 19) none) none))
    (more (node k.OmittedId (at 78) None none) none)))
    (more (node k.CompoundStatement (at 80) (Some 27)
    (more (node k.ExpressionStatement (at 82) (Some 26)
    (more (node k.FunctionCall (at 82) (Some 23) (more (node k.UnqualifiedId (at 82) (Some 22) none)
    (more (node k.CharacterLiteral (at 90) (Some 24) none) none))) none)) none)) none))) none)))
    (more (node k.ReturnStatement (at 98) (Some 28) (more (node k.IntegerLiteral (at 105) (Some 29) none) none)) none))) none))))
    ∷ []

abbrev pub text : List ℕ
text = lines (codes "function main()"
    ∷ codes "  Block @11"
    ∷ codes "    Try @13"
    ∷ codes "      Block @17"
    ∷ codes "        Synchronized @19"
    ∷ codes "          Block @32"
    ∷ codes "            Atomic Cancel @34"
    ∷ codes "              Block @48"
    ∷ codes "                Throw @50 p char"
    ∷ codes "                  Literal 99 @56 p char"
    ∷ codes "                  Field 0 Char @50"
    ∷ codes "      Handler @67 p char"
    ∷ codes "        Block @80"
    ∷ codes "          Builtin PutChar @82 p int"
    ∷ codes "            Convert Int @90 p int"
    ∷ codes "              Literal 99 @90 p char"
    ∷ codes "    Return @98"
    ∷ codes "      Literal 0 @105 p int"
    ∷ codes "    Return @11"
    ∷ codes "      Literal 0 @11 p int"
    ∷ [])
