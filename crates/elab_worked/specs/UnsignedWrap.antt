-- A unit: its tokens, its trees, and its typed bodies as text, where @ stands before the offset of a place.
--
--     int main() { putchar('0' + (4294967295u + 1u)); return 0; }
use Rattle.std.specs.Prelude.{ℕ, List, [], ◌∷◌, Some, None, codes}
use Rattle.elab_rules.specs.cpp_lex.Tokens.{Lexeme}
use Rattle.elab_rules.specs.cpp_lex.declared.TokKind.TheVariants as t
use Rattle.elab_rules.specs.cpp_ast.declared.kinds.NodeKind.TheVariants as k
use Rattle.elab_rules.specs.cpp_ast.Trees.{Tree, node, none, more}
use Rattle.elab_worked.specs.Notation.{at, token, lines}

abbrev pub tokens : List Lexeme
tokens = token t.Key 0 3 0 (codes "int")
    ∷ token t.Name 4 8 0 (codes "main")
    ∷ token t.Punct 8 9 0 (codes "(")
    ∷ token t.Punct 9 10 0 (codes ")")
    ∷ token t.Punct 11 12 0 (codes "{")
    ∷ token t.Name 13 20 0 (codes "putchar")
    ∷ token t.Punct 20 21 0 (codes "(")
    ∷ token t.Char 21 24 48 (codes "'0'")
    ∷ token t.Punct 25 26 0 (codes "+")
    ∷ token t.Punct 27 28 0 (codes "(")
    ∷ token t.Int 28 39 4294967295 (codes "4294967295u")
    ∷ token t.Punct 40 41 0 (codes "+")
    ∷ token t.Int 42 44 1 (codes "1u")
    ∷ token t.Punct 44 45 0 (codes ")")
    ∷ token t.Punct 45 46 0 (codes ")")
    ∷ token t.Punct 46 47 0 (codes ";")
    ∷ token t.Key 48 54 0 (codes "return")
    ∷ token t.Int 55 56 0 (codes "0")
    ∷ token t.Punct 56 57 0 (codes ";")
    ∷ token t.Punct 58 59 0 (codes "}")
    ∷ []

abbrev pub decls : List Tree
decls = (node k.FunctionDefinition (at 4) (Some 0) (more (node k.TypeSpecifierSeq (at 0) None (more (node k.SimpleTypeSpecifier (at 0) (Some 0) none) none))
    (more (node k.FunctionDeclarator (at 4) (Some 2) (more (node k.DeclaratorId (at 4) (Some 1) none)
    (more (node k.ParameterDeclarationClause (at 9) None none) (more (node k.FunctionQualifiers (at 11) None none) none))))
    (more (node k.CompoundStatement (at 11) (Some 19)
    (more (node k.ExpressionStatement (at 13) (Some 15)
    (more (node k.FunctionCall (at 13) (Some 6) (more (node k.UnqualifiedId (at 13) (Some 5) none)
    (more (node k.BinaryExpression (at 21) (Some 8) (more (node k.CharacterLiteral (at 21) (Some 7) none)
    (more (node k.ParenthesizedExpression (at 27) (Some 9)
    (more (node k.BinaryExpression (at 28) (Some 11) (more (node k.IntegerLiteral (at 28) (Some 10) none)
    (more (node k.IntegerLiteral (at 42) (Some 12) none) none))) none)) none))) none))) none))
    (more (node k.ReturnStatement (at 48) (Some 16) (more (node k.IntegerLiteral (at 55) (Some 17) none) none)) none))) none))))
    ∷ []

abbrev pub text : List ℕ
text = lines (codes "function main()"
    ∷ codes "  Block @11"
    ∷ codes "    Builtin PutChar @13 p int"
    ∷ codes "      Convert Int @21 p int"
    ∷ codes "        Binary Add UInt @21 p unsigned int"
    ∷ codes "          Convert UInt @21 p unsigned int"
    ∷ codes "            Literal 48 @21 p char"
    ∷ codes "          Binary Add UInt @28 p unsigned int"
    ∷ codes "            Literal 4294967295 @28 p unsigned int"
    ∷ codes "            Literal 1 @42 p unsigned int"
    ∷ codes "    Return @48"
    ∷ codes "      Literal 0 @55 p int"
    ∷ codes "    Return @11"
    ∷ codes "      Literal 0 @11 p int"
    ∷ [])
