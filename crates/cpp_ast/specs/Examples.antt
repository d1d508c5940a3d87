-- Trees of two texts, by which the definitions of depth and of shape can be tried.
use Rattle.std.specs.Prelude.{ℕ, zero, suc, Some, None}
use Rattle.cpp_ast.specs.declared.kinds.NodeKind.{NodeKind}
use Rattle.cpp_ast.specs.declared.kinds.NodeKind.TheVariants.{IntegerLiteral, ParenthesizedExpression, TypeSpecifierSeq, SimpleTypeSpecifier}
use Rattle.cpp_ast.specs.declared.kinds.NodeKind.TheVariants.{FunctionDeclarator, DeclaratorId, ParameterDeclarationClause, FunctionQualifiers}
use Rattle.cpp_ast.specs.declared.kinds.NodeKind.TheVariants.{FunctionDefinition, CompoundStatement, ReturnStatement}
use Rattle.cpp_ast.specs.Trees.{Tree, node, Trees, none, more}

-- a node at the first byte of the first text, whose token, where it has one, is the first
abbrev with_token : NodeKind → Trees → Tree
with_token kind kids = node kind (record { source = 0; offset = 0 }) (Some 0) kids

abbrev without_token : NodeKind → Trees → Tree
without_token kind kids = node kind (record { source = 0; offset = 0 }) None kids

-- int main() and a body of one statement
abbrev pub main_of : Tree → Trees
main_of statement =
    more (with_token FunctionDefinition
    (more (without_token TypeSpecifierSeq (more (with_token SimpleTypeSpecifier none) none))
    (more (with_token FunctionDeclarator
    (more (with_token DeclaratorId none) (more (without_token ParameterDeclarationClause none) (more (without_token FunctionQualifiers none) none))))
    (more (with_token CompoundStatement (more statement none)) none)))) none

-- 0 in so many parentheses
abbrev pub parenthesized : ℕ → Tree
parenthesized zero = with_token IntegerLiteral none
parenthesized (suc n) = with_token ParenthesizedExpression (more (parenthesized n) none)

-- return 0; with 0 in so many parentheses
abbrev pub returned : ℕ → Tree
returned n = with_token ReturnStatement (more (parenthesized n) none)

-- {} in so many further braces
abbrev pub braced : ℕ → Tree
braced zero = with_token CompoundStatement none
braced (suc n) = with_token CompoundStatement (more (braced n) none)
