use Rattle.std.proofs.Common.{◌≡◌, drop, None}
use Rattle.elab_scopes.specs.cpp_lex.Tokens.{lexemes_of}
use Rattle.elab_scopes.specs.cpp_types.Typ.{typ_of}
use Rattle.elab_scopes.specs.elab_rules.Statements.{block_declarators}
use Rattle.elab_scopes.specs.elab_types.Syntax.{syntax_of, trees_at}
use Rattle.elab_locals.specs.Deducing.{declaring_of}
use Rattle.elab_locals.proofs.Declared.{DeclaredSoFar}
use Rattle.elab_locals.proofs.declarations.declarators.Given as goal

abbrev pub invariant-loop-id : goal.invariant-loop-id
invariant-loop-id g l = DeclaredSoFar l.fn.st l.st l.list.items
    (block_declarators (g.L.MakeLambdas.lambdas l.lams) (lexemes_of l.tokens) (typ_of l.ty) (declaring_of l.st l.list.items l.deduced)
    (trees_at (syntax_of l.nodes) (drop l.id-index l.ids)))
    (block_declarators (g.L.MakeLambdas.lambdas l.lams) (lexemes_of l.tokens) (typ_of l.ty) (declaring_of l.fn.st l.fn.list.items None)
    (trees_at (syntax_of l.nodes) l.ids))
