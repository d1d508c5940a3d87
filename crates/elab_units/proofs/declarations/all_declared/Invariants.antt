use Rattle.std.proofs.Common.{drop}
use Rattle.elab_entry.specs.cpp_lex.Tokens.{lexemes_of}
use Rattle.elab_entry.specs.elab_rules.Functions.{no_storage}
use Rattle.elab_entry.specs.elab_scopes.States.{state_of}
use Rattle.elab_entry.specs.elab_types.Syntax.{syntax_of, trees_at}
use Rattle.elab_units.proofs.Declarings.{DeclaredTo}
use Rattle.elab_units.proofs.declarations.all_declared.Given as goal

abbrev pub invariant-loop-id : goal.invariant-loop-id
invariant-loop-id l = DeclaredTo (lexemes_of l.tokens) no_storage (state_of l.fn.st) (state_of l.st) (trees_at (syntax_of l.nodes) l.ids)
    (trees_at (syntax_of l.nodes) (drop l.id-index l.ids))
