use Rattle.std.proofs.Common.{◌+◌, ◌*◌, drop}
use Rattle.elab_entry.specs.cpp_lex.Tokens.{lexemes_of}
use Rattle.elab_entry.specs.elab_scopes.States.{state_of}
use Rattle.elab_entry.specs.elab_types.Syntax.{syntax_of, trees_at}
use Rattle.class_members.specs.Shown.{storage_of}
use Rattle.elab_units.proofs.Declarings.{DeclaredTo}
use Rattle.elab_units.proofs.declarations.+declarations.Given as goal

abbrev pub decreases-declaration_of : goal.decreases-declaration_of
decreases-declaration_of l = l.id.0 * 4 + 3

abbrev pub decreases-named_declaration : goal.decreases-named_declaration
decreases-named_declaration l = l.id.0 * 4 + 2

abbrev pub decreases-linkage_of : goal.decreases-linkage_of
decreases-linkage_of l = l.id.0 * 4 + 1

abbrev pub decreases-declarations_of : goal.decreases-declarations_of
decreases-declarations_of l = l.parent.0 * 4

abbrev pub invariant-declarations_of-loop-id : goal.invariant-declarations_of-loop-id
invariant-declarations_of-loop-id l = DeclaredTo (lexemes_of l.tokens) (storage_of l.storage) (state_of l.fn.st) (state_of l.st)
    (trees_at (syntax_of l.nodes) l.ids) (trees_at (syntax_of l.nodes) (drop l.id-index l.ids))
