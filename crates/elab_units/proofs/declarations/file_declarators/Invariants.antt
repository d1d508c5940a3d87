use Rattle.std.proofs.Common.{◌≡◌, drop}
use Rattle.elab_entry.specs.cpp_lex.Tokens.{lexemes_of}
use Rattle.elab_entry.specs.cpp_types.Typ.{typ_of}
use Rattle.elab_entry.specs.elab_rules.Units.{file_declarators}
use Rattle.elab_entry.specs.elab_scopes.States.{state_of}
use Rattle.elab_entry.specs.elab_types.Syntax.{syntax_of, trees_at}
use Rattle.class_members.specs.Shown.{storage_of}
use Rattle.elab_units.proofs.declarations.file_declarators.Given as goal

abbrev pub invariant-loop-id : goal.invariant-loop-id
invariant-loop-id l = file_declarators (lexemes_of l.tokens) (storage_of l.storage) (typ_of l.ty) (state_of l.fn.st) (trees_at (syntax_of l.nodes) l.ids)
    ≡ file_declarators (lexemes_of l.tokens) (storage_of l.storage) (typ_of l.ty) (state_of l.st) (trees_at (syntax_of l.nodes) (drop l.id-index l.ids))
