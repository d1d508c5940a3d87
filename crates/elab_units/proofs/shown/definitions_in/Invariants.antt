use Rattle.std.proofs.Common.{◌≡◌, ◌++◌, drop, map}
use Rattle.elab_entry.specs.cpp_lex.Tokens.{lexemes_of}
use Rattle.elab_entry.specs.cpp_tree.Units.{definition_of}
use Rattle.elab_entry.specs.elab_ctx.Ctx.{Ctx}
use Rattle.elab_entry.specs.elab_ctx.Types.{named_of}
use Rattle.elab_entry.specs.elab_rules.Programs.{definitions_in}
use Rattle.elab_entry.specs.elab_types.Syntax.{syntax_of, trees_at}
use Rattle.elab_units.proofs.shown.definitions_in.Given as goal

abbrev pub invariant-loop-id : goal.invariant-loop-id
invariant-loop-id l = (c : Ctx) → map definition_of l.list.items
    ++ definitions_in (lexemes_of l.tokens) (record c { types = map named_of l.types }) (trees_at (syntax_of l.nodes) (drop l.id-index l.ids))
    ≡ definitions_in (lexemes_of l.tokens) (record c { types = map named_of l.types }) (trees_at (syntax_of l.nodes) l.ids)
