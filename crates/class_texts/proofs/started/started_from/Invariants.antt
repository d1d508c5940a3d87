use Rattle.std.proofs.Common.{◌≡◌, drop}
use Rattle.elab_init.specs.cpp_lex.Tokens.{lexemes_of}
use Rattle.elab_init.specs.elab_rules.Classes.{started_from}
use Rattle.class_members.specs.Shown.{storage_of}
use Rattle.elab_types.specs.Syntax.{syntax_of, trees_at}
use Rattle.class_texts.proofs.started.started_from.Given as goal

abbrev pub invariant-loop-i : goal.invariant-loop-i
invariant-loop-i l = started_from (lexemes_of l.tokens) (storage_of l.fn.known) (trees_at (syntax_of l.nodes) l.kids)
    ≡ started_from (lexemes_of l.tokens) (storage_of l.storage) (trees_at (syntax_of l.nodes) (drop l.i l.kids))
