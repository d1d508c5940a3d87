use Rattle.std.proofs.Common.{◌≡◌, drop}
use Rattle.elab_init.specs.cpp_lex.Tokens.{lexemes_of}
use Rattle.elab_init.specs.elab_rules.Classes.{marks_from, no_marks}
use Rattle.class_members.specs.Shown.{marks_of}
use Rattle.elab_types.specs.Syntax.{syntax_of, trees_at}
use Rattle.class_texts.proofs.words.marks_from.Given as goal

abbrev pub invariant-loop-kid : goal.invariant-loop-kid
invariant-loop-kid l = marks_from (lexemes_of l.tokens) (marks_of l.found) (trees_at (syntax_of l.nodes) (drop l.kid-index l.kids))
    ≡ marks_from (lexemes_of l.tokens) no_marks (trees_at (syntax_of l.nodes) l.kids)
