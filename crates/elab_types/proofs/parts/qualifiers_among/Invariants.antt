use Rattle.std.proofs.Common.{◌≡◌, drop}
use Rattle.elab_conv.specs.cpp_lex.Tokens.{lexemes_of}
use Rattle.elab_conv.specs.elab_rules.Types.{qualifiers_from, no_qualifiers}
use Rattle.elab_types.specs.Shown.{qualifiers_of}
use Rattle.elab_types.specs.Syntax.{syntax_of, trees_at}
use Rattle.elab_types.proofs.parts.qualifiers_among.Given as goal

abbrev pub invariant-loop-kid : goal.invariant-loop-kid
invariant-loop-kid l = qualifiers_from (lexemes_of l.tokens) (qualifiers_of l.found) (trees_at (syntax_of l.nodes) (drop l.kid-index l.kids))
    ≡ qualifiers_from (lexemes_of l.tokens) no_qualifiers (trees_at (syntax_of l.nodes) l.kids)
