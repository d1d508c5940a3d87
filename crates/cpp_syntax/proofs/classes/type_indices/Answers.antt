use Rattle.std.proofs.Common.{ℕ, ◌≡◌, ◌∙◌, ap, map, Option}
use Rattle.cpp_lex.specs.Tokens.{lexeme_of}
use Rattle.cpp_syntax.specs.Classes.{names_type, or_here}
use Rattle.cpp_syntax.proofs.TokenClasses.{type_index_more}
use Rattle.cpp_syntax.proofs.classes.type_indices.Goals as goal

pub loop-at-preserved : goal.loop-at-preserved
loop-at-preserved c = λ word.
    c.in_ok-note_type.ensures word
    ∙ ap (λ (had : Option ℕ). or_here had (names_type (map lexeme_of c.args.tokens.now) word c.loop-at.at) c.loop-at.at) (c.loop-at.invariant word)
    ∙ type_index_more (map lexeme_of c.args.tokens.now) word c.loop-at.at
