use Rattle.std.proofs.Common.{◌-◌, Some, refl, ◌∙◌, ap}
use Rattle.cpp_lex.specs.Tokens.{lexeme_of}
use Rattle.cpp_lex.specs.declared.Token.{Token}
use Rattle.cpp_syntax.specs.Classes.{introduces}
use Rattle.cpp_syntax.proofs.TokenClasses.{introduced_by}
use Rattle.cpp_syntax.proofs.classes.is_introduced.Goals as goal

pub returns-then-at-gt0 : goal.returns-then-at-gt0
returns-then-at-gt0 c =
    c.introduces.ensures ∙ ap (λ (t : Token). introduces (Some (lexeme_of t))) c.index-tokens-at.is
    ∙ introduced_by c.args.tokens.now c.args.at (c.args.at - 1) c.index-tokens-at.result c.if-at-gt0.true refl c.requires
