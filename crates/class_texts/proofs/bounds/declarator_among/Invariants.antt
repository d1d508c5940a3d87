use Rattle.std.proofs.Common.{◌≡◌, List, drop}
use Rattle.elab_init.specs.cpp_lex.Tokens.{lexemes_of}
use Rattle.elab_init.specs.elab_ctx.Ctx.{ctx_of, Work}
use Rattle.elab_init.specs.elab_rules.Statements.{Body}
use Rattle.elab_init.specs.elab_rules.Classes.{declarator_among}
use Rattle.class_members.specs.Shown.{reading}
use Rattle.elab_types.specs.Syntax.{syntax_of, trees_at}
use Rattle.class_texts.proofs.bounds.declarator_among.Given as goal

abbrev pub invariant-loop-kid : goal.invariant-loop-kid
invariant-loop-kid l = (w : Work) (bodies : List Body)
    → declarator_among (lexemes_of l.tokens) l.class (reading (ctx_of l.env) w bodies l.members) (trees_at (syntax_of l.nodes) l.kids)
    ≡ declarator_among (lexemes_of l.tokens) l.class (reading (ctx_of l.env) w bodies l.members) (trees_at (syntax_of l.nodes) (drop l.kid-index l.kids))
