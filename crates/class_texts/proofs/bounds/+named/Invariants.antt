use Rattle.std.proofs.Common.{◌≡◌, ◌+◌, ◌*◌, List, drop}
use Rattle.elab_init.specs.cpp_lex.Tokens.{lexemes_of}
use Rattle.elab_init.specs.elab_ctx.Ctx.{ctx_of, Work}
use Rattle.elab_init.specs.elab_rules.Statements.{Body}
use Rattle.elab_init.specs.elab_rules.Classes.{member_among}
use Rattle.class_members.specs.Shown.{reading}
use Rattle.elab_types.specs.Syntax.{syntax_of, trees_at}
use Rattle.class_texts.proofs.bounds.+named.Given as goal

abbrev pub decreases-member_named : goal.decreases-member_named
decreases-member_named l = l.id.0 * 2 + 1

abbrev pub decreases-member_among : goal.decreases-member_among
decreases-member_among l = l.parent.0 * 2

abbrev pub invariant-member_among-loop-kid : goal.invariant-member_among-loop-kid
invariant-member_among-loop-kid l = (w : Work) (bodies : List Body)
    → member_among (lexemes_of l.tokens) l.class (reading (ctx_of l.env) w bodies l.members) (trees_at (syntax_of l.nodes) l.kids)
    ≡ member_among (lexemes_of l.tokens) l.class (reading (ctx_of l.env) w bodies l.members) (trees_at (syntax_of l.nodes) (drop l.kid-index l.kids))
