use Rattle.std.proofs.Common.{◌≡◌, drop}
use Rattle.elab_expr.specs.cpp_lex.Tokens.{lexemes_of}
use Rattle.elab_expr.specs.elab_ctx.Ctx.{ctx_of}
use Rattle.elab_expr.specs.elab_rules.Members.{base_named}
use Rattle.elab_expr.specs.elab_types.Syntax.{syntax_of, trees_at}
use Rattle.class_table.proofs.class_walk.base_named.Given as goal

abbrev pub invariant-loop-kid : goal.invariant-loop-kid
invariant-loop-kid l = base_named (lexemes_of l.tokens) (ctx_of l.env) (trees_at (syntax_of l.nodes) l.kids)
    ≡ base_named (lexemes_of l.tokens) (ctx_of l.env) (trees_at (syntax_of l.nodes) (drop l.kid-index l.kids))
