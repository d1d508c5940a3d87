use Rattle.std.proofs.Common.{◌≡◌, List, drop, pos}
use Rattle.elab_expr.specs.cpp_lex.Tokens.{lexemes_of}
use Rattle.elab_expr.specs.elab_ctx.Ctx.{ctx_of, work_of}
use Rattle.elab_expr.specs.elab_rules.Statements.{Body}
use Rattle.elab_expr.specs.elab_rules.Globals.{enumerators_declared}
use Rattle.elab_expr.specs.elab_types.Syntax.{syntax_of, trees_at}
use Rattle.elab_decls.specs.Says.{counted}
use Rattle.elab_decls.proofs.enums.enumerators_declared.Given as goal

abbrev pub invariant-loop-id : goal.invariant-loop-id
invariant-loop-id l = (bodies : List Body) → enumerators_declared (lexemes_of l.tokens) l.scoped l.owner
    (counted (ctx_of l.initial.env) (work_of l.initial.work) bodies (pos 0)) (trees_at (syntax_of l.nodes) l.ids)
    ≡ enumerators_declared (lexemes_of l.tokens) l.scoped l.owner (counted (ctx_of l.env) (work_of l.work) bodies l.next)
    (trees_at (syntax_of l.nodes) (drop l.id-index l.ids))
