use Rattle.std.proofs.Common.{◌≡◌, List, drop}
use Rattle.elab_expr.specs.cpp_lex.Tokens.{lexemes_of}
use Rattle.elab_expr.specs.elab_ctx.Ctx.{ctx_of, work_of}
use Rattle.elab_expr.specs.elab_rules.Statements.{Body}
use Rattle.elab_expr.specs.elab_rules.Classes.{members_of}
use Rattle.elab_expr.specs.elab_types.Syntax.{syntax_of, trees_at}
use Rattle.elab_expr.specs.Unmoved.{Unmoved}
use Rattle.class_members.specs.Shown.{home_of, reading}
use Rattle.class_table.proofs.member_walk.members_of.Given as goal

abbrev pub invariant-loop-id : goal.invariant-loop-id
invariant-loop-id l = record {
  kept : Unmoved l.fn.work l.work;
  left : (bodies : List Body) → members_of (lexemes_of l.tokens) (home_of l.home) (reading (ctx_of l.fn.env) (work_of l.fn.work) bodies l.fn.members)
      (trees_at (syntax_of l.nodes) l.ids) ≡ members_of (lexemes_of l.tokens) (home_of l.home) (reading (ctx_of l.env) (work_of l.fn.work) bodies l.members)
      (trees_at (syntax_of l.nodes) (drop l.id-index l.ids));
}
