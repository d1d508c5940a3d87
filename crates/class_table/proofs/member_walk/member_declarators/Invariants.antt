use Rattle.std.proofs.Common.{◌≡◌, List, drop}
use Rattle.elab_expr.specs.cpp_lex.Tokens.{lexemes_of}
use Rattle.elab_expr.specs.cpp_types.Typ.{typ_of}
use Rattle.elab_expr.specs.elab_ctx.Ctx.{ctx_of, work_of}
use Rattle.elab_expr.specs.elab_ctx.Steps.{each_of}
use Rattle.elab_expr.specs.elab_rules.Statements.{Body}
use Rattle.elab_expr.specs.elab_rules.Classes.{member_declarator}
use Rattle.elab_expr.specs.elab_types.Syntax.{syntax_of, trees_at}
use Rattle.elab_expr.specs.Unmoved.{Unmoved}
use Rattle.class_members.specs.Shown.{home_of, reading, storage_of}
use Rattle.class_table.proofs.member_walk.member_declarators.Given as goal

abbrev pub invariant-loop-id : goal.invariant-loop-id
invariant-loop-id l = record {
  kept : Unmoved l.fn.work l.work;
  left : (bodies : List Body) → each_of (member_declarator (lexemes_of l.tokens) (home_of l.home) (storage_of l.storage) (typ_of l.ty))
      (reading (ctx_of l.fn.env) (work_of l.fn.work) bodies l.fn.members) (trees_at (syntax_of l.nodes) l.ids)
      ≡ each_of (member_declarator (lexemes_of l.tokens) (home_of l.home) (storage_of l.storage) (typ_of l.ty))
      (reading (ctx_of l.env) (work_of l.fn.work) bodies l.members) (trees_at (syntax_of l.nodes) (drop l.id-index l.ids));
}
