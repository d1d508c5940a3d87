use Rattle.std.proofs.Common.{Vec, subst, sym}
use Rattle.std.specs.declared.alloc.Global.{Global as Alloc}
use Rattle.elab_expr.specs.cpp_lex.Tokens.{lexemes_of}
use Rattle.elab_expr.specs.cpp_types.Typ.{typ_of}
use Rattle.elab_expr.specs.cpp_tree.declared.arena.TNode.{TNode}
use Rattle.elab_expr.specs.cpp_tree.Arena.{trees_of}
use Rattle.elab_expr.specs.cpp_tree.Units.{global_of}
use Rattle.elab_expr.specs.elab_ctx.Ctx.{ctx_of, work_of}
use Rattle.elab_expr.specs.elab_types.Syntax.{syntax_of, tree_at}
use Rattle.elab_growth.proofs.Kept.{chosen_follows, cut_again, shown_length}
use Rattle.elab_scopes.specs.Labelled.{OperandAt, operand_alone}
use Rattle.elab_scopes.proofs.Labelling.{stands_alone}
use Rattle.elab_scopes.proofs.labels.operand_alone.Goals as goal

pub returns-clause-operand : goal.returns-clause-operand
returns-clause-operand c = subst (λ (v : Vec TNode Alloc). OperandAt (trees_of c.args.work.now.nodes.items) (trees_of v.items) c.in_ok-o.o
    (operand_alone (lexemes_of c.args.tokens.now) (ctx_of c.args.env.now) (work_of c.args.work.now) (tree_at (syntax_of c.args.nodes.now) c.args.id)))
    (sym c.cut_back.ensures.nodes)
    (stands_alone _ _ _ _ _ c.in_ok-o.ensures)

pub returns-clause-kept : goal.returns-clause-kept
returns-clause-kept c = cut_again (work_of c.args.work.now) (work_of c.operand.new.work) (work_of c.cut_back.new.work) c.len-frame.result c.len-globals.result
    (chosen_follows (lexemes_of c.args.tokens.now) (ctx_of c.args.env.now) (ctx_of c.args.env.now).closures (work_of c.args.work.now)
    (tree_at (syntax_of c.args.nodes.now) c.args.id) _ c.in_ok-o.ensures.is)
    (shown_length typ_of c.args.work.now.frame c.len-frame.result c.len-frame.ensures)
    (shown_length global_of c.args.work.now.globals c.len-globals.result c.len-globals.ensures) c.cut_back.ensures.work
